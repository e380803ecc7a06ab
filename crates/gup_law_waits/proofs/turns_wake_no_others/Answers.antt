-- By what each actor waits for.
use Rattle.gup_law_waits.proofs.Sleepers.{wakes_no_others}
use Rattle.gup_law_waits.proofs.turns_wake_no_others.Goals as goal

pub returns : goal.returns
returns c script actors a b valid = wakes_no_others c.simulates.ensures c.starts_sound.ensures script actors a b valid
