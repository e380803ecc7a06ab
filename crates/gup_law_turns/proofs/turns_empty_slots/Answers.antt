-- What stands after the turns before says what the next one leaves of slots.
use Rattle.gup_spec_turns.specs.Run.{turned, run_start}
use Rattle.gup_law_turns.proofs.TurnRuns.{turned_stands}
use Rattle.gup_law_turns.proofs.TurnSteps.{slots_left}
use Rattle.gup_law_turns.proofs.turns_empty_slots.Goals as goal

pub returns : goal.returns
returns c script actors a valid =
    slots_left script valid (turned script (run_start script) actors) (turned_stands c.simulates.ensures c.starts_sound.ensures script valid actors) a
