-- What stands after the turns before says both of the next.
use Rattle.gup_spec_turns.specs.Run.{turned, run_start}
use Rattle.gup_law_turns.proofs.TurnRuns.{turned_stands}
use Rattle.gup_law_turns.proofs.StandingTurns.{same_plain}
use Rattle.gup_law_turns.proofs.TurnSteps.{taken}
use Rattle.gup_law_turns.proofs.turns_can_happen.Goals as goal

pub returns-clause-can : goal.returns-clause-can
returns-clause-can c script actors a valid =
    (taken script valid (turned script (run_start script) actors) (turned_stands c.simulates.ensures c.starts_sound.ensures script valid actors) a).done.can

pub returns-clause-same : goal.returns-clause-same
returns-clause-same c script actors a valid =
    same_plain c.simulates.ensures script valid (turned script (run_start script) actors) (turned_stands c.simulates.ensures c.starts_sound.ensures script valid actors) a
