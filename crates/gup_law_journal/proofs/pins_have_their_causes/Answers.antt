-- By the shape of the turn, and by the job of its actor.
use Rattle.gup_spec_turns.specs.Run.{turned, run_start}
use Rattle.gup_law_journal.proofs.MoveCauses.{reached_stands}
use Rattle.gup_law_journal.proofs.PinCauses.{unmovable_exactly}
use Rattle.gup_law_journal.proofs.pins_have_their_causes.Goals as goal

pub returns : goal.returns
returns c script actors a valid =
    unmovable_exactly script valid (turned script (run_start script) actors) (reached_stands c.simulates.ensures c.starts_sound.ensures script valid actors) a
