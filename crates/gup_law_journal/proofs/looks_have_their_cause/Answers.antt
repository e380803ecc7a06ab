-- By the shape of the turn, and by what is in its slot.
use Rattle.gup_spec_turns.specs.Run.{turned, run_start}
use Rattle.gup_law_journal.proofs.LookCauses.{stale_exactly}
use Rattle.gup_law_journal.proofs.MoveCauses.{reached_stands}
use Rattle.gup_law_journal.proofs.looks_have_their_cause.Goals as goal

pub returns : goal.returns
returns c script actors a valid =
    stale_exactly script valid (turned script (run_start script) actors) (reached_stands c.simulates.ensures c.starts_sound.ensures script valid actors) a
