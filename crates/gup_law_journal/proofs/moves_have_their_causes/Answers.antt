-- By the shape of the turn, and by the job of its actor.
use Rattle.gup_spec_turns.specs.Run.{turned, run_start}
use Rattle.gup_law_journal.proofs.MoveCauses.{reached_stands, untouched_exactly, busy_exactly}
use Rattle.gup_law_journal.proofs.moves_have_their_causes.Goals as goal

pub returns-clause-untouched : goal.returns-clause-untouched
returns-clause-untouched c script actors a valid =
    untouched_exactly script valid (turned script (run_start script) actors) (reached_stands c.simulates.ensures c.starts_sound.ensures script valid actors) a

pub returns-clause-busy : goal.returns-clause-busy
returns-clause-busy c script actors a valid =
    busy_exactly script valid (turned script (run_start script) actors) (reached_stands c.simulates.ensures c.starts_sound.ensures script valid actors) a
