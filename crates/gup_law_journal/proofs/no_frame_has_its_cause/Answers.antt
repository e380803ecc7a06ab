-- By the operation that the actor stands at.
use Rattle.gup_law_journal.proofs.FoundFrames.{lacks_exactly}
use Rattle.gup_law_journal.proofs.no_frame_has_its_cause.Goals as goal

pub returns : goal.returns
returns c script r a = lacks_exactly script r a
