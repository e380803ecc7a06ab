-- By the operation.
use Rattle.gup_law_mirrors.proofs.InvalidatingTurns.{invalidated_is}
use Rattle.gup_law_mirrors.proofs.turns_invalidate_pages.Goals as goal

pub returns : goal.returns
returns c s a p slots far op valid maps q g some = invalidated_is s a p slots far op valid maps q g some
