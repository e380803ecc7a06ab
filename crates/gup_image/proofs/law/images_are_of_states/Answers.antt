-- Part by part.
use Rattle.gup_image.proofs.Canonical.{canonical}
use Rattle.gup_image.proofs.law.images_are_of_states.Goals as goal

pub returns : goal.returns
returns c = canonical
