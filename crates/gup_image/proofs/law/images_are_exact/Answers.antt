-- Each fact of either image is true of the other machine.
use Rattle.gup_image.proofs.Exact.{exact_parts, exact_mirrors, exact_pool, exact_seats}
use Rattle.gup_image.proofs.law.images_are_exact.Goals as goal

pub returns-clause-parts : goal.returns-clause-parts
returns-clause-parts c m n s both same shown = exact_parts m n both same s shown

pub returns-clause-mirrors : goal.returns-clause-mirrors
returns-clause-mirrors c m n s both same shown = exact_mirrors m n both same s shown

pub returns-clause-pool : goal.returns-clause-pool
returns-clause-pool c m n s both same shown = exact_pool m n both same s shown

pub returns-clause-seats : goal.returns-clause-seats
returns-clause-seats c m n both same = exact_seats m n both same
