use Rattle.std.proofs.Common.{sym, ◌∙◌}
use Rattle.gup_core.specs.Images.{imaged}
use Rattle.gup_core.proofs.Images.{of_one, same_seats}
use Rattle.gup_core.proofs.machine.images_are_of_states.Goals as goal

pub returns : goal.returns
returns c m n a b r valid same i j h k =
    i.all
    ∙ c.images_are_of_states.ensures (imaged m) (imaged n) r.core (of_one m n a b same i j) h.parts k.parts h.mirrors k.mirrors h.pool k.pool
    (same_seats m n r c.reached_states_stand.ensures valid same h k)
    ∙ sym j.all
