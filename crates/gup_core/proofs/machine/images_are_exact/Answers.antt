use Rattle.std.proofs.Common.{◌≡◌, sym, ◌∙◌}
use Rattle.gup_image.specs.Alike.{image_in}
use Rattle.gup_core.specs.Images.{imaged}
use Rattle.gup_core.proofs.Images.{of_one, exact}
use Rattle.gup_core.proofs.machine.images_are_exact.Goals as goal

pub returns : goal.returns
returns c m n facts r same a b h =
    let one = of_one m n facts facts same a b in
    let equal : image_in (imaged m) ≡ image_in (imaged n) = sym a.all ∙ b.all in
    let law = c.images_are_exact.ensures in
    exact m n r same one.seats (law.seats (imaged m) (imaged n) one equal) (law.parts (imaged m) (imaged n) r.core one equal) (law.mirrors (imaged m) (imaged n) r.core one equal) (law.pool (imaged m) (imaged n) r.core one equal) h
