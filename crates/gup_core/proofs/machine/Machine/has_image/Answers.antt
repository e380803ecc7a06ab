use Rattle.std.proofs.Common.{◌≡◌, List, subst}
use Rattle.gup_image.specs.declared.fact.Fact.{Fact}
use Rattle.gup_image.specs.Alike.{image_in}
use Rattle.gup_core.specs.Images.{IsImage, imaged}
use Rattle.gup_core.specs.Machine.{MachineValue}
use Rattle.gup_core.proofs.machine.Machine.has_image.Goals as goal

pub returns : goal.returns
returns c =
    subst (λ (m : MachineValue). (facts : List Fact) → facts ≡ image_in (imaged m) → IsImage m facts) c.self.view_is c.has_image.ensures
