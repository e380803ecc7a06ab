-- The image of a machine.
use Rattle.std.specs.Prelude.{◌≡◌, List}
use Rattle.gup_image.specs.declared.fact.Fact.{Fact}
use Rattle.gup_image.specs.Alike.{Imaged, IsWhole, image_in}
use Rattle.gup_core.specs.Machine.{MachineValue, IsMachine}

-- What an image is made of: all but the script and how many turns are over.
abbrev pub imaged : MachineValue → Imaged
imaged m = record { parts = m.parts; mirrors = m.mirrors; seats = m.seats; pool = m.pool }

-- the facts are the image of a machine, past which there is nothing
pub record IsImage (m : MachineValue) (facts : List Fact) : Type 0 where
  pub machine : IsMachine m
  pub whole : IsWhole (imaged m)
  pub all : facts ≡ image_in (imaged m)
