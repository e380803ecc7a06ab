-- How many actors a reader holds: no more than there are numbers for.
use Rattle.std.specs.Prelude.{◌≡◌, ◌<◌, ◌≤◌, false}
use Rattle.gup_script.specs.declared.op.Kind.{Kind}
use Rattle.gup_script.specs.declared.op.Kind.TheVariants.{Thread, Device, Mover}
use Rattle.gup_spec_grammar.specs.Outline.{Outline, is_device, is_mover, how_many, has_mover}
use Rattle.gup_script.specs.Script.{is_thread}

pub record IsWithin (st : Outline) : Type 0 where
  pub threads : how_many is_thread st ≤ 64
  pub devices : how_many is_device st ≤ 16
  pub movers : how_many is_mover st ≤ 1

-- there may be one more actor of this kind
abbrev pub HasRoomFor : Kind → Outline → Type 0
HasRoomFor (Thread p) st = how_many is_thread st < 64
HasRoomFor (Device slots) st = how_many is_device st < 16
HasRoomFor Mover st = has_mover st ≡ false
