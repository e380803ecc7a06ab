-- How far an operation that goes over pages or words is.
use Rattle.std.specs.Prelude.{ℕ, ◌<◌, Option, Some}
use Rattle.gup_base.specs.Parts.{words_of}
use Rattle.gup_script.specs.declared.op.Op.{Op}
use Rattle.gup_script.specs.declared.op.Op.TheVariants.{Unmap, Discard, Pin, Transfer}
use Rattle.gup_spec_turns.specs.Cost.{pins_turns}

-- an operation that goes over pages or words counts them, but for an unpin, which takes them off its pin, and a pin counts its turns;
-- no other needs to know how far it is
abbrev pub far_in : Option Op → (far : ℕ) → ℕ
far_in (Some (Unmap page n)) far = far
far_in (Some (Discard page n)) far = far
far_in (Some (Transfer handle outward slot parts)) far = far
far_in (Some (Pin handle page n want fast)) far = far
far_in op far = 0

-- an operation that goes over n pages or words stands at one of them, and a pin at one of its turns
abbrev pub HasFar : Op → (far : ℕ) → Type 0
HasFar (Unmap page n) far = far < n
HasFar (Discard page n) far = far < n
HasFar (Transfer handle outward slot parts) far = far < words_of parts
HasFar (Pin handle page n want fast) far = far < pins_turns fast want.long n
HasFar op far = Unit {0}
