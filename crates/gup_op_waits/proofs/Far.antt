-- How far operations go.
use Rattle.std.proofs.Common.{ℕ, Bool, true, false, ◌+◌, ◌<◌, ◌≤◌, arith}
use Rattle.gup_script.specs.declared.op.Op.{Op}
use Rattle.gup_script.specs.declared.op.Op.TheVariants.{Unmap, Pin}
use Rattle.gup_script.specs.Limits.{most_pinned}
use Rattle.gup_script.specs.Valid.{IsOp}
use Rattle.gup_spec_turns.specs.Cost.{pins_turns}
use Rattle.gup_op_base.specs.Far.{HasFar}
use Rattle.gup_op_waits.specs.Seats.{far_behind}

-- a pin has 131 turns at most
pins_below : (fast long : Bool) (n far : ℕ) → n ≤ most_pinned → far < pins_turns fast long n → far + 1 ≤ 1024
pins_below true true n far most has = omega (arith, most, has)
pins_below true false n far most has = omega (arith, most, has)
pins_below false true n far most has = omega (arith, most, has)
pins_below false false n far most has = omega (arith, most, has)

-- an operation that goes over pages or words goes over 1,024 at most
pub far_below : (op : Op) (far : ℕ) → IsOp op → HasFar op far → far_behind op far ≤ 1024
far_below (Unmap page n) far is has = omega arith
far_below (Pin handle page n want fast) far is has = pins_below fast want.long n far is.1 has
far_below op far is has = omega arith
