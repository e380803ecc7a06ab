use Rattle.std.proofs.Common.{◌≡◌, ℕ, length, All}
use Rattle.arrayvec.specs.ArrayVec.{ArrayVec}
use Rattle.gup_op_waits.proofs.parts.empty_pins.Given as goal

-- so many actors so far
abbrev pub invariant-loop-a : goal.invariant-loop-a
invariant-loop-a l =
    record {
      many : length l.taken.items ≡ l._a;
      empty : All (λ (pages : ArrayVec ℕ). length pages.items ≡ 0) l.taken.items;
    }
