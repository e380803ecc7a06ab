use Rattle.std.proofs.Common.{◌≡◌, ◌≤◌, nat_lt}
use Rattle.gup_bits.specs.Bits.{has, room_of}
use Rattle.gup_bits.proofs.bitmap.Bitmap.below.Given as goal

abbrev pub invariant-loop-k : goal.invariant-loop-k
invariant-loop-k l = (has l.set ≡ (λ k. nat_lt k l.k)) × (l.n ≤ room_of l.set)
