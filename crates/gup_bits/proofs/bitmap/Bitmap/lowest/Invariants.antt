use Rattle.std.proofs.Common.{◌≡◌, ℕ, ◌-◌, ◌≤◌, ◌<◌, false}
use Rattle.gup_bits.specs.Bits.{has}
use Rattle.gup_bits.proofs.bitmap.Bitmap.lowest.Given as goal

-- those passed so far aren't in the set
abbrev pub invariant-loop-low : goal.invariant-loop-low
invariant-loop-low l = (l.first ≤ l.low) × ((k : ℕ) → l.first ≤ k → k < l.low → has l.words k ≡ false)

abbrev pub decreases-loop-low : goal.decreases-loop-low
decreases-loop-low l = l.end - l.low
