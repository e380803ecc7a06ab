use Rattle.std.proofs.Common.{◌≡◌, ◌<◌, ℕ, length, slice_get, Some, if◌then◌else◌}
use Rattle.gup_spec_journal.specs.Place.{starts_born}
use Rattle.gup_op_waits.specs.declared.births.Birth.TheVariants.{Unborn, Born}
use Rattle.gup_op_waits.proofs.births.first.Given as goal

-- those so far are as they start
abbrev pub invariant-loop-p : goal.invariant-loop-p
invariant-loop-p l =
    record {
      many : length l.births.items ≡ l.p;
      births : (q : ℕ) → q < l.p → slice_get l.births.items q ≡ Some (if starts_born l.script q then Born else Unborn);
    }
