use Rattle.std.proofs.Common.{◌≡◌, ℕ, List, length, slice_get, Option, Some}
use Rattle.gup_spec_journal.specs.Place.{doer}
use Rattle.gup_op_waits.specs.Stores.{IsEmptyStore}
use Rattle.gup_op_waits.proofs.parts.empty_stores.Given as goal

-- the stores of so many actors
abbrev pub invariant-loop-a : goal.invariant-loop-a
invariant-loop-a l =
    record {
      many : length l.stores.items ≡ l.a;
      empty : (b : ℕ) (store : Option (List ℕ)) → slice_get l.stores.items b ≡ Some store → IsEmptyStore (doer l.script b).slots store;
    }
