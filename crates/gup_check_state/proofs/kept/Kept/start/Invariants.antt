use Rattle.std.proofs.Common.{◌≡◌, ℕ, IfSome, slice_get, vec_len}
use Rattle.gup_check_state.specs.Shows.{IsFirst}
use Rattle.gup_check_state.proofs.kept.Kept.start.Given as goal

-- the actors so far are at their first operations
abbrev pub invariant-loop-a : goal.invariant-loop-a
invariant-loop-a l =
    record {
      many : vec_len l.actors ≡ l.a;
      first : (k : ℕ) → IfSome (slice_get l.actors.items k) (IsFirst l.script k);
    }
