use Rattle.std.proofs.Common.{◌≡◌, ℕ, ◌<◌, None, length, slice_get}
use Rattle.gup_check_state.specs.Presence.{op_at}
use Rattle.gup_check.proofs.verdict.have_ended.Given as goal

abbrev pub invariant-loop-a : goal.invariant-loop-a
invariant-loop-a l =
    (l.a-end ≡ length l.fn.script.actors)
    × ((b : ℕ) → b < l.a → op_at l.fn.script b (slice_get l.fn.kept.actors.items b) ≡ None)
