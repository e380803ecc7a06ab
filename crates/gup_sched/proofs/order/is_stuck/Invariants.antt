use Rattle.std.proofs.Common.{◌≡◌, ℕ, ◌<◌, true}
use Rattle.gup_spec_journal.specs.Place.{has_finished}
use Rattle.gup_spec_turns.specs.Run.{RunState}
use Rattle.gup_core.specs.Machine.{Shows}
use Rattle.gup_sched.proofs.order.is_stuck.Given as goal

-- the actors so far have finished
abbrev pub invariant-loop-k : goal.invariant-loop-k
invariant-loop-k l = (r : RunState) → Shows l.machine r → (a : ℕ) → a < l.k → has_finished l.machine.script a (r.places a) ≡ true
