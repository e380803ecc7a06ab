use Rattle.std.proofs.Common.{ℕ, Bool, ap}
use Rattle.gup_sched.proofs.order.wake_one.Goals as goal

pub returns-then-get-from-clause-awake : goal.returns-then-get-from-clause-awake
returns-then-get-from-clause-awake c k below = ap (λ (f : ℕ → Bool). f k) c.wake.ensures.awake
