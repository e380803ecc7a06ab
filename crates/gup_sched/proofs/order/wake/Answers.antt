use Rattle.std.proofs.Common.{ℕ, Bool, sym, ap, ◌∙◌}
use Rattle.gup_core.specs.declared.outcome.Woken.{Woken}
use Rattle.gup_core.specs.Waking.{woken_of}
use Rattle.gup_sched.specs.Awake.{is_awake, awake_behind}
use Rattle.gup_sched.proofs.order.wake.Goals as goal

pub returns-in-Everybody-clause-awake : goal.returns-in-Everybody-clause-awake
returns-in-Everybody-clause-awake c k below =
    let old = c.args.awake.now in
    ap (λ (f : ℕ → Bool). f k) c.wake_all.ensures.awake
    ∙ sym (ap (λ (w : Woken). awake_behind (woken_of w) old.actors (is_awake old) k) c.in-Everybody.is)
