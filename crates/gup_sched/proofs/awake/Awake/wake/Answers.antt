use Rattle.std.proofs.Common.{ℕ, ◌<◌, true, sym, ap, subst, ◌∙◌, arith}
use Rattle.gup_plain.specs.Put.{put}
use Rattle.gup_sched.specs.Awake.{has}
use Rattle.gup_sched.proofs.AwakeBits.{has-insert, inserted_actors}
use Rattle.gup_sched.proofs.awake.Awake.wake.Goals as goal

pub invariant_of-self : goal.invariant_of-self
invariant_of-self c =
    let there : c.args.actor < c.self.inside.actors = rw (← c.self.view_is) at c.requires in
    let within : c.get.result < c.self.inside.actors = subst (λ (k : ℕ). k < c.self.inside.actors) (sym c.get.ensures.value) there in
    inserted_actors c.self.inside.actors c.self.inside.bits c.get.result c.self.invariant within

pub returns-clause-awake : goal.returns-clause-awake
returns-clause-awake c =
    let small : c.get.result < 128 = omega arith in
    rw (← c.self.view_is) (has-insert c.self.inside.bits c.get.result small ∙ ap (λ (k : ℕ). put k true (has c.self.inside.bits)) c.get.ensures.value)
