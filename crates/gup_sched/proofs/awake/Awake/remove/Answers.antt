use Rattle.std.proofs.Common.{ℕ, ◌<◌, ◌^◌, false, ap, ◌∙◌, arith}
use Rattle.gup_plain.specs.Put.{put}
use Rattle.gup_sched.specs.Awake.{has}
use Rattle.gup_sched.proofs.AwakeBits.{has-remove, removed_actors}
use Rattle.gup_sched.proofs.awake.Awake.remove.Goals as goal

pub invariant_of-self : goal.invariant_of-self
invariant_of-self c =
    let fits : c.self.inside.bits < 2 ^ 128 = omega arith in
    let small : c.get.result < 128 = omega arith in
    removed_actors c.self.inside.actors c.self.inside.bits c.get.result c.self.invariant fits small

pub returns-clause-awake : goal.returns-clause-awake
returns-clause-awake c =
    let fits : c.self.inside.bits < 2 ^ 128 = omega arith in
    let small : c.get.result < 128 = omega arith in
    rw (← c.self.view_is) (has-remove c.self.inside.bits c.get.result fits small ∙ ap (λ (k : ℕ). put k false (has c.self.inside.bits)) c.get.ensures.value)
