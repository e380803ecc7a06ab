use Rattle.gup_sched.proofs.AwakeBits.{all_actors, all_has}
use Rattle.gup_sched.proofs.awake.Awake.wake_all.Goals as goal

pub invariant_of-self : goal.invariant_of-self
invariant_of-self c = all_actors c.self.inside.actors c.self.invariant.few

pub returns-clause-awake : goal.returns-clause-awake
returns-clause-awake c = rw (← c.self.view_is) (all_has c.self.inside.actors c.self.invariant.few)
