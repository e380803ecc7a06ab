use Rattle.gup_sched.proofs.AwakeBits.{all_actors, all_has}
use Rattle.gup_sched.proofs.awake.Awake.all.Goals as goal

pub invariant_of-result : goal.invariant_of-result
invariant_of-result c = all_actors c.args.actors c.requires

pub returns-clause-awake : goal.returns-clause-awake
returns-clause-awake c = all_has c.args.actors c.requires
