use Rattle.std.proofs.Common.{arith}
use Rattle.gup_live.proofs.FewOperations.{some_of_all}
use Rattle.gup_live.proofs.threads.run_actor.Goals as goal

pub overflow_cast-operations : goal.overflow_cast-operations
overflow_cast-operations g c =
    let fewer = some_of_all c.args.script.now.actors c.args.actor c.ops.result.now c.requires.actor c.ops.ensures in
    let few = c.actors-actors.ensures.valid.few_ops in
    omega (arith, fewer, few)
