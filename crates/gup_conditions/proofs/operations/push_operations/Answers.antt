use Rattle.std.proofs.Common.{◌++◌}
use Rattle.gup_conditions.specs.Named.{wanted_of, ops_named}
use Rattle.gup_conditions.proofs.NamedOperations.{ops_more, ops_all}
use Rattle.gup_conditions.proofs.operations.push_operations.Goals as goal

pub loop-k-preserved : goal.loop-k-preserved
loop-k-preserved c =
    ops_more c.args.conditions.now c.args.actor c.args.ops.now c.loop-k.k c.loop-k.named.items c.push_operation.new.named.items
    (c.args.named.now.items ++ wanted_of c.args.conditions.now (ops_named c.args.actor 1 c.args.ops.now))
    c.loop-k-test.true c.in_ok-push_operation.ensures c.loop-k.invariant

pub returns : goal.returns
returns c =
    ops_all c.args.conditions.now c.args.actor c.args.ops.now c.loop-k.k c.loop-k.named.items
    (c.args.named.now.items ++ wanted_of c.args.conditions.now (ops_named c.args.actor 1 c.args.ops.now))
    c.loop-k-test.false c.loop-k.invariant
