use Rattle.gup_conditions.proofs.FoundOperations.{IsNoneBelow}
use Rattle.gup_conditions.proofs.read.operation.Given as goal

abbrev pub invariant-loop-a : goal.invariant-loop-a
invariant-loop-a l = IsNoneBelow l.script l.name l.k l.a
