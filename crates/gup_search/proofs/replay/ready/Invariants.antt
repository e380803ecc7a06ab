use Rattle.gup_search.proofs.Loops.{AreReadyTo}
use Rattle.gup_search.proofs.replay.ready.Given as goal

-- of the actors so far these can go
abbrev pub invariant-loop-k : goal.invariant-loop-k
invariant-loop-k l = AreReadyTo l.fn.machine l.ready.items l.k
