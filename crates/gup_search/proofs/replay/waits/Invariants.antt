use Rattle.gup_search.proofs.Loops.{AreWaitsTo}
use Rattle.gup_search.proofs.replay.waits.Given as goal

-- what the actors so far wait for
abbrev pub invariant-loop-k : goal.invariant-loop-k
invariant-loop-k l = AreWaitsTo l.fn.machine l.waits.items l.k
