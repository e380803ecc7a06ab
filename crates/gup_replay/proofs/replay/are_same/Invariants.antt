use Rattle.std.proofs.Common.{◌≡◌, take}
use Rattle.gup_replay.proofs.replay.are_same.Given as goal

-- so far they are the same
abbrev pub invariant-loop-k : goal.invariant-loop-k
invariant-loop-k l = take l.k l.these ≡ take l.k l.those
