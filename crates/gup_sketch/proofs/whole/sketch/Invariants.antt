use Rattle.std.proofs.Common.{length}
use Rattle.gup_sketch.proofs.Going.{IsGoing}
use Rattle.gup_sketch.proofs.whole.sketch.Given as goal

-- the machine goes along the turns
abbrev pub invariant-loop-turn : goal.invariant-loop-turn
invariant-loop-turn l = IsGoing l.script l.notes l.rest l.replay

-- the notes that are left
abbrev pub decreases-loop-turn : goal.decreases-loop-turn
decreases-loop-turn l = length l.rest
