use Rattle.gup_search.proofs.Loops.{IsBackTo}
use Rattle.gup_search.proofs.graph.Graph.path_to.Given as goal

-- the path so far, and the rest of each way back
abbrev pub invariant-loop-step : goal.invariant-loop-step
invariant-loop-step l = IsBackTo l.fn.self.steps.items l.fn.i l.at l.path.items

abbrev pub decreases-loop-step : goal.decreases-loop-step
decreases-loop-step l = l.at
