use Rattle.std.proofs.Common.{◌-◌}
use Rattle.gup_search.specs.Explored.{IsSearch}
use Rattle.gup_search.proofs.search.explore.Given as goal

-- the states so far are expanded
abbrev pub invariant-loop-i : goal.invariant-loop-i
invariant-loop-i l = IsSearch l.fn.script l.fn.behind l.fn.named l.fn.limit l.graph l.ends l.i

abbrev pub decreases-loop-i : goal.decreases-loop-i
decreases-loop-i l = l.fn.limit - l.i
