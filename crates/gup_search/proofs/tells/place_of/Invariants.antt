use Rattle.std.proofs.Common.{◌≤◌, ◌<◌, length, drop}
use Rattle.std.specs.List.{All}
use Rattle.gup_spec_orders.specs.declared.told.Tell.{Tell}
use Rattle.gup_search.proofs.tells.place_of.Given as goal

-- what is behind the place is of operations behind this one
abbrev pub invariant-loop-at : goal.invariant-loop-at
invariant-loop-at l = (l.at ≤ length l.tells) × All (λ (tell : Tell). l.name < tell.name) (drop l.at l.tells)

abbrev pub decreases-loop-at : goal.decreases-loop-at
decreases-loop-at l = l.at
