use Rattle.gup_orders.specs.Shows.{AreShownOf}
use Rattle.gup_orders.proofs.found.all_shown.Given as goal

-- those so far are shown
abbrev pub invariant-loop-outcome : goal.invariant-loop-outcome
invariant-loop-outcome l = AreShownOf l.named l.yielded l.shown.items
