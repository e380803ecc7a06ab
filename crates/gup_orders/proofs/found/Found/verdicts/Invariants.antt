use Rattle.std.proofs.Common.{◌≡◌, take}
use Rattle.gup_orders.specs.Found.{verdicts_on}
use Rattle.gup_orders.proofs.found.Found.verdicts.Given as goal

-- the conditions so far are judged
abbrev pub invariant-loop-condition : goal.invariant-loop-condition
invariant-loop-condition l = l.verdicts.items ≡ verdicts_on l.self (take l.condition-index l.conditions)
