use Rattle.std.proofs.Common.{◌≡◌, ◌++◌, take}
use Rattle.gup_orders.specs.Text.{outcomes_from}
use Rattle.gup_orders.proofs.text.push_outcomes.Given as goal

-- the outcomes so far are written
abbrev pub invariant-loop-k : goal.invariant-loop-k
invariant-loop-k l = l.text.items ≡ l.initial.text.items ++ outcomes_from l.script l.common 1 (take l.k l.outcomes)
