use Rattle.std.proofs.Common.{◌≡◌, ◌++◌, take}
use Rattle.gup_orders.specs.Text.{judged_lines}
use Rattle.gup_orders.proofs.text.push_judged.Given as goal

-- the conditions so far are written
abbrev pub invariant-loop-k : goal.invariant-loop-k
invariant-loop-k l = l.text.items ≡ l.initial.text.items ++ judged_lines l.script (take l.k l.conditions) (take l.k l.verdicts)
