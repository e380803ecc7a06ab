use Rattle.std.proofs.Common.{◌≡◌, ◌++◌, take}
use Rattle.gup_conditions.specs.Condition.{wanted_text}
use Rattle.gup_orders.proofs.text.push_wanted.Given as goal

-- the lines so far are written
abbrev pub invariant-loop-k : goal.invariant-loop-k
invariant-loop-k l = l.text.items ≡ l.initial.text.items ++ wanted_text l.script (take l.k l.lines)
