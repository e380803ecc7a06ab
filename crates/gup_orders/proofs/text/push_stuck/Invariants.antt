use Rattle.std.proofs.Common.{◌≡◌, ◌++◌}
use Rattle.gup_orders.specs.Text.{stuck_among}
use Rattle.gup_orders.proofs.text.push_stuck.Given as goal

-- those of the actors so far are written
abbrev pub invariant-loop-k : goal.invariant-loop-k
invariant-loop-k l = l.text.items ≡ l.initial.text.items ++ stuck_among l.script l.waits l.k
