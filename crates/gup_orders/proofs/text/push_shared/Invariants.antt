use Rattle.std.proofs.Common.{◌≡◌, ◌++◌, take}
use Rattle.std.specs.List.{flat_map}
use Rattle.gup_orders.specs.Text.{shared_line}
use Rattle.gup_orders.proofs.text.push_shared.Given as goal

-- the lines so far are written
abbrev pub invariant-loop-line : goal.invariant-loop-line
invariant-loop-line l = l.text.items ≡ l.initial.text.items ++ flat_map (shared_line l.script l.is_open) (take l.line-index l.common)
