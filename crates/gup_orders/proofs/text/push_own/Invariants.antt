use Rattle.std.proofs.Common.{◌≡◌, ◌++◌, filter, not, take}
use Rattle.std.specs.List.{flat_map}
use Rattle.gup_conditions.specs.Line.{LineValue, has_line}
use Rattle.gup_orders.specs.Text.{with_line_feed}
use Rattle.gup_orders.proofs.text.push_own.Given as goal

-- of the lines so far those are written that not all share
abbrev pub invariant-loop-line : goal.invariant-loop-line
invariant-loop-line l =
    l.text.items
    ≡ l.initial.text.items ++ flat_map (with_line_feed l.script) (filter (λ (line : LineValue). not (has_line l.common line)) (take l.line-index l.lines))
