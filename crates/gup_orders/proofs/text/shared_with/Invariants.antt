use Rattle.std.proofs.Common.{◌≡◌, filter, take}
use Rattle.gup_orders.specs.Text.{all_have}
use Rattle.gup_orders.proofs.text.shared_with.Given as goal

-- those of the lines so far that all others have
abbrev pub invariant-loop-line : goal.invariant-loop-line
invariant-loop-line l = l.common.items ≡ filter (all_have l.others) (take l.line-index l.lines)
