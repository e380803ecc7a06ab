use Rattle.std.proofs.Common.{◌≡◌, ◌++◌, drop, map}
use Rattle.gup_spec_orders.specs.Printed.{lines_told, lines_told_from}
use Rattle.gup_conditions.specs.Line.{line_of_answer}
use Rattle.gup_conditions.proofs.shown.Shown.of.Given as goal

-- the lines so far and those of the operations that are left
abbrev pub invariant-loop-k : goal.invariant-loop-k
invariant-loop-k l =
    l.lines.items ++ map line_of_answer (lines_told_from l.k (drop l.k l.named) l.outcome.tells.items)
    ≡ map line_of_answer (lines_told l.named l.outcome.tells.items)
