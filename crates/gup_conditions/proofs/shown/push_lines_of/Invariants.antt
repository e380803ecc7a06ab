use Rattle.std.proofs.Common.{◌≡◌, ◌++◌, [], drop, map}
use Rattle.gup_spec_orders.specs.Orders.{tells_of}
use Rattle.gup_spec_orders.specs.Printed.{lines_from}
use Rattle.gup_conditions.specs.Line.{line_of_answer}
use Rattle.gup_conditions.proofs.shown.push_lines_of.Given as goal

-- the lines so far and those of the tells that are left
abbrev pub invariant-loop-tell : goal.invariant-loop-tell
invariant-loop-tell l =
    l.lines.items ++ map line_of_answer (lines_from l.operation l.words.items (tells_of (drop l.tell-index l.tells) l.name))
    ≡ l.fn.lines.items ++ map line_of_answer (lines_from l.operation [] (tells_of l.tells l.name))
