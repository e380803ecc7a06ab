use Rattle.std.proofs.Common.{◌++◌, [], map}
use Rattle.gup_spec_orders.specs.Orders.{tells_of}
use Rattle.gup_spec_orders.specs.Printed.{lines_from}
use Rattle.gup_conditions.specs.Line.{line_of_answer}
use Rattle.gup_conditions.proofs.ShownLines.{told_more, told_other, told_all}
use Rattle.gup_conditions.proofs.shown.push_lines_of.Goals as goal
use Rattle.gup_conditions.proofs.shown.push_lines_of.Goals.{then-tell-name+in_ok-push_told, else-tell-name}

pub loop-tell-preserved : goal.loop-tell-preserved
loop-tell-preserved c =
    let operation = c.args.operation.now in
    let tells = c.args.tells.now in
    let name = c.args.name in
    let i = c.loop-tell.tell-index in
    let all = c.args.lines.now.items ++ map line_of_answer (lines_from operation [] (tells_of tells name)) in
    elim c.if-tell-name.branch [
      | then-tell-name+in_ok-push_told w ↦
          rw (w.lines-is, w.words-is)
          (told_more operation tells i _ name c.loop-tell.lines.items w.push_told.new.lines.items all c.loop-tell.words.items w.push_told.new.words.items c.loop-tell-test.true w.if-tell-name.true w.in_ok-push_told.ensures c.loop-tell.invariant)
      | else-tell-name w ↦
          rw (w.lines-is, w.words-is)
          (told_other operation tells i _ name c.loop-tell.lines.items all c.loop-tell.words.items c.loop-tell-test.true w.if-tell-name.false c.loop-tell.invariant)
    ]

pub returns : goal.returns
returns c =
    let operation = c.args.operation.now in
    told_all operation c.args.tells.now c.loop-tell.tell-index c.args.name c.loop-tell.lines.items (c.args.lines.now.items ++ map line_of_answer (lines_from operation [] (tells_of c.args.tells.now c.args.name))) c.loop-tell.words.items
    c.loop-tell-test.false c.loop-tell.invariant
