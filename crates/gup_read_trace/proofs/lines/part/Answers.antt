use Rattle.std.proofs.Common.{◌≡◌, false, true, arith}
use Rattle.gup_read_trace.proofs.Ahead.{size_left, lines_below, one_more, no_journal, journal_here}
use Rattle.gup_read_trace.proofs.lines.part.Goals as goal

pub returns-then-is_journal : goal.returns-then-is_journal
returns-then-is_journal c =
    journal_here c.args.text.now c.loop-line.front c.loop-line.lines c.loop-line.rest.now c.in-Some.line.now c.in-Some.behind.now c.loop-line.invariant c.in-Some.ensures (c.is_journal.ensures.0 c.if-is_journal.true)

pub overflow_add-lines : goal.overflow_add-lines
overflow_add-lines c =
    let size = size_left c.args.text.now c.loop-line.front c.loop-line.lines c.loop-line.rest.now c.loop-line.invariant in
    let few = lines_below c.args.text.now c.loop-line.front c.loop-line.lines c.loop-line.rest.now c.loop-line.invariant in
    omega (arith, c.requires)

pub loop-line-preserved : goal.loop-line-preserved
loop-line-preserved c =
    one_more c.args.text.now c.loop-line.front c.loop-line.lines c.loop-line.rest.now c.in-Some.line.now c.in-Some.behind.now c.loop-line.invariant c.in-Some.ensures (λ same. let yes : false ≡ true = c.if-is_journal.ensures.1 same in absurd cc)

pub returns : goal.returns
returns c = no_journal c.args.text.now c.loop-line.front c.loop-line.lines c.loop-line.rest.now c.loop-line.invariant c.in_default.ensures
