use Rattle.std.proofs.Common.{sym, ap, ◌∙◌, take_all, arith}
use Rattle.gup_summary.proofs.Counts.{answers_over, oks_over, answers_counted, oks_counted, few_of_first}
use Rattle.gup_summary.proofs.counting.Counts.of.Goals as goal

pub add-requires-clause-answers : goal.add-requires-clause-answers
add-requires-clause-answers c =
    let few = few_of_first c.loop-note.note-index c.notes-note-items.result.now in
    omega (arith, few.0, c.loop-note.invariant.0, c.loop-note-test.true, c.notes-note-items.type_inv.0)

pub add-requires-clause-ok : goal.add-requires-clause-ok
add-requires-clause-ok c =
    let few = few_of_first c.loop-note.note-index c.notes-note-items.result.now in
    omega (arith, few.1, c.loop-note.invariant.1, c.loop-note-test.true, c.notes-note-items.type_inv.0)

pub returns-clause-answers : goal.returns-clause-answers
returns-clause-answers c =
    let notes = c.notes-note-items.result.now in
    c.loop-note.invariant.0
    ∙ ap answers_over (take_all c.loop-note.note-index notes c.loop-note-test.false ∙ c.notes-note-items.ensures)
    ∙ sym (answers_counted c.args.journal.now.notes)

pub returns-clause-ok : goal.returns-clause-ok
returns-clause-ok c =
    let notes = c.notes-note-items.result.now in
    c.loop-note.invariant.1
    ∙ ap oks_over (take_all c.loop-note.note-index notes c.loop-note-test.false ∙ c.notes-note-items.ensures)
    ∙ sym (oks_counted c.args.journal.now.notes)
