use Rattle.std.proofs.Common.{arith, Some}
use Rattle.gup_read_trace.specs.Notes.{IsTaken}
use Rattle.gup_read_trace.proofs.Taken.{one_taken, number_below, line_shorter}
use Rattle.gup_read_trace.proofs.notes.read_notes.Goals as goal

pub overflow_add-number-in-loop-rest : goal.overflow_add-number-in-loop-rest
overflow_add-number-in-loop-rest c =
    let s = c.args.script.now in
    let notes = c.loop-rest.journal.notes in
    let taken : IsTaken s c.loop-rest.rest.now notes c.take_note.new.journal.notes (Some c.in-Ok-Some.behind) =
    rw c.in-Ok-Some.field-0-is at c.in-Ok-Some.ensures in
    let below = number_below s c.args.text.now c.args.lines notes c.loop-rest.number c.loop-rest.rest.now c.loop-rest.invariant in
    let shorter = line_shorter s taken.0 c.loop-rest.rest.now c.in-Ok-Some.behind.now taken.2 in
    omega (arith, c.requires.fits)

pub loop-rest-preserved : goal.loop-rest-preserved
loop-rest-preserved c =
    let s = c.args.script.now in
    let notes = c.loop-rest.journal.notes in
    let taken : IsTaken s c.loop-rest.rest.now notes c.take_note.new.journal.notes (Some c.in-Ok-Some.behind) =
    rw c.in-Ok-Some.field-0-is at c.in-Ok-Some.ensures in
    rw taken.3 (one_taken s c.args.text.now c.args.lines notes c.loop-rest.number c.loop-rest.rest.now taken.0 c.in-Ok-Some.behind.now c.loop-rest.invariant taken.1 taken.2)
