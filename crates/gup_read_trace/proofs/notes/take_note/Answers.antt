use Rattle.gup_spec_trace.specs.Trace.{IsNoLine}
use Rattle.gup_read_trace.proofs.NoteLines.{no_note}
use Rattle.gup_read_trace.proofs.notes.take_note.Goals as goal

pub returns-in_default-2 : goal.returns-in_default-2
returns-in_default-2 c =
    let none : IsNoLine c.args.script.now c.in-Some.line.now = rw c.in_default-2.is at c.in_ok-note.ensures.found in
    no_note c.args.script.now c.args.rest.now c.in-Some.line.now c.in-Some.behind.now c.requires.names c.in-Some.ensures none
