use Rattle.gup_trace.proofs.Fronts.{begins_on}
use Rattle.gup_trace.proofs.Lines.{more_lines, more_kept}
use Rattle.gup_trace.proofs.notes.write_notes.Goals as goal

pub loop-note-preserved : goal.loop-note-preserved
loop-note-preserved c = record {
  lines = more_lines c.args.script.now c.args.notes.now c.loop-note.note-index c.note-item.result c.args.text.now.items c.loop-note.text.items c.write_note.new.text.items c.loop-note-test.true c.note-item.is c.loop-note.invariant.lines c.in_ok-write_note.ensures.ok;
  begins = begins_on c.args.text.now.items c.loop-note.text.items c.write_note.new.text.items _ c.loop-note.invariant.begins c.in_ok-write_note.ensures.ok;
  kept = more_kept c.args.notes.now c.loop-note.note-index c.note-item.result c.loop-note-test.true c.note-item.is c.loop-note.invariant.kept c.in_ok-write_note.ensures.kept;
}
