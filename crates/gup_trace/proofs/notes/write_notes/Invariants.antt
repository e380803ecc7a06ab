use Rattle.std.proofs.Common.{◌≡◌, ◌++◌, take}
use Rattle.std.specs.List.{All, flat_map}
use Rattle.gup_lines.specs.Text.{BeginsWith}
use Rattle.gup_spec_trace.specs.Note.{note_line}
use Rattle.gup_spec_trace.specs.Kept.{IsKept}
use Rattle.gup_trace.proofs.notes.write_notes.Given as goal

-- the lines of the notes so far
abbrev pub invariant-loop-note : goal.invariant-loop-note
invariant-loop-note l = record {
  lines : l.text.items ≡ l.fn.text.items ++ flat_map (note_line l.script) (take l.note-index l.notes);
  begins : BeginsWith l.text.items l.fn.text.items;
  kept : All IsKept (take l.note-index l.notes);
}
