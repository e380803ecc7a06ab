use Rattle.std.proofs.Common.{◌≡◌, ◌++◌, drop}
use Rattle.std.specs.List.{flat_map}
use Rattle.gup_lines.specs.Moved.{words_of}
use Rattle.gup_lines.specs.Text.{outcomes_from, line_of, text_of, BeginsWith}
use Rattle.gup_lines.proofs.lines.write_lines.Given as goal

-- the lines so far, and after them those of the other notes, are all
abbrev pub invariant-loop-note : goal.invariant-loop-note
invariant-loop-note l = record {
  lines : l.text.items ++ flat_map (line_of l.script) (outcomes_from (words_of l.moved) (drop l.note-index l.notes)) ≡ l.initial.text.items ++ text_of l.script l.notes;
  begins : BeginsWith l.text.items l.initial.text.items;
}
