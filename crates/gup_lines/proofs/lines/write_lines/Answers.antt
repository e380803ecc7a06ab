use Rattle.std.proofs.Common.{ℕ, ◌∙◌, List, ◌++◌, ap, sym, append-nil}
use Rattle.std.specs.List.{flat_map}
use Rattle.std.proofs.lemmas.List.{at_drop_all}
use Rattle.gup_plain.specs.Note.{NoteValue}
use Rattle.gup_lines.specs.Moved.{words_of}
use Rattle.gup_lines.specs.Text.{outcomes_from, line_of}
use Rattle.gup_lines.proofs.Fronts.{begins-self, begins-then, begins-trans}
use Rattle.gup_lines.proofs.Moved.{written_more}
use Rattle.gup_lines.proofs.lines.write_lines.Goals as goal

-- nobody has moved a word
pub loop-note-init : goal.loop-note-init
loop-note-init c = record {
  lines = ap (λ (moved : ℕ → List ℕ). c.args.text.now.items ++ flat_map (line_of c.args.script.now) (outcomes_from moved c.args.notes.now)) c.in_ok-moved.ensures;
  begins = begins-self c.args.text.now.items;
}

-- the line of the note is after the others
pub loop-note-preserved : goal.loop-note-preserved
loop-note-preserved c = record {
  lines =
      written_more (line_of c.args.script.now) (words_of c.loop-note.moved) (words_of c.pass_note.new.moved) c.loop-note.text.items c.pass_note.new.text.items _ c.args.notes.now c.loop-note.note-index c.note-item.result
      c.loop-note-test.true c.note-item.is c.in_ok-pass_note.ensures.moved c.in_ok-pass_note.ensures.text c.loop-note.invariant.lines;
  begins =
      begins-trans c.pass_note.new.text.items c.loop-note.text.items c.args.text.now.items
      (begins-then c.pass_note.new.text.items c.pass_note.new.text.items c.loop-note.text.items _ c.in_ok-pass_note.ensures.text (begins-self c.pass_note.new.text.items)) c.loop-note.invariant.begins;
}

-- no note is left
pub returns-clause-ok : goal.returns-clause-ok
returns-clause-ok c =
    sym (append-nil c.loop-note.text.items)
    ∙ ap (λ (rest : List ℕ). c.loop-note.text.items ++ rest) (sym (at_drop_all (λ (notes : List NoteValue). flat_map (line_of c.args.script.now) (outcomes_from (words_of c.loop-note.moved) notes)) c.args.notes.now c.loop-note.note-index c.loop-note-test.false))
    ∙ c.loop-note.invariant.lines
