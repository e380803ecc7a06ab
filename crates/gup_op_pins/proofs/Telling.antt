-- A turn that says its notes in two calls says them all.
use Rattle.std.proofs.Common.{◌≡◌, ◌++◌, List, sym, ap, ◌∙◌, arith}
use Rattle.std.proofs.lemmas.List.{append_assoc, map-append}
use Rattle.gup_plain.specs.Note.{JournalValue, NoteValue}
use Rattle.gup_plain.specs.declared.note.What.{What}
use Rattle.gup_spec_journal.specs.Follows.{note_of, notes_of_turn}
use Rattle.gup_op_base.specs.declared.said.Head.{Head}
use Rattle.gup_op_base.specs.Said.{Said, Tells, whats_of}

pub told_after : (head : Head) (was between now : JournalValue) (first second whole : Said) → Tells head was between first → Tells head between now second → whats_of whole ≡ whats_of first ++ whats_of second
    → Tells head was now whole
told_after head was between now first second whole before after both =
    record {
      notes =
          after.notes
          ∙ ap (λ (ns : List NoteValue). ns ++ notes (whats_of second)) before.notes
          ∙ append_assoc was.notes (notes (whats_of first)) (notes (whats_of second))
          ∙ ap (λ (ns : List NoteValue). was.notes ++ ns)
          (sym (map-append (note_of head.turn head.actor head.op) (whats_of first) (whats_of second)) ∙ ap notes (sym both));
      kept = omega (arith, before.kept, after.kept);
    }
  where
    notes : List What → List NoteValue
    notes whats = notes_of_turn head.turn head.actor head.op whats
