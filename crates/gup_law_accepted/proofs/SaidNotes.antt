-- What the notes of a journal that follows its script say of each actor's operations, is what its own notes say.
use Rattle.std.proofs.Common.{◌≡◌, ℕ, ◌==◌, Bool, true, false, List, [], ◌∷◌, refl, sym, ap, ◌∙◌, append-nil}
use Rattle.gup_plain.specs.Note.{NoteValue}
use Rattle.gup_plain.specs.declared.note.What.{What}
use Rattle.gup_plain.specs.declared.note.What.TheVariants.{Silent, Idle, Wait, Event, Done}
use Rattle.gup_script.specs.Script.{ScriptValue}
use Rattle.gup_spec_journal.specs.Follows.{own_notes, note_of, Follows}
use Rattle.gup_spec_accepted.specs.Said.{Said, said_of, said_by, BeginsFollowing}

abbrev SaysAsOwn : (a : ℕ) → List NoteValue → Type 0
SaysAsOwn a notes = said_by a (own_notes a notes) ≡ said_by a notes

said_note : (a t b n : ℕ) (what : What) (notes : List NoteValue) (mine : Bool) → (b == a) ≡ mine → SaysAsOwn a notes → SaysAsOwn a (note_of t b n what ∷ notes)
said_note a t b n what notes false e rest = simp e rest
said_note a t b n Silent notes true e rest = simp e rest
said_note a t b n Idle notes true e rest = simp e rest
said_note a t b n (Wait waiting) notes true e rest = simp e rest
said_note a t b n (Event event) notes true e rest = simp e (ap (λ (said : List Said). said_of (note_of t b n (Event event)) ∷ said) rest)
said_note a t b n (Done answer) notes true e rest = simp e (ap (λ (said : List Said). said_of (note_of t b n (Done answer)) ∷ said) rest)

said_own : (a : ℕ) (notes : List NoteValue) → SaysAsOwn a notes
said_own a [] = refl
said_own a (note ∷ notes) = said_note a note.turn note.actor note.op note.what notes (note.actor == a) refl (said_own a notes)

pub notes_begin : (s : ScriptValue) (notes : List NoteValue) → Follows s notes → BeginsFollowing s notes
notes_begin s notes follows a =
    (own_notes a notes, [], follows a, said_own a notes ∙ sym (append-nil (said_by a notes)))
