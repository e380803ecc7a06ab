-- What is kept of accepted notes.
use Rattle.std.specs.Prelude.{◌≡◌, ℕ, ◌<◌, None, length, slice_get, List, ◌∷◌, [], ◌++◌, Bool, MatchBool}
use Rattle.gup_plain.specs.Note.{NoteValue}
use Rattle.gup_plain.specs.declared.note.What.{What}
use Rattle.gup_plain.specs.declared.note.What.TheVariants.{Event}
use Rattle.gup_script.specs.Script.{ScriptValue}
use Rattle.gup_spec_accepted.specs.Accepted.{Accepted}
use Rattle.gup_spec_check.specs.Seen.{seen_of}
use Rattle.gup_spec_check.specs.Times.{times_of}
use Rattle.gup_exec_plain.specs.Parts.{HasActor}
use Rattle.gup_check_state.specs.declared.kept.Kept.{Kept}
use Rattle.gup_check_state.specs.Presence.{op_at}
use Rattle.gup_check_state.specs.Shows.{Shows}

abbrev pub Takes : ScriptValue → Kept → List NoteValue → Type 0
Takes script kept notes = Accepted script notes × Shows script kept (seen_of script notes) (times_of notes)

-- there are such notes
abbrev pub HasTaken : ScriptValue → Kept → Type 0
HasTaken script kept = (notes : List NoteValue) × Takes script kept notes

-- one more note is taken, or with it they aren't accepted
abbrev pub IsTakenOrWrong : ScriptValue → (kept : Kept) → List NoteValue → NoteValue → Bool → Type 0
IsTakenOrWrong script kept notes note fits =
    MatchBool fits (Takes script kept (notes ++ note ∷ [])) (Accepted script (notes ++ note ∷ []) → ⊥)

-- the note's event, if it is one, is of one of so many actors, if it is of one
abbrev pub OfActor : (actors : ℕ) → What → Type 0
OfActor actors (Event event) = HasActor actors event
OfActor actors what = Unit {0}

-- no actor of the script has an operation left
abbrev pub HaveEnded : ScriptValue → Kept → Type 0
HaveEnded script kept = (a : ℕ) → a < length script.actors → op_at script a (slice_get kept.actors.items a) ≡ None
