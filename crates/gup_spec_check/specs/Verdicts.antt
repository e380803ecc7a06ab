-- What is answered of notes: whether all of them are accepted and each operation has ended, or which is the first that isn't accepted.
use Rattle.std.specs.Prelude.{◌≡◌, ℕ, ◌+◌, ◌≤◌, ◌==◌, ◌&&◌, Bool, true, false, List, [], ◌∷◌, ◌++◌, filter, length, codes, decimal}
use Rattle.gup_plain.specs.Note.{NoteValue}
use Rattle.gup_plain.specs.declared.note.What.{What}
use Rattle.gup_plain.specs.declared.note.What.TheVariants.{Done}
use Rattle.gup_script.specs.Script.{ScriptValue}
use Rattle.gup_spec_journal.specs.Place.{ops_of}
use Rattle.gup_spec_accepted.specs.Accepted.{Accepted}
use Rattle.gup_spec_check.specs.declared.Verdict.{Verdict}
use Rattle.gup_spec_check.specs.declared.Verdict.TheVariants.{Yes, Open, No}

abbrev pub is_answer : What → Bool
is_answer (Done answer) = true
is_answer what = false

-- the actor's answers
abbrev pub answers_by : (a : ℕ) → List NoteValue → List NoteValue
answers_by a notes = filter (λ (n : NoteValue). (n.actor == a) && is_answer n.what) notes

-- each operation has an answer
abbrev pub AllAnswered : ScriptValue → List NoteValue → Type 0
AllAnswered script notes = (a : ℕ) → length (ops_of script a) ≤ length (answers_by a notes)

-- the notes before number n are accepted, and with that one they aren't
abbrev pub IsFirstWrong : ScriptValue → List NoteValue → (n : ℕ) → Type 0
IsFirstWrong script notes n =
    (front : List NoteValue) × (note : NoteValue) × (rest : List NoteValue)
    × (notes ≡ front ++ note ∷ rest) × (n ≡ length front + 1)
    × Accepted script front × (Accepted script (front ++ note ∷ []) → ⊥)

-- what is answered of the notes is right
abbrev pub IsVerdict : ScriptValue → List NoteValue → Verdict → Type 0
IsVerdict script notes Yes = Accepted script notes × AllAnswered script notes
IsVerdict script notes Open = Accepted script notes × (AllAnswered script notes → ⊥)
IsVerdict script notes (No n) = IsFirstWrong script notes n

-- the line that says so
abbrev pub verdict_text : Verdict → List ℕ
verdict_text Yes = codes "yes\n"
verdict_text Open = codes "open\n"
verdict_text (No n) = codes "no " ++ decimal n ++ codes "\n"
