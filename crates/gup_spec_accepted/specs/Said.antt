-- What notes say of operations: their events and answers. How many turns an operation takes without either is left open.
use Rattle.std.specs.Prelude.{◌≡◌, ℕ, ◌==◌, ◌&&◌, Bool, true, false, List, ◌++◌, map, filter}
use Rattle.gup_plain.specs.Note.{NoteValue}
use Rattle.gup_plain.specs.declared.note.What.{What}
use Rattle.gup_plain.specs.declared.note.What.TheVariants.{Event, Done}
use Rattle.gup_script.specs.Script.{ScriptValue}
use Rattle.gup_spec_journal.specs.Place.{process_of, ops_of}
use Rattle.gup_spec_journal.specs.Follows.{Shapes}

-- an event or an answer, and the number of its operation
pub record Said : Type 0 where
  pub number : ℕ
  pub what : What

abbrev pub says : What → Bool
says (Event event) = true
says (Done answer) = true
says what = false

abbrev pub said_of : NoteValue → Said
said_of note = record { number = note.op; what = note.what }

-- what the actor's notes say, in order
abbrev pub said_by : (a : ℕ) → List NoteValue → List Said
said_by a notes = map said_of (filter (λ (n : NoteValue). (n.actor == a) && says n.what) notes)

-- It is the beginning of what some notes say that have the shapes of the actor's operations, in order.
abbrev pub BeginsOperations : ScriptValue → (a : ℕ) → List Said → Type 0
BeginsOperations script a said =
    (notes : List NoteValue) × (rest : List Said)
    × Shapes a (process_of script a) 1 (ops_of script a) notes × (said_by a notes ≡ said ++ rest)

-- So it is of each actor's.
abbrev pub BeginsFollowing : ScriptValue → List NoteValue → Type 0
BeginsFollowing script notes = (a : ℕ) → BeginsOperations script a (said_by a notes)
