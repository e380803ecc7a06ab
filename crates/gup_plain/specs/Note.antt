-- A note as contracts see it, and its fields in memory.
use Rattle.std.specs.Prelude.{ℕ, List}
use Rattle.gup_plain.specs.declared.note.What.{What}

-- a note: the number of its turn, its actor, the number of the actor's operation, and what happened
pub record NoteValue : Type 0 where
  pub turn : ℕ
  pub actor : ℕ
  pub op : ℕ
  pub what : What

-- a journal: its notes in order, and how many more there is room for
pub record JournalValue : Type 0 where
  pub notes : List NoteValue
  pub room : ℕ
