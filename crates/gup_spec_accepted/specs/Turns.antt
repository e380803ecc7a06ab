-- The turns of the notes: they are numbered from 1, each has one actor, and the first are of the actors that the script writes.
use Rattle.std.specs.Prelude.{◌≡◌, ℕ, ◌+◌, ◌⊎◌, List, [], ◌∷◌, Option, Some, None, slice_get}
use Rattle.gup_plain.specs.Note.{NoteValue}
use Rattle.gup_script.specs.Script.{ScriptValue}

-- the written turn, if there is one, is of this actor
abbrev pub IsWrittenFor : Option ℕ → (a : ℕ) → Type 0
IsWrittenFor None a = Unit {0}
IsWrittenFor (Some written) a = a ≡ written

-- the first note of the turn after this one
abbrev pub BeginsTurn : ScriptValue → (turn : ℕ) → NoteValue → Type 0
BeginsTurn script turn note = (note.turn ≡ turn + 1) × IsWrittenFor (slice_get script.turns turn) note.actor

-- each note is of the turn before it and of that actor, or begins the next turn
abbrev pub AreTurnsFrom : ScriptValue → (turn a : ℕ) → List NoteValue → Type 0
AreTurnsFrom script turn a [] = Unit {0}
AreTurnsFrom script turn a (note ∷ notes) =
    (((note.turn ≡ turn) × (note.actor ≡ a)) ⊎ BeginsTurn script turn note) × AreTurnsFrom script note.turn note.actor notes

abbrev pub AreTurns : ScriptValue → List NoteValue → Type 0
AreTurns script [] = Unit {0}
AreTurns script (note ∷ notes) = BeginsTurn script 0 note × AreTurnsFrom script note.turn note.actor notes
