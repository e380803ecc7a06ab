-- The turns that notes tell.
use Rattle.std.specs.Prelude.{◌≡◌, ℕ, List, [], ◌∷◌, ◌++◌}
use Rattle.gup_plain.specs.Note.{NoteValue}

-- is the note of this turn, of this actor?
abbrev pub IsOfTurn : (turn actor : ℕ) → NoteValue → Type 0
IsOfTurn turn actor note = (note.turn ≡ turn) × (note.actor ≡ actor)

abbrev pub AreOfTurn : (turn actor : ℕ) → List NoteValue → Type 0
AreOfTurn turn actor [] = Unit {0}
AreOfTurn turn actor (note ∷ notes) = IsOfTurn turn actor note × AreOfTurn turn actor notes

-- notes that begin with none of this turn
abbrev pub AreBehindTurn : (turn actor : ℕ) → List NoteValue → Type 0
AreBehindTurn turn actor [] = Unit {0}
AreBehindTurn turn actor (note ∷ notes) = IsOfTurn turn actor note → ⊥

-- These notes are one turn, and the rest begins with another: at least one, all of one number and of one actor.
abbrev pub IsTurn : (notes rest : List NoteValue) → Type 0
IsTurn [] rest = ⊥
IsTurn (note ∷ notes) rest = AreOfTurn note.turn note.actor notes × AreBehindTurn note.turn note.actor rest

-- The notes begin with these turns, and this is the rest.
abbrev pub BeginWith : (notes : List NoteValue) → (turns : List (List NoteValue)) → (rest : List NoteValue) → Type 0
BeginWith notes [] rest = notes ≡ rest
BeginWith notes (turn ∷ turns) rest =
    (behind : List NoteValue) × (notes ≡ turn ++ behind) × IsTurn turn behind × BeginWith behind turns rest

-- who takes the turn of these notes
abbrev pub taker : List NoteValue → ℕ
taker [] = 0
taker (note ∷ notes) = note.actor
