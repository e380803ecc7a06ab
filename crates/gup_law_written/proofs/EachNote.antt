-- What holds of each note of the shapes that operations' notes are put together from.
use Rattle.std.proofs.Common.{◌≡◌, ℕ, List, [], ◌∷◌, ◌++◌, Option, refl, sym, subst}
use Rattle.std.specs.List.{AllByRecursion}
use Rattle.gup_plain.specs.Note.{NoteValue}
use Rattle.gup_plain.specs.declared.note.What.{What}
use Rattle.gup_plain.specs.declared.note.What.TheVariants.{Silent}
use Rattle.gup_script.specs.Script.{ScriptValue}
use Rattle.gup_script.specs.declared.op.Op.{Op}
use Rattle.gup_spec_journal.specs.Follows.{Who, notes_of_turn, IsTurn, Then, Turns, IsThirdTurn}
use Rattle.gup_law_written.proofs.NamedNotes.{Says}

-- it holds of each note of whatever has this shape
abbrev pub Each : (Holds : NoteValue → Type 0) → (Shape : List NoteValue → Type 0) → Type 0
Each Holds Shape = (notes : List NoteValue) → Shape notes → AllByRecursion Holds notes

-- the note is one of this operation
abbrev pub IsOf : ScriptValue → Who → Option Op → NoteValue → Type 0
IsOf s who op note = (note.actor ≡ who.actor) × (note.op ≡ who.number) × Says s who.actor op note.what

abbrev pub SayAll : ScriptValue → Who → Option Op → List What → Type 0
SayAll s who op whats = AllByRecursion (Says s who.actor op) whats

pub each_append : (Holds : NoteValue → Type 0) (front rest : List NoteValue) → AllByRecursion Holds front → AllByRecursion Holds rest → AllByRecursion Holds (front ++ rest)
each_append Holds [] rest here later = later
each_append Holds (note ∷ front) rest here later = (here.0, each_append Holds front rest here.1 later)

pub each_none : (Holds : NoteValue → Type 0) → Each Holds (λ notes. notes ≡ [])
each_none Holds notes is = subst (AllByRecursion Holds) (sym is) tt

turn_says : (s : ScriptValue) (who : Who) (op : Option Op) (turn : ℕ) (whats : List What) → SayAll s who op whats → AllByRecursion (IsOf s who op) (notes_of_turn turn who.actor who.number whats)
turn_says s who op turn [] say = tt
turn_says s who op turn (what ∷ whats) say = ((refl, refl, say.0), turn_says s who op turn whats say.1)

pub each_turn : (s : ScriptValue) (who : Who) (op : Option Op) (whats : List What) → SayAll s who op whats → Each (IsOf s who op) (IsTurn who whats)
each_turn s who op whats say notes is = subst (AllByRecursion (IsOf s who op)) (sym is.1) (turn_says s who op is.0 whats say)

pub each_then : (Holds : NoteValue → Type 0) (First Second : List NoteValue → Type 0) → Each Holds First → Each Holds Second → Each Holds (Then First Second)
each_then Holds First Second first second notes is =
    subst (AllByRecursion Holds) (sym is.2) (each_append Holds is.0 is.1 (first is.0 is.4) (second is.1 is.5))

pub each_turns : (s : ScriptValue) (who : Who) (op : Option Op) (whats : List (List What)) (Rest : List NoteValue → Type 0) → AllByRecursion (SayAll s who op) whats → Each (IsOf s who op) Rest → Each (IsOf s who op) (Turns who whats Rest)
each_turns s who op [] Rest say rest notes is = rest notes is
each_turns s who op (these ∷ whats) Rest say rest notes is =
    each_then (IsOf s who op) (IsTurn who these) (Turns who whats Rest) (each_turn s who op these say.0) (each_turns s who op whats Rest say.1 rest) notes is

pub each_silent : (s : ScriptValue) (who : Who) (op : Option Op) → Each (IsOf s who op) (IsTurn who (Silent ∷ []))
each_silent s who op = each_turn s who op (Silent ∷ []) (tt, tt)

pub each_third : (s : ScriptValue) (who : Who) (op : Option Op) (whats : List What) → SayAll s who op whats → Each (IsOf s who op) (IsThirdTurn who whats)
each_third s who op whats say =
    each_then (IsOf s who op) (IsTurn who (Silent ∷ [])) (Then (IsTurn who (Silent ∷ [])) (IsTurn who whats)) (each_silent s who op)
    (each_then (IsOf s who op) (IsTurn who (Silent ∷ [])) (IsTurn who whats) (each_silent s who op) (each_turn s who op whats say))
