-- The notes of one actor among those of a turn, and which turns they are of.
use Rattle.std.proofs.Common.{◌≡◌, ℕ, ◌+◌, ◌<◌, ◌==◌, ◌&&◌, ◌++◌, Bool, true, false, cond, List, [], ◌∷◌, refl, ap, eq-eqb, arith}
use Rattle.std.proofs.lemmas.List.Elements.{filter-append}
use Rattle.gup_plain.specs.Note.{NoteValue}
use Rattle.gup_plain.specs.declared.note.What.{What}
use Rattle.gup_spec_journal.specs.Follows.{own_notes, notes_of_turn, note_of, is_of_operation, AreBehind, AreBefore}
use Rattle.gup_spec_journal.specs.Order.{Turn, AreOfOperation, places_behind, journal_of}
use Rattle.gup_spec_journal.specs.Place.{Place}

abbrev is_own : ℕ → NoteValue → Bool
is_own a note = (note.actor == a) && is_of_operation note.what

pub own_append : (a : ℕ) (front rest : List NoteValue) → own_notes a (front ++ rest) ≡ own_notes a front ++ own_notes a rest
own_append a front rest = filter-append (is_own a) front rest

-- those of another actor's turn are none
pub own_other : (a t b n : ℕ) (whats : List What) → (b == a) ≡ false → own_notes a (notes_of_turn t b n whats) ≡ []
own_other a t b n [] e = refl
own_other a t b n (what ∷ whats) e = rw e (own_other a t b n whats e)

-- those of a turn of its operation are all of them
pub own_same : (a t n : ℕ) (whats : List What) → AreOfOperation whats → own_notes a (notes_of_turn t a n whats) ≡ notes_of_turn t a n whats
own_same a t n [] of = refl
own_same a t n (what ∷ whats) of = rw (eq-eqb a a refl, of.0) (ap (λ (ns : List NoteValue). note_of t a n what ∷ ns) (own_same a t n whats of.1))

-- a note that says that it is idle or waits is none of its operation's
pub own_idle : (a t n : ℕ) (what : What) → is_of_operation what ≡ false → own_notes a (notes_of_turn t a n (what ∷ [])) ≡ []
own_idle a t n what e = rw (eq-eqb a a refl, e) refl

-- in what turns

pub behind_front : (t : ℕ) (front rest : List NoteValue) → AreBehind t (front ++ rest) → AreBehind t front
behind_front t [] rest after = tt
behind_front t (note ∷ front) rest after = (after.0, behind_front t front rest after.1)

pub behind_rest : (t : ℕ) (front rest : List NoteValue) → AreBehind t (front ++ rest) → AreBehind t rest
behind_rest t [] rest after = after
behind_rest t (note ∷ front) rest after = behind_rest t front rest after.1

behind_append : (t : ℕ) (front rest : List NoteValue) → AreBehind t front → AreBehind t rest → AreBehind t (front ++ rest)
behind_append t [] rest here after = after
behind_append t (note ∷ front) rest here after = (here.0, behind_append t front rest here.1 after)

pub before_append : (front more rest : List NoteValue) → AreBefore front rest → AreBefore more rest → AreBefore (front ++ more) rest
before_append [] more rest here later = later
before_append (note ∷ front) more rest here later = (here.0, before_append front more rest here.1 later)

-- a turn is before those with greater numbers
pub turn_before : (t a n : ℕ) (whats : List What) (rest : List NoteValue) → AreBehind t rest → AreBefore (notes_of_turn t a n whats) rest
turn_before t a n [] rest after = tt
turn_before t a n (what ∷ whats) rest after = (after, turn_before t a n whats rest after)

turn_behind : (t k a n : ℕ) (whats : List What) → t < k → AreBehind t (notes_of_turn k a n whats)
turn_behind t k a n [] less = tt
turn_behind t k a n (what ∷ whats) less = (less, turn_behind t k a n whats less)

-- a journal is after the turns before its first
pub journal_behind : (t number : ℕ) (places : ℕ → Place) (turns : List Turn) → t < number → AreBehind t (journal_of number places turns)
journal_behind t number places [] less = tt
journal_behind t number places (turn ∷ turns) less =
    behind_append t (notes_of_turn number turn.actor ((places turn.actor).answered + 1) turn.whats) (journal_of (number + 1) (places_behind places turn) turns)
    (turn_behind t number turn.actor ((places turn.actor).answered + 1) turn.whats less)
    (journal_behind t (number + 1) (places_behind places turn) turns (omega arith))

-- so are the notes of one actor
pub own_behind : (a t : ℕ) (notes : List NoteValue) → AreBehind t notes → AreBehind t (own_notes a notes)
own_behind a t [] after = tt
own_behind a t (note ∷ notes) after = kept_or_not (is_own a note) after.0 (own_behind a t notes after.1)
  where
    kept_or_not : (own : Bool) → t < note.turn → AreBehind t (own_notes a notes) → AreBehind t (cond own (note ∷ own_notes a notes) (own_notes a notes))
    kept_or_not true less later = (less, later)
    kept_or_not false less later = later
