-- Notes of these shapes, later than any turn, that say just this.
use Rattle.std.proofs.Common.{ℕ, ◌+◌, ◌≤◌, ◌<◌, List, [], ◌∷◌, ◌++◌, refl, sym, ◌∙◌, ap, subst, arith, append_assoc}
use Rattle.gup_plain.specs.Note.{NoteValue}
use Rattle.gup_plain.specs.declared.note.What.{What}
use Rattle.gup_plain.specs.declared.note.What.TheVariants.{Silent}
use Rattle.gup_spec_journal.specs.Follows.{Who, notes_of_turn, IsTurn, AreBehind, AreBefore, Then, IsThirdTurn}
use Rattle.gup_check_course.proofs.Speaking.{Speaks, spoken, turn_speaks, both_speak}

abbrev pub Written : Who → (S : List NoteValue → Type 0) → List What → Type 0
Written who S whats = (turn : ℕ) → (notes : List NoteValue) × S notes × AreBehind turn notes × Speaks who whats notes

pub written_as : (who : Who) (S R : List NoteValue → Type 0) (whats : List What) → ((notes : List NoteValue) → S notes → R notes) → Written who S whats → Written who R whats
written_as who S R whats so written turn =
    let w = written turn in
    (w.0, so w.0 w.1, w.2, w.3)

turn_behind : (before turn a number : ℕ) (whats : List What) → before < turn → AreBehind before (notes_of_turn turn a number whats)
turn_behind before turn a number [] later = tt
turn_behind before turn a number (what ∷ whats) later = (later, turn_behind before turn a number whats later)

pub written_turn : (who : Who) (whats : List What) → Written who (IsTurn who whats) (spoken whats)
written_turn who whats turn =
    let notes : List NoteValue = notes_of_turn (turn + 1) who.actor who.number whats in
    let is : IsTurn who whats notes = (turn + 1, refl) in
    (notes, is, turn_behind turn (turn + 1) who.actor who.number whats (omega arith), turn_speaks who whats notes is)

abbrev pub latest : List NoteValue → ℕ
latest [] = 0
latest (note ∷ notes) = note.turn + latest notes

pub behind_earlier : (turn later : ℕ) (notes : List NoteValue) → turn ≤ later → AreBehind later notes → AreBehind turn notes
behind_earlier turn later [] before behind = tt
behind_earlier turn later (note ∷ notes) before behind =
    let first : later < note.turn = behind.0 in
    (omega arith, behind_earlier turn later notes before behind.1)

pub before_later : (turn : ℕ) (front rest : List NoteValue) → AreBehind (turn + latest front) rest → AreBefore front rest
before_later turn [] rest behind = tt
before_later turn (note ∷ front) rest behind = (
  behind_earlier note.turn (turn + (note.turn + latest front)) rest (omega arith) behind,
  before_later (turn + note.turn) front rest (behind_earlier (turn + note.turn + latest front) (turn + (note.turn + latest front)) rest (omega arith) behind),
)

pub both_behind : (turn : ℕ) (front rest : List NoteValue) → AreBehind turn front → AreBehind turn rest → AreBehind turn (front ++ rest)
both_behind turn [] rest first second = second
both_behind turn (note ∷ front) rest first second = (first.0, both_behind turn front rest first.1 second)

pub written_then : (who : Who) (First Second : List NoteValue → Type 0) (xs ys : List What) → Written who First xs → Written who Second ys → Written who (Then First Second) (xs ++ ys)
written_then who First Second xs ys first second turn =
    let f = first turn in
    let s = second (turn + latest f.0) in (
      f.0 ++ s.0,
      (f.0, s.0, refl, before_later turn f.0 s.0 s.2, f.1, s.1),
      both_behind turn f.0 s.0 f.2 (behind_earlier turn (turn + latest f.0) s.0 (omega arith) s.2),
      both_speak who xs ys (f.0 ++ s.0) f.0 s.0 refl f.3 s.3,
    )

-- a turn, and then the rest
pub written_on : (who : Who) (whats : List What) (Second : List NoteValue → Type 0) (ys : List What) → Written who Second ys → Written who (Then (IsTurn who whats) Second) (spoken whats ++ ys)
written_on who whats Second ys second = written_then who (IsTurn who whats) Second (spoken whats) ys (written_turn who whats) second

pub written_silent : (who : Who) (Second : List NoteValue → Type 0) (ys : List What) → Written who Second ys → Written who (Then (IsTurn who (Silent ∷ [])) Second) ys
written_silent who Second ys second = written_on who (Silent ∷ []) Second ys second

pub written_third : (who : Who) (whats : List What) → Written who (IsThirdTurn who whats) (spoken whats)
written_third who whats =
    written_silent who (Then (IsTurn who (Silent ∷ [])) (IsTurn who whats)) (spoken whats)
    (written_silent who (IsTurn who whats) (spoken whats) (written_turn who whats))

-- three after one another, however they are put together

behind_front : (turn : ℕ) (front rest : List NoteValue) → AreBehind turn (front ++ rest) → AreBehind turn front
behind_front turn [] rest behind = tt
behind_front turn (note ∷ front) rest behind = (behind.0, behind_front turn front rest behind.1)

behind_rest : (turn : ℕ) (front rest : List NoteValue) → AreBehind turn (front ++ rest) → AreBehind turn rest
behind_rest turn [] rest behind = behind
behind_rest turn (note ∷ front) rest behind = behind_rest turn front rest behind.1

before_front : (first front rest : List NoteValue) → AreBefore first (front ++ rest) → AreBefore first front
before_front [] front rest before = tt
before_front (note ∷ first) front rest before = (behind_front note.turn front rest before.0, before_front first front rest before.1)

before_rest : (first front rest : List NoteValue) → AreBefore first (front ++ rest) → AreBefore first rest
before_rest [] front rest before = tt
before_rest (note ∷ first) front rest before = (behind_rest note.turn front rest before.0, before_rest first front rest before.1)

before_both : (first second rest : List NoteValue) → AreBefore first rest → AreBefore second rest → AreBefore (first ++ second) rest
before_both [] second rest one other = other
before_both (note ∷ first) second rest one other = (one.0, before_both first second rest one.1 other)

pub then_first : (A B C : List NoteValue → Type 0) (notes : List NoteValue) → Then A (Then B C) notes → Then (Then A B) C notes
then_first A B C notes (a, rest, is, before, first, (b, c, rest_is, then_before, second, third)) =
    let apart : AreBefore a (b ++ c) = subst (AreBefore a) rest_is before in (
      a ++ b,
      c,
      is ∙ ap (λ (l : List NoteValue). a ++ l) rest_is ∙ sym (append_assoc a b c),
      before_both a b c (before_rest a b c apart) then_before,
      (a, b, refl, before_front a b c apart, first, second),
      third,
    )

pub then_as : (A B C : List NoteValue → Type 0) (notes : List NoteValue) → ((rest : List NoteValue) → B rest → C rest) → Then A B notes → Then A C notes
then_as A B C notes so is = (is.0, is.1, is.2, is.3, is.4, so is.1 is.5)

pub first_as : (A B C : List NoteValue → Type 0) (notes : List NoteValue) → ((front : List NoteValue) → A front → B front) → Then A C notes → Then B C notes
first_as A B C notes so is = (is.0, is.1, is.2, is.3, so is.0 is.4, is.5)
