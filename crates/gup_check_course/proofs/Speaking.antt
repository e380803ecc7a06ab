-- What notes say, as a list of events and answers.
use Rattle.std.proofs.Common.{◌≡◌, ℕ, ◌==◌, ◌&&◌, cond, List, [], ◌∷◌, ◌++◌, map, filter, refl, sym, ◌∙◌, ap}
use Rattle.std.proofs.lemmas.List.{map-append}
use Rattle.std.proofs.lemmas.List.Elements.{filter-append}
use Rattle.gup_plain.specs.Note.{NoteValue}
use Rattle.gup_plain.specs.declared.note.What.{What}
use Rattle.gup_plain.specs.declared.note.What.TheVariants.{Event, Done}
use Rattle.gup_spec_accepted.specs.Said.{Said, says, said_of, said_by}
use Rattle.gup_spec_journal.specs.Follows.{Who, notes_of_turn, IsTurn}
use Rattle.gup_check_course.proofs.SameLemmas.{eqb_self}

-- said of the operation with this number
abbrev pub tagged : (number : ℕ) → List What → List Said
tagged number [] = []
tagged number (what ∷ whats) = record { number = number; what = what } ∷ tagged number whats

-- the events and answers among these
abbrev pub spoken : List What → List What
spoken [] = []
spoken (what ∷ whats) = cond (says what) (what ∷ spoken whats) (spoken whats)

abbrev pub Speaks : Who → List What → List NoteValue → Type 0
Speaks who whats notes = said_by who.actor notes ≡ tagged who.number whats

pub said_by-append : (a : ℕ) (front rest : List NoteValue) → said_by a (front ++ rest) ≡ said_by a front ++ said_by a rest
said_by-append a front rest =
    ap (map said_of) (filter-append (λ (n : NoteValue). (n.actor == a) && says n.what) front rest)
    ∙ map-append said_of (filter (λ (n : NoteValue). (n.actor == a) && says n.what) front)
    (filter (λ (n : NoteValue). (n.actor == a) && says n.what) rest)

pub tagged-append : (number : ℕ) (front rest : List What) → tagged number (front ++ rest) ≡ tagged number front ++ tagged number rest
tagged-append number [] rest = refl
tagged-append number (what ∷ front) rest = ap (λ (l : List Said). record { number = number; what = what } ∷ l) (tagged-append number front rest)

said_of_turn : (turn a number : ℕ) (whats : List What) → said_by a (notes_of_turn turn a number whats) ≡ tagged number (spoken whats)
said_of_turn turn a number [] = refl
said_of_turn turn a number (Event e ∷ whats) =
    rw (eqb_self a) (ap (λ (l : List Said). record { number = number; what = Event e } ∷ l) (said_of_turn turn a number whats))
said_of_turn turn a number (Done x ∷ whats) =
    rw (eqb_self a) (ap (λ (l : List Said). record { number = number; what = Done x } ∷ l) (said_of_turn turn a number whats))
said_of_turn turn a number (what ∷ whats) = rw (eqb_self a) (said_of_turn turn a number whats)

pub turn_speaks : (who : Who) (whats : List What) (notes : List NoteValue) → IsTurn who whats notes → Speaks who (spoken whats) notes
turn_speaks who whats notes is = ap (said_by who.actor) is.1 ∙ said_of_turn is.0 who.actor who.number whats

pub both_speak : (who : Who) (xs ys : List What) (notes front rest : List NoteValue) → notes ≡ front ++ rest → Speaks who xs front → Speaks who ys rest → Speaks who (xs ++ ys) notes
both_speak who xs ys notes front rest is first second =
    ap (said_by who.actor) is ∙ said_by-append who.actor front rest ∙ ap (λ (l : List Said). l ++ said_by who.actor rest) first
    ∙ ap (λ (l : List Said). tagged who.number xs ++ l) second ∙ sym (tagged-append who.number xs ys)
