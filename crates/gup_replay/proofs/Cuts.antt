-- Notes cut into turns.
use Rattle.std.proofs.Common.{◌≡◌, ℕ, ◌+◌, ◌<◌, ◌≤◌, List, [], ◌∷◌, ◌++◌, length, get_or, take, drop, sym, ap, subst, arith, zero, suc}
use Rattle.std.proofs.lemmas.List.{take_more}
use Rattle.std.proofs.Math.Seq.{drop-cons}
use Rattle.gup_plain.specs.Note.{NoteValue}
use Rattle.gup_replay.specs.Turns.{IsOfTurn, AreOfTurn, AreBehindTurn, IsTurn}

of_turn_more : (turn actor : ℕ) (notes : List NoteValue) (note : NoteValue) → AreOfTurn turn actor notes → IsOfTurn turn actor note → AreOfTurn turn actor (notes ++ note ∷ [])
of_turn_more turn actor [] note are is = (is, tt)
of_turn_more turn actor (n ∷ notes) note are is = (are.0, of_turn_more turn actor notes note are.1 is)

pub first_of_turn : (notes : List NoteValue) (first : NoteValue) → 0 < length notes → first ≡ get_or notes 0 first → AreOfTurn first.turn first.actor (take 1 notes)
first_of_turn [] first some is = absurd (omega (arith, some))
first_of_turn (n ∷ notes) first some is = ((ap (λ (m : NoteValue). m.turn) (sym is), ap (λ (m : NoteValue). m.actor) (sym is)), tt)

pub one_more_of_turn : (turn actor : ℕ) (notes : List NoteValue) (end : ℕ) (note : NoteValue) → end < length notes → note ≡ get_or notes end note → AreOfTurn turn actor (take end notes) → IsOfTurn turn actor note → AreOfTurn turn actor (take (end + 1) notes)
one_more_of_turn turn actor notes end note within is are one =
    subst (λ (ns : List NoteValue). AreOfTurn turn actor ns) (sym (take_more notes end note within))
    (subst (λ (n : NoteValue). AreOfTurn turn actor (take end notes ++ n ∷ [])) is (of_turn_more turn actor (take end notes) note are one))

pub behind_at : (turn actor : ℕ) (notes : List NoteValue) (end : ℕ) (note : NoteValue) → end < length notes → note ≡ get_or notes end note → (IsOfTurn turn actor note → ⊥) → AreBehindTurn turn actor (drop end notes)
behind_at turn actor notes end note within is not_of =
    subst (λ (ns : List NoteValue). AreBehindTurn turn actor ns) (sym (drop-cons notes end note within))
    (subst (λ (n : NoteValue). IsOfTurn turn actor n → ⊥) is not_of)

pub is_turn : (notes rest : List NoteValue) (first : NoteValue) (end : ℕ) → 1 ≤ end → 0 < length notes → first ≡ get_or notes 0 first → AreOfTurn first.turn first.actor (take end notes) → AreBehindTurn first.turn first.actor rest → IsTurn (take end notes) rest
is_turn [] rest first end some more is are behind = absurd (omega (arith, more))
is_turn (n ∷ notes) rest first zero some more is are behind = absurd (omega (arith, some))
is_turn (n ∷ notes) rest first (suc end) some more is are behind =
    subst (λ (m : NoteValue). AreOfTurn m.turn m.actor (take end notes) × AreBehindTurn m.turn m.actor rest) is (are.1, behind)
