-- Who waits in a journal that is in order has its cause, and who is idle has finished.
use Rattle.std.proofs.Common.{◌≡◌, ℕ, ◌+◌, inl, inr, Bool, true, false, List, [], ◌∷◌, ◌++◌, Option, Some, None, refl, sym, ap, ◌∙◌, subst}
use Rattle.gup_plain.specs.Note.{NoteValue}
use Rattle.gup_plain.specs.Put.{put}
use Rattle.gup_plain.specs.State.{PlainState, Birth, born, failed, Handle}
use Rattle.gup_plain.specs.declared.note.What.{What}
use Rattle.gup_plain.specs.declared.note.What.TheVariants.{Idle, Wait}
use Rattle.gup_plain.specs.declared.note.Waiting.{Waiting}
use Rattle.gup_plain.specs.declared.note.Waiting.TheVariants as waitings
use Rattle.gup_script.specs.Script.{ScriptValue}
use Rattle.gup_script.specs.declared.op.Op.{Op}
use Rattle.gup_script.specs.declared.op.Op.TheVariants.{Take}
use Rattle.gup_spec_journal.specs.Follows.{notes_of_turn}
use Rattle.gup_spec_journal.specs.Order.{Turn, Ordered, places_behind, journal_of, taking_waits, is_given_to, handle_waits, waiting_at, waiting_of, finished_in, MayHold, AreOfOperation, IsWrittenTurn, IsNextTurn, written_turn, ordered_after, AreInOrder, ordered_first, InOrder, plain_behind}
use Rattle.gup_spec_journal.specs.Place.{Place, place_behind, doer_of, birth_for, present_op, has_finished}
use Rattle.gup_spec_journal.specs.Plain.{Judged, judged_by, judged_first}
use Rattle.gup_spec_accepted.specs.Waits.{HoldsFor, waits_for, WaitsRight, StandsRight, StandRightFrom, StandRight}
use Rattle.gup_law_accepted.proofs.JudgedTurns.{judged_all, all_plain, all_places}

-- what a turn's notes say of one another's state

abbrev StandAll : ScriptValue → Judged → (a : ℕ) → List What → Type 0
StandAll s j a [] = Unit {0}
StandAll s j a (what ∷ whats) = StandsRight s j a what × StandAll s (judged_by s j a what) a whats

stand_append : (s : ScriptValue) (j : Judged) (t a n : ℕ) (whats : List What) (rest : List NoteValue) → StandAll s j a whats → StandRightFrom s (judged_all s j a whats) rest → StandRightFrom s j (notes_of_turn t a n whats ++ rest)
stand_append s j t a n [] rest here later = later
stand_append s j t a n (what ∷ whats) rest here later = (here.0, stand_append s (judged_by s j a what) t a n whats rest here.1 later)

-- whoever goes on neither waits nor is idle
goes_on : (s : ScriptValue) (j : Judged) (a : ℕ) (whats : List What) → AreOfOperation whats → StandAll s j a whats
goes_on s j a [] of = tt
goes_on s j a (Idle ∷ whats) of = absurd (cc of.0)
goes_on s j a (Wait waiting ∷ whats) of = absurd (cc of.0)
goes_on s j a (what ∷ whats) of = (tt, goes_on s (judged_by s j a what) a whats of.1)

-- what the plain state says that an actor waits for is no other actor
taking_no_holder : (given : Bool) (h b : ℕ) → taking_waits given h ≡ Some (waitings.Holder b) → ⊥
taking_no_holder true h b is = cc is
taking_no_holder false h b is = cc is

handle_no_holder : (handle : ℕ → Handle) (a b : ℕ) (op : Option Op) → handle_waits handle a op ≡ Some (waitings.Holder b) → ⊥
handle_no_holder handle a b (Some (Take h)) is = taking_no_holder (is_given_to (handle h) a) h b is
handle_no_holder handle a b op is = cc is

no_holder : (p b : ℕ) (birth : Birth) (waits : Option Waiting) → (waits ≡ Some (waitings.Holder b) → ⊥) → waiting_at p birth waits ≡ Some (waitings.Holder b) → ⊥
no_holder p b born waits none is = none is
no_holder p b failed waits none is = cc is
no_holder p b birth waits none is = cc is

waits_right : (s : ScriptValue) (j : Judged) (a : ℕ) (waiting : Waiting) → waits_for s j a ≡ Some waiting → WaitsRight s j a waiting
waits_right s j a (waitings.Holder b) is =
    let op : Option Op = present_op s a (j.places a) in
    absurd (no_holder (doer_of s a op).proc b (birth_for j.plain.birth (doer_of s a op)) (handle_waits j.plain.handle a op) (handle_no_holder j.plain.handle a b op) is)
waits_right s j a waiting is = is

-- a turn that is in order, where the judge stands as the order does
abbrev judged_as : Ordered → Judged → Judged
judged_as o j = record { plain = o.plain; references = j.references; places = o.places }

written_stands : (s : ScriptValue) (j : Judged) (a : ℕ) (finished : Bool) (waiting : Option Waiting) (Holder : ℕ → Type 0) (whats : List What) → has_finished s a (j.places a) ≡ finished → waits_for s j a ≡ waiting → ((b : ℕ) → Holder b → HoldsFor s j a b) → IsWrittenTurn finished waiting Holder whats → StandAll s j a whats
written_stands s j a true waiting Holder whats has waits holds is = subst (StandAll s j a) (sym is) (has, tt)
written_stands s j a false (Some w) Holder whats has waits holds is = subst (StandAll s j a) (sym is) ((has, waits_right s j a w waits), tt)
written_stands s j a false None Holder whats has waits holds (inl moves) = goes_on s j a whats moves.2
written_stands s j a false None Holder whats has waits holds (inr held) = subst (StandAll s j a) (sym held.2) ((has, holds held.0 held.1), tt)

next_stands : (s : ScriptValue) (o : Ordered) (j : Judged) (turn : Turn) (written : Option ℕ) → IsNextTurn s o written turn → StandAll s (judged_as o j) turn.actor turn.whats
next_stands s o j turn (Some written) is =
    written_stands s (judged_as o j) turn.actor (finished_in s o turn.actor) (waiting_of s o turn.actor) (MayHold s o turn.actor) turn.whats refl refl
    (λ b may. (may.0, may.1, may.2, may.3)) is.1
next_stands s o j turn None is = goes_on s (judged_as o j) turn.actor turn.whats is.moves.2

-- the judge stands as the order does
record StandsAs (o : Ordered) (j : Judged) : Type 0 where
  plain : j.plain ≡ o.plain
  places : j.places ≡ o.places

journal_stands : (s : ScriptValue) (o : Ordered) (j : Judged) (number : ℕ) (turns : List Turn) → StandsAs o j → AreInOrder s o turns → StandRightFrom s j (journal_of number o.places turns)
journal_stands s o j number [] like are = tt
journal_stands s o j number (turn ∷ turns) like are =
    let a : ℕ = turn.actor in
    let here : StandAll s j a turn.whats =
    subst (λ (q : ℕ → Place). StandAll s (record { plain = j.plain; references = j.references; places = q }) a turn.whats) (sym like.places)
    (subst (λ (x : PlainState). StandAll s (record { plain = x; references = j.references; places = o.places }) a turn.whats) (sym like.plain)
    (next_stands s o j turn (written_turn s o) are.0)) in
    let then : StandsAs (ordered_after s o turn) (judged_all s j a turn.whats) =
    record {
      plain = all_plain s j a turn.whats ∙ ap (λ (x : PlainState). plain_behind x turn.whats) like.plain;
      places = all_places s j a turn.whats ∙ ap (λ (q : ℕ → Place). put a (place_behind (q a) turn.whats) q) like.places;
    } in
    stand_append s j number a ((o.places a).answered + 1) turn.whats (journal_of (number + 1) (places_behind o.places turn) turns) here
    (journal_stands s (ordered_after s o turn) (judged_all s j a turn.whats) (number + 1) turns then are.1)

pub notes_stand : (s : ScriptValue) (notes : List NoteValue) → InOrder s notes → StandRight s notes
notes_stand s notes order =
    subst (StandRight s) (sym order.1) (journal_stands s (ordered_first s) (judged_first s) 1 order.0 (record { plain = refl; places = refl }) order.2)
