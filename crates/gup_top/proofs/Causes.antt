-- The causes of refusals, and how many answers there are.
use Rattle.std.proofs.Common.{Contains, ◌≡◌, ℕ, ◌+◌, Bool, true, false, Option, Some, None, List, [], ◌∷◌, ◌++◌, map, refl, sym, ap, subst, arith, length, inl, inr, suc}
use Rattle.gup_plain.specs.Note.{NoteValue}
use Rattle.gup_plain.specs.State.{PlainState}
use Rattle.gup_plain.specs.declared.answer.Answer.{Answer}
use Rattle.gup_plain.specs.declared.answer.Answer.TheVariants as answers
use Rattle.gup_plain.specs.declared.answer.Cause.TheVariants as causes
use Rattle.gup_plain.specs.Put.{put}
use Rattle.gup_plain.specs.declared.note.What.{What}
use Rattle.gup_plain.specs.declared.note.What.TheVariants.{Silent, Idle, Wait, Event, Done}
use Rattle.gup_script.specs.declared.op.Op.{Op}
use Rattle.gup_script.specs.Script.{ScriptValue}
use Rattle.gup_spec_journal.specs.Follows.{notes_of_turn}
use Rattle.gup_spec_journal.specs.Order.{Turn, journal_of, places_behind}
use Rattle.gup_spec_journal.specs.Place.{Place, Doer, doer_of, present_op}
use Rattle.gup_plain.specs.Denial.{is_denial}
use Rattle.gup_spec_journal.specs.Denial.{References, denial}
use Rattle.gup_spec_journal.specs.Plain.{Judged, judged_by, judged_before, got_at, refusal_in, IsAnswerAfter, IsRightAt, AreSo}
use Rattle.gup_spec_turns.specs.Cause.{CoreCause, LacksFrame, LacksExactly, UntouchedExactly, BusyExactly, UnmovableExactly, StaleExactly, RefusesUnmovable, answers_in, answered_in}
use Rattle.gup_spec_turns.specs.Run.{RunState, AreTurns, run_start, run_after, turned, turn_in}
use Rattle.gup_core.specs.Machine.{IsReached}
use Rattle.gup_core.proofs.Resting.{reached_behind}
use Rattle.gup_script.specs.Valid.{IsScript}
use Rattle.gup_lines.specs.Text.{words_after, outcomes_from, outcomes_of}
use Rattle.gup_top.specs.Cause.{IsCausedBy, IsCausedAt, judged_turn, IsCausedTurn, IsExact, AreCaused}

-- a denial is the plain state's, wherever it was judged
denied_so : (had : Bool) (d : Option Answer) (a : Answer) → is_denial a ≡ true → IsAnswerAfter had d a → d ≡ Some a
denied_so true d a denial is = absurd (cc is)
denied_so false None a denial is = absurd (cc is)
denied_so false (Some x) a denial is = ap (λ (y : Answer). Some y) (sym is)

-- what no plain state denies, and a turn refuses
abbrev pub IsLost : Answer → Type 0
IsLost answers.NoFrame = Unit {0}
IsLost (answers.Busy count) = Unit {0}
IsLost answers.Untouched = Unit {0}
IsLost (answers.Unmovable count) = Unit {0}
IsLost answers.Stale = Unit {0}
IsLost answer = ⊥

by_answer : (core : Answer → Type 0) (op : Op) (had : Bool) (d : Option Answer) (a : Answer) → ((lost : Answer) → IsLost lost → refusal_in a ≡ lost → core lost) → IsAnswerAfter (judged_before op had a) d (refusal_in a) → IsCausedBy core d (refusal_in a)
by_answer core op had d answers.Plain wants is = tt
by_answer core op had d (answers.Value v) wants is = tt
by_answer core op had d (answers.Pinned n) wants is = tt
by_answer core op had d answers.Words wants is = tt
by_answer core op had d (answers.Short g w causes.Missing) wants is = denied_so (judged_before op had (answers.Short g w causes.Missing)) d answers.Missing refl is
by_answer core op had d (answers.Short g w causes.Forbidden) wants is = denied_so (judged_before op had (answers.Short g w causes.Forbidden)) d answers.Forbidden refl is
by_answer core op had d (answers.Short g w causes.NoFrame) wants is = wants answers.NoFrame tt refl
by_answer core op had d (answers.Short g w (causes.Unmovable c)) wants is = wants (answers.Unmovable c) tt refl
by_answer core op had d answers.Missing wants is = denied_so (judged_before op had answers.Missing) d answers.Missing refl is
by_answer core op had d answers.Forbidden wants is = denied_so (judged_before op had answers.Forbidden) d answers.Forbidden refl is
by_answer core op had d answers.NoFrame wants is = wants answers.NoFrame tt refl
by_answer core op had d answers.NotHeld wants is = denied_so (judged_before op had answers.NotHeld) d answers.NotHeld refl is
by_answer core op had d answers.Range wants is = denied_so (judged_before op had answers.Range) d answers.Range refl is
by_answer core op had d answers.Overlap wants is = denied_so (judged_before op had answers.Overlap) d answers.Overlap refl is
by_answer core op had d answers.Full wants is = denied_so (judged_before op had answers.Full) d answers.Full refl is
by_answer core op had d answers.Unborn wants is = denied_so (judged_before op had answers.Unborn) d answers.Unborn refl is
by_answer core op had d (answers.Unmovable c) wants is = wants (answers.Unmovable c) tt refl
by_answer core op had d (answers.Busy c) wants is = wants (answers.Busy c) tt refl
by_answer core op had d answers.Untouched wants is = wants answers.Untouched tt refl
by_answer core op had d answers.Stale wants is = wants answers.Stale tt refl

-- an answer for want of a frame is one that a turn gives for that
lacks_first : (answer : Answer) (whats : List What) → refusal_in answer ≡ answers.NoFrame → LacksFrame (Done answer ∷ whats)
lacks_first answers.NoFrame whats is = inl (0, omega arith, refl)
lacks_first (answers.Short g w causes.NoFrame) whats is = inr (g, w, (0, omega arith, refl))
lacks_first (answers.Short g w causes.Missing) whats is = absurd (cc is)
lacks_first (answers.Short g w causes.Forbidden) whats is = absurd (cc is)
lacks_first (answers.Short g w (causes.Unmovable count)) whats is = absurd (cc is)
lacks_first answers.Plain whats is = absurd (cc is)
lacks_first (answers.Value v) whats is = absurd (cc is)
lacks_first (answers.Pinned n) whats is = absurd (cc is)
lacks_first answers.Words whats is = absurd (cc is)
lacks_first answers.Missing whats is = absurd (cc is)
lacks_first answers.Forbidden whats is = absurd (cc is)
lacks_first answers.NotHeld whats is = absurd (cc is)
lacks_first answers.Range whats is = absurd (cc is)
lacks_first answers.Overlap whats is = absurd (cc is)
lacks_first answers.Full whats is = absurd (cc is)
lacks_first answers.Unborn whats is = absurd (cc is)
lacks_first (answers.Unmovable c) whats is = absurd (cc is)
lacks_first (answers.Busy c) whats is = absurd (cc is)
lacks_first answers.Untouched whats is = absurd (cc is)
lacks_first answers.Stale whats is = absurd (cc is)

lacks_later : (what : What) (whats : List What) → LacksFrame whats → LacksFrame (what ∷ whats)
lacks_later what whats (inl (k, less, is)) = inl (suc k, omega (arith, less), is)
lacks_later what whats (inr (got, wanted, (k, less, is))) = inr (got, wanted, (suc k, omega (arith, less), is))

-- and one for an unmovable page is one that a turn gives for that
unmovable_first : (answer : Answer) (count : ℕ) (whats : List What) → refusal_in answer ≡ answers.Unmovable count → RefusesUnmovable (Done answer ∷ whats) count
unmovable_first (answers.Unmovable c) count whats is = let same : c ≡ count = cc in inl (0, omega arith, ap (λ (k : ℕ). Done (answers.Unmovable k)) same)
unmovable_first (answers.Short g w (causes.Unmovable c)) count whats is =
    let same : c ≡ count = cc in inr (g, w, (0, omega arith, ap (λ (k : ℕ). Done (answers.Short g w (causes.Unmovable k))) same))
unmovable_first answers.Plain count whats is = absurd (cc is)
unmovable_first (answers.Value v) count whats is = absurd (cc is)
unmovable_first (answers.Pinned n) count whats is = absurd (cc is)
unmovable_first answers.Words count whats is = absurd (cc is)
unmovable_first answers.Missing count whats is = absurd (cc is)
unmovable_first answers.Forbidden count whats is = absurd (cc is)
unmovable_first answers.NoFrame count whats is = absurd (cc is)
unmovable_first answers.NotHeld count whats is = absurd (cc is)
unmovable_first answers.Range count whats is = absurd (cc is)
unmovable_first answers.Overlap count whats is = absurd (cc is)
unmovable_first answers.Full count whats is = absurd (cc is)
unmovable_first answers.Unborn count whats is = absurd (cc is)
unmovable_first (answers.Busy c) count whats is = absurd (cc is)
unmovable_first answers.Untouched count whats is = absurd (cc is)
unmovable_first answers.Stale count whats is = absurd (cc is)
unmovable_first (answers.Short g w causes.Missing) count whats is = absurd (cc is)
unmovable_first (answers.Short g w causes.Forbidden) count whats is = absurd (cc is)
unmovable_first (answers.Short g w causes.NoFrame) count whats is = absurd (cc is)

unmovable_later : (what : What) (whats : List What) (count : ℕ) → RefusesUnmovable whats count → RefusesUnmovable (what ∷ whats) count
unmovable_later what whats count (inl (k, less, is)) = inl (suc k, omega (arith, less), is)
unmovable_later what whats count (inr (got, wanted, (k, less, is))) = inr (got, wanted, (suc k, omega (arith, less), is))

-- a turn's refusals of this kind have their causes
pub record HasCore (core : Answer → Type 0) (whats : List What) : Type 0 where
  pub lacks : LacksFrame whats → core answers.NoFrame
  pub untouched : Contains whats (Done answers.Untouched) → core answers.Untouched
  pub busy : (count : ℕ) → Contains whats (Done (answers.Busy count)) → core (answers.Busy count)
  pub unmovable : (count : ℕ) → RefusesUnmovable whats count → core (answers.Unmovable count)
  pub stale : Contains whats (Done answers.Stale) → core answers.Stale

contains_later : (what x : What) (whats : List What) → Contains whats x → Contains (what ∷ whats) x
contains_later what x whats (k, less, is) = (suc k, omega (arith, less), is)

has_later : (core : Answer → Type 0) (what : What) (whats : List What) → HasCore core (what ∷ whats) → HasCore core whats
has_later core what whats h =
    record {
      lacks = λ lack. h.lacks (lacks_later what whats lack);
      untouched = λ there. h.untouched (contains_later what (Done answers.Untouched) whats there);
      busy = λ count there. h.busy count (contains_later what (Done (answers.Busy count)) whats there);
      unmovable = λ count there. h.unmovable count (unmovable_later what whats count there);
      stale = λ there. h.stale (contains_later what (Done answers.Stale) whats there);
    }

-- an answer of this kind alone is its own refusal
itself : (answer : Answer) (lost : Answer) → refusal_in answer ≡ lost → (lost ≡ answers.NoFrame → ⊥) → ((count : ℕ) → lost ≡ answers.Unmovable count → ⊥) → IsLost lost → answer ≡ lost
itself (answers.Short g w causes.NoFrame) lost is other still kind = absurd (other (sym is))
itself (answers.Short g w causes.Missing) lost is other still kind = absurd (subst IsLost (sym is) kind)
itself (answers.Short g w causes.Forbidden) lost is other still kind = absurd (subst IsLost (sym is) kind)
itself (answers.Short g w (causes.Unmovable count)) lost is other still kind = absurd (still count (sym is))
itself answer lost is other still kind = is

lost_first : (core : Answer → Type 0) (answer : Answer) (whats : List What) → HasCore core (Done answer ∷ whats) → (lost : Answer) → IsLost lost → refusal_in answer ≡ lost → core lost
lost_first core answer whats h answers.NoFrame kind is = h.lacks (lacks_first answer whats is)
lost_first core answer whats h (answers.Busy count) kind is =
    h.busy count (0, omega arith, ap (λ (x : Answer). Done x) (itself answer (answers.Busy count) is (λ same. absurd (cc same)) (λ c same. absurd (cc same)) tt))
lost_first core answer whats h answers.Untouched kind is =
    h.untouched (0, omega arith, ap (λ (x : Answer). Done x) (itself answer answers.Untouched is (λ same. absurd (cc same)) (λ c same. absurd (cc same)) tt))
lost_first core answer whats h (answers.Unmovable count) kind is = h.unmovable count (unmovable_first answer count whats is)
lost_first core answer whats h answers.Stale kind is =
    h.stale (0, omega arith, ap (λ (x : Answer). Done x) (itself answer answers.Stale is (λ same. absurd (cc same)) (λ c same. absurd (cc same)) tt))
lost_first core answer whats h lost kind is = absurd kind

module _ (core : Answer → Type 0) where
  caused_at : (s : PlainState) (references : References) (who : Doer) (place : Place) (op : Option Op) (what : What) (whats : List What) → HasCore core (what ∷ whats) → IsRightAt s references who place op what → IsCausedAt core s references who op what
  caused_at s references who place None what whats lacks right = tt
  caused_at s references who place (Some op) (Done answer) whats lacks right =
      by_answer core op place.had (denial s references who (got_at s who.actor answer) op) answer (lost_first core answer whats lacks) right.1
  caused_at s references who place (Some op) Silent whats lacks right = tt
  caused_at s references who place (Some op) Idle whats lacks right = tt
  caused_at s references who place (Some op) (Wait waiting) whats lacks right = tt
  caused_at s references who place (Some op) (Event event) whats lacks right = tt

  -- the notes of a turn are caused, and the rest is plain after them
  caused_turn : (script : ScriptValue) (j : Judged) (t a n : ℕ) (whats : List What) (rest : List NoteValue) → HasCore core whats → AreSo IsRightAt script j (notes_of_turn t a n whats ++ rest) → IsCausedTurn core script j a whats × AreSo IsRightAt script (judged_turn script j a whats) rest
  caused_turn script j t a n [] rest lacks plain = (tt, plain)
  caused_turn script j t a n (what ∷ whats) rest lacks plain =
      let later = caused_turn script (judged_by script j a what) t a n whats rest (has_later core what whats lacks) plain.1 in
      let place : Place = j.places a in
      ((caused_at j.plain j.references (doer_of script a (present_op script a place)) place (present_op script a place) what whats lacks plain.0, later.0), later.1)

-- what is known of the refusals of every turn from a state that turns lead to
pub record AreExact : Type 0 where
  pub lacks : (script : ScriptValue) (r : RunState) (a : ℕ) → LacksExactly script r (turn_in script r a)
  pub untouched : (script : ScriptValue) (actors : List ℕ) (a : ℕ) → IsScript script → UntouchedExactly script (turned script (run_start script) actors) (turn_in script (turned script (run_start script) actors) a)
  pub busy : (script : ScriptValue) (actors : List ℕ) (a : ℕ) → IsScript script → BusyExactly script (turned script (run_start script) actors) (turn_in script (turned script (run_start script) actors) a)
  pub unmovable : (script : ScriptValue) (actors : List ℕ) (a : ℕ) → IsScript script → UnmovableExactly script (turned script (run_start script) actors) (turn_in script (turned script (run_start script) actors) a)
  pub stale : (script : ScriptValue) (actors : List ℕ) (a : ℕ) → IsScript script → StaleExactly script (turned script (run_start script) actors) (turn_in script (turned script (run_start script) actors) a)

exact_at : AreExact → (script : ScriptValue) (r : RunState) (a : ℕ) → IsScript script → IsReached script r → IsExact script r (turn_in script r a)
exact_at exact script r a valid reached = (
  exact.lacks script r a,
  subst (λ (x : RunState). UntouchedExactly script x (turn_in script x a)) (sym reached.1) (exact.untouched script reached.0 a valid),
  subst (λ (x : RunState). BusyExactly script x (turn_in script x a)) (sym reached.1) (exact.busy script reached.0 a valid),
  subst (λ (x : RunState). UnmovableExactly script x (turn_in script x a)) (sym reached.1) (exact.unmovable script reached.0 a valid),
  subst (λ (x : RunState). StaleExactly script x (turn_in script x a)) (sym reached.1) (exact.stale script reached.0 a valid),
)

-- in a plain journal, whose turns refuse so only for these causes, each refusal has its cause
pub caused : AreExact → (script : ScriptValue) → IsScript script → (j : Judged) (number : ℕ) (places : ℕ → Place) (turns : List Turn) (r end : RunState) → IsReached script r → AreTurns script r turns end → AreSo IsRightAt script j (journal_of number places turns) → AreCaused script r j turns
caused exact script valid j number places [] r end reached run plain = tt
caused exact script valid j number places (turn ∷ turns) r end reached run plain =
    let a : ℕ = turn.actor in
    let here : IsExact script r turn = subst (λ (t : Turn). IsExact script r (record { actor = a; whats = t.whats })) (sym run.0) (exact_at exact script r a valid reached) in
    let core : HasCore (CoreCause script r a) turn.whats =
    record {
      lacks = here.0.0;
      untouched = here.1.0;
      busy = λ count. (here.2 count).0;
      unmovable = λ count. (here.3 count).0;
      stale = here.4.0;
    } in
    let rest : List NoteValue = journal_of (number + 1) (places_behind places turn) turns in
    let now = caused_turn (CoreCause script r a) script j number a ((places a).answered + 1) turn.whats rest core plain in
    let later = caused exact script valid (judged_turn script j a turn.whats) (number + 1) (places_behind places turn) turns (run_after script r a) end (reached_behind script r a reached) run.1 now.1 in
    (now.0, here, later)

-- as many outcomes as answers, whatever words were moved before
one_outcome : (moved : ℕ → List ℕ) (number actor op : ℕ) (what : What) (rest : List NoteValue) → ((words : ℕ → List ℕ) → length (outcomes_from words rest) ≡ answered_in rest) → length (outcomes_from moved (record { turn = number; actor = actor; op = op; what = what } ∷ rest)) ≡ answers_in (what ∷ map (λ (note : NoteValue). note.what) rest)
one_outcome moved number actor op (Done answer) rest same = let more = same (put actor [] moved) in omega (arith, more)
one_outcome moved number actor op Silent rest same = same (put actor (moved actor) moved)
one_outcome moved number actor op Idle rest same = same (put actor (moved actor) moved)
one_outcome moved number actor op (Wait waiting) rest same = same (put actor (moved actor) moved)
one_outcome moved number actor op (Event event) rest same = same (put actor (words_after (moved actor) (Event event)) moved)

outcomes_from_answered : (moved : ℕ → List ℕ) (notes : List NoteValue) → length (outcomes_from moved notes) ≡ answered_in notes
outcomes_from_answered moved [] = refl
outcomes_from_answered moved (note ∷ notes) = one_outcome moved note.turn note.actor note.op note.what notes (λ words. outcomes_from_answered words notes)

pub outcomes_answered : (notes : List NoteValue) → length (outcomes_of notes) ≡ answered_in notes
outcomes_answered notes = outcomes_from_answered (λ _. []) notes
