-- The notes of a turn are right in the plain state, and miss no page.
use Rattle.std.proofs.Common.{◌≡◌, ℕ, ◌+◌, ◌==◌, ◌++◌, cond, Bool, true, false, IsTrue, inl, List, [], ◌∷◌, Option, Some, None, slice_get, refl, sym, ap, ◌∙◌, subst, eqb-true, inr, arith}
use Rattle.gup_base.specs.Parts.{word_at}
use Rattle.gup_plain.specs.Event.{CanHappen, happened, IsUnbornOrGrowing}
use Rattle.gup_plain.specs.Note.{NoteValue}
use Rattle.gup_plain.specs.Put.{put}
use Rattle.gup_plain.specs.State.{PlainState, Birth, born, failed}
use Rattle.gup_plain.specs.declared.answer.Answer.{Answer}
use Rattle.gup_plain.specs.declared.answer.Answer.TheVariants as answers
use Rattle.gup_plain.specs.declared.answer.Cause.{Cause}
use Rattle.gup_plain.specs.declared.event.PlainEvent.{PlainEvent}
use Rattle.gup_plain.specs.declared.event.PlainEvent.TheVariants as events
use Rattle.gup_plain.specs.declared.note.What.{What}
use Rattle.gup_plain.specs.declared.note.What.TheVariants.{Silent, Idle, Wait, Event, Done}
use Rattle.gup_plain.specs.declared.note.Waiting.{Waiting}
use Rattle.gup_script.specs.Script.{ScriptValue}
use Rattle.gup_script.specs.declared.op.Op.{Op}
use Rattle.gup_base.specs.declared.entry.Want.{Want}
use Rattle.gup_script.specs.declared.op.Op.TheVariants.{Unmap, Discard, Get, Put, Fork, Exit, Pin}
use Rattle.gup_spec_events.specs.State.{WalkStep}
use Rattle.gup_plain.specs.Denial.{denial_at, is_denial}
use Rattle.gup_spec_journal.specs.Denial.{References, denial, op_denial}
use Rattle.gup_spec_journal.specs.Follows.{refuses, moves_word, notes_of_turn, note_of}
use Rattle.gup_spec_journal.specs.Order.{plain_behind}
use Rattle.gup_spec_journal.specs.Place.{Place, Doer, concerned, doer, birth_by, birth_for, place_after, place_behind, ops_of, present_op}
use Rattle.gup_spec_journal.specs.Plain.{Judgement, Judged, AreSo, references_after, judged_after, IsRightAt, IsRightOf, IsBornOrFailed, IsAnswerAfter, IsAnswerOf, IsUndeniedAt, judged_before, pages_got, got_at, refusal_by_cause, refusal_in, plain_after}
use Rattle.gup_spec_journal.specs.Thorough.{Passes, IsDue, IsThoroughAt, IsThoroughOf}
use Rattle.gup_law_turns.proofs.Puts.{put_same, put_twice, put_own}
use Rattle.gup_spec_turns.specs.JobPlace.{JobPlace}
use Rattle.gup_law_turns.proofs.TurnShapes.{WalksTo, took_page, dropped_page, dropped_first, dropped_last, walked, kept_all, refused_slowly, TurnOf, refused, mapped, protected, loaded, filled_slot, looked, stored, gave, took_over, got_one, put_back, took, took_last, passed, passed_last, took_lowest, took_all, pinned_page, pinned_all, pinned_short, unpinned_last, moved_word, moved_last, began, passed_page, shared_page, ended, copied_word, failed_share, failed_fork, GoesOver, unmaps, discards, TurnAt, idles, waits, goes, unborn_refused, unborn_fork, AtFirst, placed_frame, found_no_frame, found_busy, lacked_frame, found_unmovable}
use Rattle.gup_law_turns.proofs.EventLists.{events_of, AllCanHappen}

-- a note is right, and misses no page
abbrev pub IsBothAt : Judgement
IsBothAt s references who place op what = IsRightAt s references who place op what × IsThoroughAt s references who place op what

abbrev pub IsBothOf : PlainState → References → Doer → Place → Op → What → Type 0
IsBothOf s references who place op what = IsRightOf s references who place op what × IsThoroughOf s who place op what

-- so a journal is plain, and it is thorough

pub are_plain : (script : ScriptValue) (j : Judged) (notes : List NoteValue) → AreSo IsBothAt script j notes → AreSo IsRightAt script j notes
are_plain script j [] both = tt
are_plain script j (note ∷ notes) both = (both.0.0, are_plain script (judged_after script j note) notes both.1)

pub are_thorough : (script : ScriptValue) (j : Judged) (notes : List NoteValue) → AreSo IsBothAt script j notes → AreSo IsThoroughAt script j notes
are_thorough script j [] both = tt
are_thorough script j (note ∷ notes) both = (both.0.1, are_thorough script (judged_after script j note) notes both.1)

-- the notes of one turn are so, each in what those before it have led to
abbrev pub AreRight : List Op → Doer → PlainState → References → Place → List What → Type 0
AreRight ops actor s references place [] = Unit {0}
AreRight ops actor s references place (what ∷ whats) =
    IsBothAt s references (concerned actor (slice_get ops place.answered)) place (slice_get ops place.answered) what
    × AreRight ops actor (plain_after s what) (references_after references actor.actor (slice_get ops place.answered) what)
    (place_after place what) whats

-- the operation is the present one of the actor, who does it as this doer
abbrev pub IsPresent : List Op → (actor who : Doer) → Place → Op → Type 0
IsPresent ops actor who place op = (slice_get ops place.answered ≡ Some op) × (who ≡ concerned actor (Some op))

-- a note of the present operation
at_present : (ops : List Op) (actor who : Doer) (place : Place) (op : Op) → IsPresent ops actor who place op → (s : PlainState) (references : References) (now : Place) (what : What) → IsBothAt s references who now (Some op) what → IsBothAt s references (concerned actor (slice_get ops place.answered)) now (slice_get ops place.answered) what
at_present ops actor who place op is s references now what right =
    subst (λ (o : Option Op). IsBothAt s references (concerned actor o) now o what) (sym is.0)
    (subst (λ (w : Doer). IsBothAt s references w now (Some op) what) is.1 right)

-- who has got references after the notes of one turn
abbrev pub references_behind : List Op → References → (a : ℕ) → Place → List What → References
references_behind ops references a place [] = references
references_behind ops references a place (what ∷ whats) =
    references_behind ops (references_after references a (slice_get ops place.answered) what) a (place_after place what) whats

-- a note that is no answer changes nothing of that

abbrev pub IsNoAnswer : What → Type 0
IsNoAnswer (Done answer) = ⊥
IsNoAnswer what = Unit {0}

pub references_stay : (references : References) (a : ℕ) (op : Option Op) (what : What) → IsNoAnswer what → references_after references a op what ≡ references
references_stay references a (Some (Get handle page)) (Done answer) no_answer = absurd no_answer
references_stay references a (Some (Get handle page)) what no_answer = refl
references_stay references a (Some (Put handle)) (Done answer) no_answer = absurd no_answer
references_stay references a (Some (Put handle)) what no_answer = refl
references_stay references a op what no_answer = refl

-- so what is right after an event is judged by those who had got them before it
right_behind : (ops : List Op) (who : Doer) (s : PlainState) (references : References) (place : Place) (e : PlainEvent) (whats : List What) → AreRight ops who s references (place_after place (Event e)) whats → AreRight ops who s (references_after references who.actor (slice_get ops place.answered) (Event e)) (place_after place (Event e)) whats
right_behind ops who s references place e whats right =
    subst (λ (k : References). AreRight ops who s k (place_after place (Event e)) whats) (sym (references_stay references who.actor (slice_get ops place.answered) (Event e) tt)) right

-- where whoever does it waits for no birth

settled : (b : Birth) → b ≡ born → IsBornOrFailed b
settled b e = subst IsBornOrFailed (sym e) tt

denial_born : (s : PlainState) (references : References) (who : Doer) (got : ℕ) (op : Op) → birth_for s.birth who ≡ born → denial s references who got op ≡ op_denial s references who got op
denial_born s references who got op e = ap (λ (b : Birth). denial_at b (op_denial s references who got op)) e

undenied : (had : Bool) (denied : Option Answer) → denied ≡ None → IsUndeniedAt had denied
undenied true denied e = tt
undenied false denied e = e

-- an answer that is no denial is right where nothing denies
answers_undenied : (had : Bool) (denied : Option Answer) (answer : Answer) → denied ≡ None → is_denial answer ≡ false → IsAnswerAfter had denied answer
answers_undenied true denied answer e plain = plain
answers_undenied false denied answer e plain = subst (λ (d : Option Answer). IsAnswerOf d answer) (sym e) plain

-- no operation is refused by a short pin
pub unrefused_short : (op : Op) (got wanted : ℕ) (cause : Cause) → refuses op (answers.Short got wanted cause) ≡ false
unrefused_short op got wanted cause = grind arith

pub not_both : (b : Bool) → b ≡ false → IsTrue b → ⊥
not_both true lacks has = cc lacks
not_both false lacks has = cc has

-- at its first turn every operation that is refused is judged in the state of that turn
judged_first : (op : Op) (answer : Answer) → IsTrue (refuses op answer) → judged_before op false answer ≡ false
judged_first op answer is = grind (arith, is)

-- a refusal is judged where it stands, and is the refusal
refused_here : (op : Op) (answer : Answer) (s : PlainState) (a : ℕ) → IsTrue (refuses op answer) → (got_at s a answer ≡ pages_got s a) × (refusal_in answer ≡ answer)
refused_here op (answers.Short got wanted cause) s a is =
    absurd (not_both (refuses op (answers.Short got wanted cause)) (unrefused_short op got wanted cause) is)
refused_here op answer s a is = (refl, refl)

-- where a fork ends, what was born stays so
stays_born : (births : ℕ → Birth) (who : Doer) (child : ℕ) → birth_for births who ≡ born → birth_for (put child born births) who ≡ born
stays_born births who child birth = go who.of_process (who.proc == child) birth
  where
    go : (t c : Bool) → birth_by t (births who.proc) ≡ born → birth_by t (cond c born (births who.proc)) ≡ born
    go false c now = refl
    go true true now = refl
    go true false now = now

-- where a fork fails, what was born stays so, since its child wasn't
stays_unfailed : (births : ℕ → Birth) (who : Doer) (child : ℕ) → birth_for births who ≡ born → IsUnbornOrGrowing (births child) → birth_for (put child failed births) who ≡ born
stays_unfailed births who child birth yet = go who.of_process (who.proc == child) refl birth
  where
    go : (t c : Bool) → (who.proc == child) ≡ c → birth_by t (births who.proc) ≡ born → birth_by t (cond c failed (births who.proc)) ≡ born
    go false c e now = refl
    go true false e now = now
    go true true e now =
        let same : births child ≡ born = sym (ap births (eqb-true who.proc child e)) ∙ now in
        absurd (subst IsUnbornOrGrowing same yet)

-- where whoever does it is of a process that failed

-- no page of a failed process is named
abbrev pub IsFailedUnmapped : PlainState → Type 0
IsFailedUnmapped s = (p page : ℕ) → s.birth p ≡ failed → s.right p page ≡ None

settled_failed : (b : Birth) → b ≡ failed → IsBornOrFailed b
settled_failed b e = subst IsBornOrFailed (sym e) tt

denial_failed : (s : PlainState) (references : References) (who : Doer) (got : ℕ) (op : Op) → birth_for s.birth who ≡ failed → denial s references who got op ≡ Some answers.Unborn
denial_failed s references who got op e = ap (λ (b : Birth). denial_at b (op_denial s references who got op)) e

-- it is a thread
failed_thread : (births : ℕ → Birth) (who : Doer) → birth_for births who ≡ failed → births who.proc ≡ failed
failed_thread births who birth = go who.of_process birth
  where
    go : (t : Bool) → birth_by t (births who.proc) ≡ failed → births who.proc ≡ failed
    go true now = now
    go false now = absurd (cc now)

-- and stays one of a failed process where its fork fails
stays_failed : (births : ℕ → Birth) (who : Doer) (child : ℕ) → birth_for births who ≡ failed → birth_for (put child failed births) who ≡ failed
stays_failed births who child birth = go who.of_process (who.proc == child) birth
  where
    go : (t c : Bool) → birth_by t (births who.proc) ≡ failed → birth_by t (cond c failed (births who.proc)) ≡ failed
    go false c now = now
    go true true now = refl
    go true false now = now

-- an operation of a process without named pages passes them in silence
unnamed_passes : (s : PlainState) (p : ℕ) (op : Op) (far : ℕ) → ((page : ℕ) → s.right p page ≡ None) → Passes s p op far
unnamed_passes s p (Unmap page n) far none = λ less. none (page + far)
unnamed_passes s p (Discard page n) far none = λ less. none (page + far)
unnamed_passes s p Exit far none = none
unnamed_passes s p op far none = tt

module _ (ops : List Op) (actor : Doer) (s : PlainState) (references : References) (who : Doer) (place : Place) (birth : birth_for s.birth who ≡ failed) where
  -- it is refused in its first turn
  refusal_right : (op : Op) → AtFirst place → IsTrue (refuses op answers.Unborn) → IsFailedUnmapped s → IsPresent ops actor who place op → AreRight ops actor s references place (Done answers.Unborn ∷ [])
  refusal_right op first refusal unmapped is =
      let got : ℕ = pages_got s who.actor in
      let here : IsAnswerOf (denial s references who got op) answers.Unborn = subst (λ (d : Option Answer). IsAnswerOf d answers.Unborn) (sym (denial_failed s references who got op birth)) refl in
      let judged : IsAnswerAfter (judged_before op place.had answers.Unborn) (denial s references who got op) answers.Unborn =
      subst (λ (b : Bool). IsAnswerAfter b (denial s references who got op) answers.Unborn) (sym (ap (λ (h : Bool). judged_before op h answers.Unborn) first.1 ∙ judged_first op answers.Unborn refusal)) here in
      let passes = unnamed_passes s who.proc op place.far (λ page. unmapped who.proc page (failed_thread s.birth who birth)) in
      (at_present ops actor who place op is s references place (Done answers.Unborn) ((settled_failed (birth_for s.birth who) birth, judged), passes), tt)

  -- a fork makes its child failed too
  failure_right : (child : ℕ) → CanHappen s (events.ForkFail child) → IsPresent ops actor who place (Fork child) → AreRight ops actor s references place (Event (events.ForkFail child) ∷ Done answers.Unborn ∷ [])
  failure_right child can is =
      let e : PlainEvent = events.ForkFail child in
      let t : PlainState = happened s e in
      let still : birth_for t.birth who ≡ failed = stays_failed s.birth who child birth in
      let judged : IsAnswerOf (denial t references who (pages_got t who.actor) (Fork child)) answers.Unborn = subst (λ (d : Option Answer). IsAnswerOf d answers.Unborn) (sym (denial_failed t references who (pages_got t who.actor) (Fork child) still)) refl in
      let first = at_present ops actor who place (Fork child) is s references place (Event e) ((can, inr (denial_failed s references who (pages_got s who.actor) (Fork child) birth, refl)), tt) in
      let second = at_present ops actor who place (Fork child) is t references (place_after place (Event e)) (Done answers.Unborn) ((settled_failed (birth_for t.birth who) still, judged), tt) in
      (first, right_behind ops actor t references place e (Done answers.Unborn ∷ []) (second, tt))

module _ (ops : List Op) (actor : Doer) (s : PlainState) (references : References) (who : Doer) (place : Place) (birth : birth_for s.birth who ≡ born) where
  -- one note of the present operation
  one_right : (op : Op) (what : What) → IsPresent ops actor who place op → IsBothOf s references who place op what → AreRight ops actor s references place (what ∷ [])
  one_right op what is right = (at_present ops actor who place op is s references place what right, tt)

  event_right : (op : Op) (e : PlainEvent) → CanHappen s e → op_denial s references who (pages_got s who.actor) op ≡ None → IsDue s who.proc op place.far e → IsBothOf s references who place op (Event e)
  event_right op e can free due =
      ((can, inl (undenied place.had (denial s references who (pages_got s who.actor) op) (denial_born s references who (pages_got s who.actor) op birth ∙ free))), due)

  done_right : (op : Op) (answer : Answer) → IsPresent ops actor who place op → IsAnswerAfter (judged_before op place.had answer) (denial s references who (got_at s who.actor answer) op) (refusal_in answer) → Passes s who.proc op place.far → AreRight ops actor s references place (Done answer ∷ [])
  done_right op answer is right passes = one_right op (Done answer) is ((settled (birth_for s.birth who) birth, right), passes)

  -- an event and its answer
  then_right : (op : Op) (e : PlainEvent) (answer : Answer) → IsPresent ops actor who place op → IsBothOf s references who place op (Event e) → birth_for (happened s e).birth who ≡ born → IsAnswerAfter (judged_before op true answer) (denial (happened s e) references who (got_at (happened s e) who.actor answer) op) (refusal_in answer) → Passes (happened s e) who.proc op (place.far + 1) → AreRight ops actor s references place (Event e ∷ Done answer ∷ [])
  then_right op e answer is right still judged passes =
      let born_then = settled (birth_for (happened s e).birth who) still in
      let first = at_present ops actor who place op is s references place (Event e) right in
      let second = at_present ops actor who place op is (happened s e) references (place_after place (Event e)) (Done answer) ((born_then, judged), passes) in
      (first, right_behind ops actor (happened s e) references place e (Done answer ∷ []) (second, tt))

  -- an operation that goes over pages is not denied
  over_undenied : {op : Op} {page n : ℕ} {event : ℕ → PlainEvent} → GoesOver who.actor who.proc op page n event → op_denial s references who (pages_got s who.actor) op ≡ None
  over_undenied (unmaps page n) = refl
  over_undenied (discards page n) = refl

  passes_over : {op : Op} {page n : ℕ} {event : ℕ → PlainEvent} → GoesOver who.actor who.proc op page n event → s.right who.proc (page + place.far) ≡ None → Passes s who.proc op place.far
  passes_over (unmaps page n) none = λ less. none
  passes_over (discards page n) none = λ less. none

  took_right : (op : Op) (page n : ℕ) (event : ℕ → PlainEvent) → GoesOver who.actor who.proc op page n event → CanHappen s (event (page + place.far)) → IsBothOf s references who place op (Event (event (page + place.far)))
  took_right op page n event (unmaps g m) can = event_right op (events.Unmap who.actor who.proc (page + place.far)) can refl tt
  took_right op page n event (discards g m) can = event_right op (events.Discard who.actor who.proc (page + place.far)) can refl tt

  took_last_right : (op : Op) (page n : ℕ) (event : ℕ → PlainEvent) → GoesOver who.actor who.proc op page n event → place.far + 1 ≡ n → IsPresent ops actor who place op → CanHappen s (event (page + place.far)) → AreRight ops actor s references place (Event (event (page + place.far)) ∷ Done answers.Plain ∷ [])
  took_last_right op page n event (unmaps g m) last is can =
      then_right op (events.Unmap who.actor who.proc (page + place.far)) answers.Plain is (took_right op page n event (unmaps g m) can) birth refl (λ less. absurd (omega arith))
  took_last_right op page n event (discards g m) last is can =
      then_right op (events.Discard who.actor who.proc (page + place.far)) answers.Plain is (took_right op page n event (discards g m) can) birth refl (λ less. absurd (omega arith))

  -- the answer of a page that is passed last is judged here
  undenied_right : (op : Op) (answer : Answer) → IsPresent ops actor who place op → got_at s who.actor answer ≡ pages_got s who.actor → is_denial (refusal_in answer) ≡ false → op_denial s references who (pages_got s who.actor) op ≡ None → Passes s who.proc op place.far → AreRight ops actor s references place (Done answer ∷ [])
  undenied_right op answer is got plain free passes =
      let free_here : denial s references who (got_at s who.actor answer) op ≡ None =
      ap (λ (k : ℕ). denial s references who k op) got ∙ denial_born s references who (pages_got s who.actor) op birth ∙ free in
      done_right op answer is (answers_undenied (judged_before op place.had answer) (denial s references who (got_at s who.actor answer) op) (refusal_in answer) free_here plain) passes

  plain_right : (op : Op) → IsPresent ops actor who place op → op_denial s references who (pages_got s who.actor) op ≡ None → Passes s who.proc op place.far → AreRight ops actor s references place (Done answers.Plain ∷ [])
  plain_right op is free passes =
      undenied_right op answers.Plain is refl refl free passes

  -- a word that moves brings no birth
  still_born : (handle : ℕ) (outward : Bool) (k l value : ℕ) → (happened s (moves_word who.actor handle outward k l value)).birth ≡ s.birth
  still_born handle true k l value = refl
  still_born handle false k l value = refl

  -- the walk of a pin: a page that it names is the first one, and not denied, or comes after one that was not

  stands_by : (op : Op) → (place.had ≡ false → op_denial s references who (pages_got s who.actor) op ≡ None) → (had : Bool) → place.had ≡ had → IsUndeniedAt place.had (denial s references who (pages_got s who.actor) op)
  stands_by op free true is = subst (λ (b : Bool). IsUndeniedAt b (denial s references who (pages_got s who.actor) op)) (sym is) tt
  stands_by op free false is =
      subst (λ (b : Bool). IsUndeniedAt b (denial s references who (pages_got s who.actor) op)) (sym is)
      (denial_born s references who (pages_got s who.actor) op birth ∙ free is)

  walk_right : {first m got sequence : ℕ} {write : Bool} {step : WalkStep} {to : JobPlace} (handle page n : ℕ) (want : Want) (whats : List What) → WalksTo s who first m got write sequence step whats to → ((e : PlainEvent) → whats ≡ Event e ∷ [] → place.had ≡ false → op_denial s references who (pages_got s who.actor) (Pin handle page n want true) ≡ None) → IsPresent ops actor who place (Pin handle page n want true) → AllCanHappen s (events_of whats) → AreRight ops actor s references place whats
  walk_right {first = first} {got = got} {write = write} handle page n want whats (took_page g path e less) free is can =
      let op : Op = Pin handle page n want true in
      let e : PlainEvent = events.PinTry who.actor who.proc (first + got) write in
      one_right op (Event e) is ((can.0, inl (stands_by op (free e refl) place.had refl)), tt)
  walk_right handle page n want whats (dropped_page g last some most from) free is can =
      let op : Op = Pin handle page n want true in
      one_right op (Event (events.PinDrop who.actor g)) is ((can.0, inl (stands_by op (free (events.PinDrop who.actor g) refl) place.had refl)), tt)
  walk_right handle page n want whats (dropped_first g more from) free is can =
      let op : Op = Pin handle page n want true in
      one_right op (Event (events.PinDrop who.actor g)) is ((can.0, inl (stands_by op (free (events.PinDrop who.actor g) refl) place.had refl)), tt)
  walk_right handle page n want whats (dropped_last g one from) free is can =
      let op : Op = Pin handle page n want true in
      one_right op (Event (events.PinDrop who.actor g)) is ((can.0, inl (stands_by op (free (events.PinDrop who.actor g) refl) place.had refl)), tt)
  walk_right handle page n want whats turn free is can = one_right (Pin handle page n want true) Silent is (tt, tt)

  -- a pin that is refused is judged at its answer
  judged_pin : (handle page n : ℕ) (want : Want) (answer : Answer) → IsTrue (refuses (Pin handle page n want true) answer) → judged_before (Pin handle page n want true) place.had answer ≡ false
  judged_pin handle page n want (answers.Pinned pages) refusal = absurd (cc refusal)
  judged_pin handle page n want answer refusal = refl

  -- a fork that fails, of a process that was born
  fails_right : (child : ℕ) → IsPresent ops actor who place (Fork child) → AllCanHappen s (events.ForkFail child ∷ []) → AreRight ops actor s references place (Event (events.ForkFail child) ∷ Done answers.NoFrame ∷ [])
  fails_right child is can =
      let e : PlainEvent = events.ForkFail child in
      let op : Op = Fork child in
      let still = stays_unfailed s.birth who child birth can.0 in
      let judged = answers_undenied false (denial (happened s e) references who (pages_got (happened s e) who.actor) op) answers.NoFrame (denial_born (happened s e) references who (pages_got (happened s e) who.actor) op still) refl in
      then_right op e answers.NoFrame is (event_right op e can.0 refl tt) still judged tt

  -- a turn of each shape
  op_right : (op : Op) {from to : JobPlace} (whats : List What) → TurnOf s references who place op from whats to → IsPresent ops actor who place op → AllCanHappen s (events_of whats) → AreRight ops actor s references place whats
  op_right op whats (refused o answer first refusal at_once slow right passes) is can =
      let got : ℕ = pages_got s who.actor in
      let judged : IsAnswerOf (denial s references who got op) answer = subst (λ (d : Option Answer). IsAnswerOf d answer) (sym (denial_born s references who got op birth)) right in
      let here = refused_here op answer s who.actor refusal in
      let at : IsAnswerOf (denial s references who (got_at s who.actor answer) op) (refusal_in answer) =
      subst (λ (k : ℕ). IsAnswerOf (denial s references who k op) (refusal_in answer)) (sym here.0) (subst (λ (x : Answer). IsAnswerOf (denial s references who got op) x) (sym here.1) judged) in
      done_right op answer is (subst (λ (b : Bool). IsAnswerAfter b (denial s references who (got_at s who.actor answer) op) (refusal_in answer)) (sym (ap (λ (h : Bool). judged_before op h answer) first.1 ∙ judged_first op answer refusal)) at) passes
  op_right op whats (mapped page n rights first free) is can =
      let e = events.Map who.actor who.proc page n rights in then_right op e answers.Plain is (event_right op e can.0 free tt) birth refl tt
  op_right op whats (protected page n rights first free) is can =
      let e = events.Protect who.actor who.proc page n rights in then_right op e answers.Plain is (event_right op e can.0 free tt) birth refl tt
  op_right op whats (loaded page word value first free) is can =
      let e = events.Load who.actor who.proc page word value in then_right op e (answers.Value value) is (event_right op e can.0 free tt) birth refl tt
  op_right op whats (filled_slot mirror proc page named first free) is can =
      let e = events.MirrorFill who.actor mirror who.proc page in then_right op e answers.Plain is (event_right op e can.0 free tt) birth refl tt
  op_right op whats (looked mirror word value first) is can =
      let e = events.Look who.actor mirror word value in then_right op e (answers.Value value) is (event_right op e can.0 refl tt) birth refl tt
  op_right op whats (stored page word value first free) is can =
      let e = events.Store who.actor who.proc page word value in then_right op e answers.Plain is (event_right op e can.0 free tt) birth refl tt
  op_right op whats (gave handle to first free) is can =
      let e = events.Give who.actor handle to in then_right op e answers.Plain is (event_right op e can.0 free tt) birth refl tt
  op_right op whats (took_over handle first) is can =
      let e = events.Take who.actor handle in then_right op e answers.Plain is (event_right op e can.0 refl tt) birth refl tt
  op_right op whats (got_one handle page first free) is can = plain_right op is free tt
  op_right op whats (put_back handle first free) is can = plain_right op is free tt
  op_right op whats (took o page n event over more) is can = one_right op (Event (event (page + place.far))) is (took_right op page n event over can.0)
  op_right op whats (took_last o page n event over last) is can = took_last_right op page n event over last is can.0
  op_right op whats (passed o page n event over more none) is can = one_right op Silent is (tt, passes_over over none)
  op_right op whats (passed_last o page n event over last none) is can = plain_right op is (over_undenied over) (passes_over over none)
  op_right op whats (took_lowest page none) is can =
      let e = events.Unmap who.actor who.proc page in one_right op (Event e) is (event_right op e can.0 refl none)
  op_right op whats (took_all none) is can = plain_right op is refl none
  op_right op whats (pinned_page handle page n want fast from slow tries less more free) is can =
      let e = events.PinTry who.actor who.proc (page + pages_got s who.actor) want.write in one_right op (Event e) is (event_right op e can.0 free tt)
  op_right op whats (pinned_all handle page n want fast from slow tries last free) is can =
      let e : PlainEvent = events.PinTry who.actor who.proc (page + pages_got s who.actor) want.write in
      let t : PlainState = happened s e in
      let ok : PlainEvent = events.PinOk who.actor handle in
      let u : PlainState = happened t ok in
      let then : Place = place_after place (Event e) in
      let first = at_present ops actor who place op is s references place (Event e) (event_right op e can.0 free tt) in
      let second = at_present ops actor who place op is t references then (Event ok) ((can.1.0, inl tt), tt) in
      let third = at_present ops actor who place op is u references (place_after then (Event ok)) (Done (answers.Pinned n)) ((settled (birth_for s.birth who) birth, refl), tt) in
      let behind = right_behind ops actor u references then ok (Done (answers.Pinned n) ∷ []) (third, tt) in
      (first, right_behind ops actor t references place e (Event ok ∷ Done (answers.Pinned n) ∷ []) (second, behind))
  op_right op whats (walked handle page n want sequence step ws to walk more free) is can = walk_right handle page n want whats walk free is can
  op_right op whats (kept_all handle page n want sequence all had) is can =
      let stands : IsUndeniedAt place.had (denial s references who (pages_got s who.actor) op) = subst (λ (b : Bool). IsUndeniedAt b (denial s references who (pages_got s who.actor) op)) (sym had) tt in
      then_right op (events.PinOk who.actor handle) (answers.Pinned n) is ((can.0, inl stands), tt) birth refl tt
  op_right op whats (refused_slowly handle page n want answer begun none refusal known at_once right) is can =
      let got : ℕ = pages_got s who.actor in
      let judged : IsAnswerOf (denial s references who got op) answer = subst (λ (d : Option Answer). IsAnswerOf d answer) (sym (denial_born s references who got op birth)) right in
      let here = refused_here op answer s who.actor refusal in
      let at : IsAnswerOf (denial s references who (got_at s who.actor answer) op) (refusal_in answer) =
      subst (λ (k : ℕ). IsAnswerOf (denial s references who k op) (refusal_in answer)) (sym here.0) (subst (λ (x : Answer). IsAnswerOf (denial s references who got op) x) (sym here.1) judged) in
      done_right op answer is (subst (λ (b : Bool). IsAnswerAfter b (denial s references who (got_at s who.actor answer) op) (refusal_in answer)) (sym (judged_pin handle page n want answer refusal)) at) tt
  op_right op whats (pinned_short handle page n want fast got cause from had same some less end refuses right) is can =
      let e : PlainEvent = events.PinOk who.actor handle in
      let judged : IsAnswerOf (denial s references who got op) (refusal_by_cause cause) = subst (λ (d : Option Answer). IsAnswerOf d (refusal_by_cause cause)) (sym (denial_born s references who got op birth)) right in
      let stands : IsUndeniedAt place.had (denial s references who (pages_got s who.actor) op) = subst (λ (b : Bool). IsUndeniedAt b (denial s references who (pages_got s who.actor) op)) (sym had) tt in
      then_right op e (answers.Short got n cause) is ((can.0, inl stands), tt) birth judged tt
  op_right op whats (lacked_frame handle page n want fast g e long begun none free) is can = undenied_right op answers.NoFrame is refl refl free tt
  op_right op whats (found_unmovable handle page n want fast g e count long begun none free) is can = undenied_right op (answers.Unmovable count) is refl refl free tt
  op_right op whats (unpinned_last handle none free last) is can =
      let e = events.Unpin who.actor handle in then_right op e answers.Plain is (event_right op e can.0 free last) birth refl tt
  op_right op whats (moved_word handle outward slot parts value more free) is can =
      let e = moves_word who.actor handle outward (word_at parts place.far) (slot + place.far) value in
      one_right op (Event e) is (event_right op e can.0 free tt)
  op_right op whats (moved_last handle outward slot parts value last free) is can =
      let e = moves_word who.actor handle outward (word_at parts place.far) (slot + place.far) value in
      let still = ap (λ (f : ℕ → Birth). birth_for f who) (still_born handle outward (word_at parts place.far) (slot + place.far) value) ∙ birth in
      then_right op e answers.Words is (event_right op e can.0 free tt) still refl tt
  op_right op whats (placed_frame proc page zone e begun free) is can = plain_right op is free tt
  op_right op whats (found_no_frame proc page zone e begun free) is can = undenied_right op answers.NoFrame is refl refl free tt
  op_right op whats (found_busy proc page zone e count begun free) is can = undenied_right op (answers.Busy count) is refl refl free tt
  op_right op whats (began child first) is can =
      let e = events.ForkBegin who.proc child in one_right op (Event e) is (event_right op e can.0 refl tt)
  op_right op whats (passed_page child from page begun up) is can =
      let e = events.ForkPage who.proc child page in one_right op (Event e) is (event_right op e can.0 refl tt)
  op_right op whats (shared_page child page begun) is can =
      let e = events.ForkPage who.proc child page in one_right op (Event e) is (event_right op e can.0 refl tt)
  op_right op whats (ended child from begun) is can =
      let e : PlainEvent = events.ForkEnd who.proc child in
      let still = stays_born s.birth who child birth in
      let judged = answers_undenied false (denial (happened s e) references who (pages_got (happened s e) who.actor) op) answers.Plain (denial_born (happened s e) references who (pages_got (happened s e) who.actor) op still) refl in
      then_right op e answers.Plain is (event_right op e can.0 refl tt) still judged tt
  op_right op whats (copied_word child page word to begun less) is can =
      let e = events.ForkWord who.proc child page word in one_right op (Event e) is (event_right op e can.0 refl tt)
  op_right op whats (failed_share child page begun) is can = fails_right child is can
  op_right op whats (failed_fork child page begun) is can = fails_right child is can
  op_right op whats turn is can = one_right op Silent is (tt, tt)

pub turn_right : (ops : List Op) (actor : Doer) (references : References) {s : PlainState} {who : Doer} {place : Place} {op : Option Op} {waiting : Option Waiting} {from to : JobPlace} {whats : List What} → TurnAt s references who place op waiting from whats to → slice_get ops place.answered ≡ op → who ≡ concerned actor op → IsFailedUnmapped s → AllCanHappen s (events_of whats) → AreRight ops actor s references place whats
turn_right ops actor references {s = s} {who = who} {place = place} (idles waiting at) is own unmapped can = (subst (λ (o : Option Op). IsBothAt s references (concerned actor o) place o Idle) (sym is) (tt, tt), tt)
turn_right ops actor references {s = s} {who = who} {place = place} (waits op waiting at) is own unmapped can = (at_present ops actor who place op (is, own) s references place (Wait waiting) (tt, tt), tt)
turn_right ops actor references {s = s} {who = who} {place = place} (goes op whats from to birth lives turn) is own unmapped can = op_right ops actor s references who place birth op whats turn (is, own) can
turn_right ops actor references {s = s} {who = who} {place = place} (unborn_refused op birth first refusal) is own unmapped can = refusal_right ops actor s references who place birth op first refusal unmapped (is, own)
turn_right ops actor references {s = s} {who = who} {place = place} (unborn_fork child birth fails first) is own unmapped can = failure_right ops actor s references who place birth child can.0 (is, own)

-- what has been judged after notes of one actor
abbrev pub judged_behind : ScriptValue → Judged → ℕ → List What → Judged
judged_behind script j a whats =
    record {
      plain = plain_behind j.plain whats;
      references = references_behind (ops_of script a) j.references a (j.places a) whats;
      places = put a (place_behind (j.places a) whats) j.places;
    }

judged_step : (script : ScriptValue) (j : Judged) (t a n : ℕ) (what : What) (whats : List What) → judged_behind script (judged_after script j (note_of t a n what)) a whats ≡ judged_behind script j a (what ∷ whats)
judged_step script j t a n what whats =
    let next = place_after (j.places a) what in
    let then : References = references_after j.references a (present_op script a (j.places a)) what in
    let plain : PlainState = plain_behind (plain_after j.plain what) whats in
    let here : Place → References = λ q. references_behind (ops_of script a) then a q whats in
    ap (λ (q : Place). record { plain = plain; references = here q; places = put a (place_behind q whats) (put a next j.places) }) (put_same a next j.places)
    ∙ ap (λ (places : ℕ → Place). record { plain = plain; references = here next; places = places }) (put_twice a next (place_behind next whats) j.places)

-- a turn's notes, and then the rest
pub plain_append : (script : ScriptValue) (t a n : ℕ) (whats : List What) (rest : List NoteValue) (j : Judged) → AreRight (ops_of script a) (doer script a) j.plain j.references (j.places a) whats → AreSo IsBothAt script (judged_behind script j a whats) rest → AreSo IsBothAt script j (notes_of_turn t a n whats ++ rest)
plain_append script t a n [] rest j right later = subst (λ (places : ℕ → Place). AreSo IsBothAt script (record { plain = j.plain; references = j.references; places = places }) rest) (put_own a j.places) later
plain_append script t a n (what ∷ whats) rest j right later =
    let next = place_after (j.places a) what in
    let then : References = references_after j.references a (present_op script a (j.places a)) what in
    let more = subst (λ (q : Place). AreRight (ops_of script a) (doer script a) (plain_after j.plain what) then q whats) (sym (put_same a next j.places)) right.1 in
    let after = subst (λ (k : Judged). AreSo IsBothAt script k rest) (sym (judged_step script j t a n what whats)) later in
    (right.0, plain_append script t a n whats rest (judged_after script j (note_of t a n what)) more after)
