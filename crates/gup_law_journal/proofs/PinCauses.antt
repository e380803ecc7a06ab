-- A turn answers that a page can't be moved, or ends a short pin so, exactly where a long pin has counted more than one reference.
use Rattle.std.proofs.lemmas.Bool.Decides.{nat_tests}
use Rattle.std.proofs.Common.{◌≡◌, ℕ, ◌+◌, ◌<◌, ◌==◌, inl, inr, Bool, true, false, if◌then◌else◌, not, ◌&&◌, List, [], ◌∷◌, length, slice_index_or, Option, Some, None, IsTrue, refl, sym, ap, ◌∙◌, subst, zero, suc, arith, rules}
use Rattle.gup_base.specs.declared.entry.Entry.{Entry}
use Rattle.gup_base.specs.declared.entry.Want.{Want}
use Rattle.gup_plain.specs.declared.answer.Answer.{Answer}
use Rattle.gup_plain.specs.declared.answer.Answer.TheVariants as answers
use Rattle.gup_plain.specs.declared.answer.Cause.{Cause}
use Rattle.gup_plain.specs.declared.answer.Cause.TheVariants as causes
use Rattle.gup_plain.specs.declared.note.What.{What}
use Rattle.gup_plain.specs.declared.note.What.TheVariants.{Done}
use Rattle.gup_plain.specs.declared.note.Waiting.{Waiting}
use Rattle.gup_plain.specs.declared.note.Waiting.TheVariants as waitings
use Rattle.gup_base.specs.declared.entry.Allowed.{Allowed}
use Rattle.gup_script.specs.Script.{ScriptValue}
use Rattle.gup_script.specs.Valid.{IsScript}
use Rattle.gup_script.specs.declared.op.Op.{Op}
use Rattle.gup_script.specs.declared.op.Op.TheVariants.{Pin}
use Rattle.gup_spec_events.specs.Event.{CoreEvent}
use Rattle.gup_spec_events.specs.State.{CoreState, Job, idle, moving, walking, WalkStep, unread, one as counted_one, more as counted_more}
use Rattle.gup_spec_journal.specs.Denial.{References}
use Rattle.gup_spec_journal.specs.Follows.{refuses}
use Rattle.gup_spec_journal.specs.Place.{Place, Doer, doer_of, birth_by, birth_for}
use Rattle.gup_spec_journal.specs.Plain.{refusal_by_cause}
use Rattle.gup_plain.specs.State.{PlainState, Birth, born}
use Rattle.gup_spec_journal.specs.Order.{waiting_at}
use Rattle.gup_spec_turns.specs.Cause.{HasPinnedMore, RefusesUnmovable, UnmovableExactly}
use Rattle.gup_spec_turns.specs.JobPlace.{JobPlace, job_place, place_in, unbegun, from_page, at_page, wants_frame, at_word, moving_page, in_walk}
use Rattle.gup_spec_turns.specs.PinPlace.{StandsAtPage}
use Rattle.gup_spec_turns.specs.PinTurns.{ends_pin, pin_turn, pin_turn_in}
use Rattle.gup_spec_turns.specs.Run.{RunState, op_in, waiting_with, waiting_in, core_turn_by, core_turn_in, turn_in}
use Rattle.gup_spec_turns.specs.Turn.{turn_at, failed_turn, own_turn}
use Rattle.gup_spec_turns.specs.Waits.{both_if, pin_locks, waits_for_locks}
use Rattle.gup_law_journal.proofs.MoveCauses.{moving_job}
use Rattle.gup_law_turns.proofs.NoteRightness.{unrefused_short, not_both}
use Rattle.gup_law_turns.proofs.StandingStates.{Stands}
use Rattle.gup_law_turns.proofs.TurnShapes.{IsAtOnce, RefusesAt, FitsAt, TurnOf, refused, walked, refused_slowly, WalksTo, found_fork, found_unmovable, pinned_short, TurnAt, goes}
use Rattle.gup_law_turns.proofs.TurnSteps.{taken}
use Rattle.gup_law_turns.proofs.TurnAsOwn.{AsOwn, as_own}

-- each of the notes that says so has its cause

abbrev MayHave : (cause : ℕ → Type 0) → What → Type 0
MayHave cause (Done (answers.Unmovable count)) = cause count
MayHave cause (Done (answers.Short got wanted (causes.Unmovable count))) = cause count
MayHave cause what = Unit {0}

abbrev HaveCause : (cause : ℕ → Type 0) → List What → Type 0
HaveCause cause [] = Unit {0}
HaveCause cause (what ∷ whats) = MayHave cause what × HaveCause cause whats

cause_at : (cause : ℕ → Type 0) (whats : List What) (what : What) (k : ℕ) → HaveCause cause whats → k < length whats → slice_index_or whats k what ≡ what → MayHave cause what
cause_at cause [] what k have less is = absurd (omega arith)
cause_at cause (first ∷ whats) what zero have less is = subst (MayHave cause) is have.0
cause_at cause (first ∷ whats) what (suc k) have less is = cause_at cause whats what k have.1 (omega arith) is

cause_in : (cause : ℕ → Type 0) (whats : List What) (count : ℕ) → HaveCause cause whats → RefusesUnmovable whats count → cause count
cause_in cause whats count have (inl (k, less, is)) = cause_at cause whats (Done (answers.Unmovable count)) k have less is
cause_in cause whats count have (inr (got, wanted, (k, less, is))) = cause_at cause whats (Done (answers.Short got wanted (causes.Unmovable count))) k have less is

-- a long pin that stands where it has read this count
abbrev HasRead : Op → JobPlace → ℕ → Type 0
HasRead op from count =
    (handle page n g : ℕ) × (want : Want) × (fast : Bool) × (e : Entry) × (op ≡ Pin handle page n want fast) × (want.long ≡ true)
    × (from ≡ moving_page g e (counted_more count))

-- no refusal says so at once
at_once_never : (op : Op) (count : ℕ) → IsTrue (refuses op (answers.Unmovable count)) → IsAtOnce op (answers.Unmovable count) → ⊥
at_once_never (Pin handle page n want fast) count refusal at = at
at_once_never op count refusal at = cc refusal

refused_says : (op : Op) (from : JobPlace) (answer : Answer) → IsTrue (refuses op answer) → IsAtOnce op answer → MayHave (HasRead op from) (Done answer)
refused_says op from (answers.Unmovable count) refusal at = absurd (at_once_never op count refusal at)
refused_says op from (answers.Short got wanted (causes.Unmovable count)) refusal at =
    absurd (not_both (refuses op (answers.Short got wanted (causes.Unmovable count))) (unrefused_short op got wanted (causes.Unmovable count)) refusal)
refused_says op from answer refusal at = search rules

-- a page that ends a short pin so was counted

short_place : (handle page n : ℕ) (want : Want) (fast : Bool) (from : JobPlace) (count : ℕ) → RefusesAt want from (answers.Unmovable count) → HasRead (Pin handle page n want fast) from count
short_place handle page n want fast (moving_page g e (counted_more c)) count at = (handle, page, n, g, want, fast, e, refl, at.0, ap (λ (k : ℕ). moving_page g e (counted_more k)) (sym at.1))
short_place handle page n want fast (moving_page g e counted_one) count at = absurd at
short_place handle page n want fast (moving_page g e unread) count at = absurd at
short_place handle page n want fast unbegun count at = absurd at
short_place handle page n want fast (from_page g) count at = absurd at
short_place handle page n want fast (at_page g) count at = absurd at
short_place handle page n want fast (wants_frame g) count at = absurd at
short_place handle page n want fast (at_word g word to) count at = absurd at
short_place handle page n want fast (in_walk sequence step) count at = absurd at

short_says : (handle page n : ℕ) (want : Want) (fast : Bool) (from : JobPlace) (got : ℕ) (cause : Cause) → RefusesAt want from (refusal_by_cause cause) → MayHave (HasRead (Pin handle page n want fast) from) (Done (answers.Short got n cause))
short_says handle page n want fast from got (causes.Unmovable count) at = short_place handle page n want fast from count at
short_says handle page n want fast from got causes.Missing at = tt
short_says handle page n want fast from got causes.Forbidden at = tt
short_says handle page n want fast from got causes.NoFrame at = tt

-- a turn of a walk says nothing of it
walk_says : {s : PlainState} {who : Doer} {page n got : ℕ} {write : Bool} {sequence : ℕ} {step : WalkStep} {whats : List What} {to : JobPlace} (cause : ℕ → Type 0) → WalksTo s who page n got write sequence step whats to → HaveCause cause whats
walk_says cause found_fork = (tt, tt)
walk_says cause turn = search rules

shape_says : {s : PlainState} {references : References} {who : Doer} {place : Place} {op : Op} {from to : JobPlace} {whats : List What} → TurnOf s references who place op from whats to → HaveCause (HasRead op from) whats
shape_says {from = from} (refused op answer first refusal at_once slow right passes) = (refused_says op from answer refusal at_once, tt)
shape_says {from = from} (walked handle page n want sequence step whats to walks room free) = walk_says (HasRead (Pin handle page n want true) from) walks
shape_says {from = from} (refused_slowly handle page n want answer begun none refusal living at_once right) = (refused_says (Pin handle page n want true) from answer refusal at_once, tt)
shape_says (found_unmovable handle page n want fast g e count long begun none free) = ((handle, page, n, g, want, fast, e, refl, long, refl), tt)
shape_says (pinned_short handle page n want fast got cause from had same some less end at right) = (tt, (short_says handle page n want fast from got cause at, tt))
shape_says turn = search rules

may_be : (op : Op) (from : JobPlace) (what : What) → MayHave (HasRead op from) what → MayHave (λ count. (o : Op) × (Some op ≡ Some o) × HasRead o from count) what
may_be op from (Done (answers.Unmovable count)) has = (op, refl, has)
may_be op from (Done (answers.Short got wanted (causes.Unmovable count))) has = (op, refl, has)
may_be op from what has = search rules

have_all : (op : Op) (from : JobPlace) (whats : List What) → HaveCause (HasRead op from) whats → HaveCause (λ count. (o : Op) × (Some op ≡ Some o) × HasRead o from count) whats
have_all op from [] have = tt
have_all op from (what ∷ whats) have = (may_be op from what have.0, have_all op from whats have.1)

turn_says : {s : PlainState} {references : References} {who : Doer} {place : Place} {op : Option Op} {waiting : Option Waiting} {from to : JobPlace} {whats : List What} → TurnAt s references who place op waiting from whats to → HaveCause (λ count. (o : Op) × (op ≡ Some o) × HasRead o from count) whats
turn_says (goes op whats from to birth own turn) = have_all op from whats (shape_says turn)
turn_says turn = search rules

-- what was counted so isn't 1
more_than_one : (s : CoreState) (a p page n got g count : ℕ) (want : Want) (fast : Bool) (e : Entry) (job : Job) (prepared : Option ℕ) → StandsAtPage s a p page n got want fast job → job_place job prepared ≡ moving_page g e (counted_more count) → count ≡ 1 → ⊥
more_than_one s a p page n got g count want fast e idle prepared at is single = cc is
more_than_one s a p page n got g count want fast e (moving q h d allowed unread) prepared at is single = cc is
more_than_one s a p page n got g count want fast e (moving q h d allowed counted_one) prepared at is single = cc is
more_than_one s a p page n got g count want fast e (moving q h d allowed (counted_more c)) prepared at is single = at.3 (let same : c ≡ count = cc in same ∙ single)
more_than_one s a p page n got g count want fast e (walking q write long sequence step) prepared at is single = cc is
more_than_one s a p page n got g count want fast e job prepared at is single = absurd at

unmovable_only : (script : ScriptValue) (valid : IsScript script) (r : RunState) → Stands script r → (a count : ℕ) → RefusesUnmovable (turn_in script r a).whats count → HasPinnedMore script r a count
unmovable_only script valid r h a count says =
    let read = cause_in (λ (k : ℕ). (o : Op) × (op_in script r a ≡ Some o) × HasRead o (place_in r.core a) k) (core_turn_in script r a).whats count (turn_says (taken script valid r h a).shape) says in
    by_read read.0 read.1 read.2
  where
    by_read : (o : Op) → op_in script r a ≡ Some o → HasRead o (place_in r.core a) count → HasPinnedMore script r a count
    by_read o is (handle, page, n, g, want, fast, e, pins, long, from) =
        let there = is ∙ ap (λ (x : Op). Some x) pins in
        let fits = subst (λ (x : Option Op). FitsAt r.core (doer_of script a x) x (r.places a)) there (h.fits a) in
        (handle, page, n, g, want, fast, e, there, long, from, more_than_one r.core a (doer_of script a (Some (Pin handle page n want fast))).proc (page + length (r.core.taken a)) n (length (r.core.taken a)) g count want fast e (r.core.job a) (r.core.prepared a) fits.at from)

-- where it has counted so, the pin or its page is refused so

ended_says : (before : List CoreEvent) (a handle n got count : ℕ) → RefusesUnmovable (ends_pin before a handle n got (answers.Unmovable count)).whats count
ended_says before a handle n zero count = inl (0, omega arith, refl)
ended_says before a handle n (suc got) count = inr (suc got, n, (1, omega arith, refl))

birth_of : (thread : Bool) (b : Birth) → b ≡ born → birth_by thread b ≡ born
birth_of true b is = is
birth_of false b is = refl

-- who holds the table lock itself waits for no lock, if nobody forks
same_number : (a : ℕ) → (a == a) ≡ true
same_number a = grind (arith, nat_tests)

own_lock : (a : ℕ) (needed : Bool) → waits_for_locks (both_if needed) a None (Some a) ≡ None
own_lock a true = ap (λ (c : Bool). if c then None else Some (waitings.Holder a)) (same_number a)
own_lock a false = refl

module _ (script : ScriptValue) (r : RunState) (h : Stands script r) (a handle page n g count : ℕ) (want : Want) (fast : Bool) (e : Entry) (is : op_in script r a ≡ Some (Pin handle page n want fast)) (place : place_in r.core a ≡ moving_page g e (counted_more count)) where
  abbrev s : CoreState
  s = r.core

  abbrev op : Op
  op = Pin handle page n want fast

  abbrev who : Doer
  who = doer_of script a (Some op)

  abbrev far : ℕ
  far = (r.places a).far

  abbrev needed : Bool
  needed = not (fast && far == 0)

  job : (q : ℕ) × (allowed : Allowed) × (s.job a ≡ moving q g e allowed (counted_more count))
  job = moving_job g e (counted_more count) (s.job a) (s.prepared a) place

  at : StandsAtPage s a who.proc (page + length (s.taken a)) n (length (s.taken a)) want fast (moving job.0 g e job.1 (counted_more count))
  at = subst (StandsAtPage s a who.proc (page + length (s.taken a)) n (length (s.taken a)) want fast) job.2 (subst (λ (o : Option Op). FitsAt s (doer_of script a o) o (r.places a)) is (h.fits a)).at

  birth : birth_for s.birth who ≡ born
  birth = birth_of who.of_process (s.birth who.proc) at.4.moving.birth

  free : waiting_in script r a ≡ None
  free =
      ap (λ (o : Option Op). waiting_with s (doer_of script a o) (r.places a).far o) is
      ∙ ap (λ (b : Birth). waiting_at who.proc b (waits_for_locks (pin_locks fast far (s.job a)) a (s.structure who.proc) (s.table who.proc))) birth
      ∙ ap (λ (j : Job). waits_for_locks (pin_locks fast far j) a (s.structure who.proc) (s.table who.proc)) job.2
      ∙ ap (λ (l : Option ℕ). waits_for_locks (both_if needed) a l (s.table who.proc)) at.4.unforked
      ∙ ap (λ (l : Option ℕ). waits_for_locks (both_if needed) a None l) at.4.moving.locked
      ∙ own_lock a needed

  own : AsOwn s who far op
  own = as_own s who far op

  -- the state with other page tables
  abbrev beside : CoreState
  beside = record s { free_table = own.state.free_table; place = own.state.place; retired = own.state.retired }

  says : (core_turn_in script r a).whats ≡ (pin_turn_in s a who.proc handle page n (length (s.taken a)) want fast far (moving job.0 g e job.1 (counted_more count))).whats
  says =
      ap (λ (w : Option Waiting). (core_turn_by s (doer_of script a (op_in script r a)) (r.places a).far (op_in script r a) w).whats) free
      ∙ ap (λ (o : Option Op). (core_turn_by s (doer_of script a o) (r.places a).far o None).whats) is
      ∙ own.whats
      ∙ ap (λ (x : CoreState). (own_turn x who far op).whats) own.before
      ∙ ap (λ (b : Birth). (turn_at b (failed_turn a who.proc op) (pin_turn beside a who.proc handle page n want fast far)).whats) birth
      ∙ ap (λ (j : Job). (pin_turn_in beside a who.proc handle page n (length (s.taken a)) want fast far j).whats) job.2

  refuses_it : RefusesUnmovable (turn_in script r a).whats count
  refuses_it = subst (λ (whats : List What). RefusesUnmovable whats count) (sym says) (ended_says _ a handle n (length (s.taken a)) count)

pub unmovable_exactly : (script : ScriptValue) (valid : IsScript script) (r : RunState) → Stands script r → (a : ℕ) → UnmovableExactly script r (turn_in script r a)
unmovable_exactly script valid r h a =
    λ count. (unmovable_only script valid r h a count, λ (handle, page, n, g, want, fast, e, is, long, place, other). refuses_it script r h a handle page n g count want fast e is place)
