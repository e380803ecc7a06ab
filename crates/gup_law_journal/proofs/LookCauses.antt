-- A turn answers that a mirror slot is stale exactly where a look finds it empty.
use Rattle.std.proofs.Common.{◌≡◌, ℕ, ◌<◌, List, [], ◌∷◌, length, slice_index_or, Contains, Option, Some, None, IsTrue, refl, sym, ap, ◌∙◌, subst, zero, suc, arith, rules, Bool, true, false}
use Rattle.gup_plain.specs.State.{PlainState, Birth, born}
use Rattle.gup_plain.specs.declared.answer.Answer.{Answer}
use Rattle.gup_plain.specs.declared.answer.Answer.TheVariants as answers
use Rattle.gup_plain.specs.declared.note.What.{What}
use Rattle.gup_plain.specs.declared.note.What.TheVariants.{Done}
use Rattle.gup_plain.specs.declared.note.Waiting.{Waiting}
use Rattle.gup_script.specs.Script.{ScriptValue, Actor, actor_at}
use Rattle.gup_script.specs.Valid.{IsScript, FitsKind}
use Rattle.gup_script.specs.declared.op.Kind.{Kind}
use Rattle.gup_script.specs.declared.op.Kind.TheVariants.{Device}
use Rattle.gup_script.specs.declared.op.Op.{Op}
use Rattle.gup_script.specs.declared.op.Op.TheVariants.{Pin, Look}
use Rattle.gup_script.specs.Script.{is_thread}
use Rattle.gup_spec_events.specs.State.{CoreState, WalkStep, plain_of}
use Rattle.gup_spec_journal.specs.Denial.{References}
use Rattle.gup_spec_journal.specs.Follows.{refuses}
use Rattle.gup_spec_journal.specs.Place.{Place, Doer, doer_of, birth_for, birth_by, thread_in}
use Rattle.gup_spec_turns.specs.Cause.{FindsStale, StaleExactly}
use Rattle.gup_spec_turns.specs.JobPlace.{JobPlace}
use Rattle.gup_spec_turns.specs.MirrorTurns.{look_turn}
use Rattle.gup_spec_turns.specs.Run.{RunState, op_in, waiting_in, core_turn_by, core_turn_in, turn_in}
use Rattle.gup_spec_turns.specs.Turn.{turn_at, failed_turn}
use Rattle.gup_law_turns.proofs.ScriptLemmas.{FitsIn, op_fits_kind}
use Rattle.gup_law_turns.proofs.StandingStates.{Stands}
use Rattle.gup_law_turns.proofs.TurnShapes.{TurnOf, refused, walked, refused_slowly, WalksTo, found_fork, TurnAt, goes}
use Rattle.gup_law_turns.proofs.TurnSteps.{taken}

-- each of the notes that answers so has its cause

abbrev MayHave : (stale : Type 0) → What → Type 0
MayHave stale (Done answers.Stale) = stale
MayHave stale what = Unit {0}

abbrev HaveCause : (stale : Type 0) → List What → Type 0
HaveCause stale [] = Unit {0}
HaveCause stale (what ∷ whats) = MayHave stale what × HaveCause stale whats

cause_at : (stale : Type 0) (whats : List What) (k : ℕ) → HaveCause stale whats → k < length whats → slice_index_or whats k (Done answers.Stale) ≡ Done answers.Stale → stale
cause_at stale [] k have less is = absurd (omega arith)
cause_at stale (first ∷ whats) zero have less is = subst (MayHave stale) is have.0
cause_at stale (first ∷ whats) (suc k) have less is = cause_at stale whats k have.1 (omega arith) is

cause_in : (stale : Type 0) (whats : List What) → HaveCause stale whats → Contains whats (Done answers.Stale) → stale
cause_in stale whats have (k, less, is) = cause_at stale whats k have less is

-- only a look answers so

abbrev IsLook : Op → Type 0
IsLook op = (mirror word : ℕ) × (op ≡ Look mirror word)

stale_looks : (op : Op) → IsTrue (refuses op answers.Stale) → IsLook op
stale_looks (Look mirror word) refusal = (mirror, word, refl)
stale_looks op refusal = absurd (cc refusal)

refusal_looks : (op : Op) (answer : Answer) → IsTrue (refuses op answer) → MayHave (IsLook op) (Done answer)
refusal_looks op answers.Stale refusal = stale_looks op refusal
refusal_looks op answer refusal = tt

walk_says : {s : PlainState} {who : Doer} {page n got : ℕ} {write : Bool} {sequence : ℕ} {step : WalkStep} {whats : List What} {to : JobPlace} (stale : Type 0) → WalksTo s who page n got write sequence step whats to → HaveCause stale whats
walk_says stale found_fork = (tt, tt)
walk_says stale turn = search rules

shape_looks : {s : PlainState} {references : References} {who : Doer} {place : Place} {op : Op} {from to : JobPlace} {whats : List What} → TurnOf s references who place op from whats to → HaveCause (IsLook op) whats
shape_looks (refused op answer first refusal at_once slow right passes) = (refusal_looks op answer refusal, tt)
shape_looks (walked handle page n want sequence step whats to walks room free) = walk_says (IsLook (Pin handle page n want true)) walks
shape_looks (refused_slowly handle page n want answer begun none refusal living at_once right) = (refusal_looks (Pin handle page n want true) answer refusal, tt)
shape_looks turn = search rules

-- which waits for nothing, in a process that is born or in none
abbrev Goes : PlainState → Doer → Option Op → Option Waiting → Type 0
Goes s who op waiting = (o : Op) × IsLook o × (op ≡ Some o) × (waiting ≡ None) × (birth_for s.birth who ≡ born)

may_goes : (s : PlainState) (who : Doer) (o : Op) (what : What) → birth_for s.birth who ≡ born → MayHave (IsLook o) what → MayHave (Goes s who (Some o) None) what
may_goes s who o (Done answers.Stale) birth looks = (o, looks, refl, refl, birth)
may_goes s who o what birth looks = tt

have_goes : (s : PlainState) (who : Doer) (o : Op) (whats : List What) → birth_for s.birth who ≡ born → HaveCause (IsLook o) whats → HaveCause (Goes s who (Some o) None) whats
have_goes s who o [] birth have = tt
have_goes s who o (what ∷ whats) birth have = (may_goes s who o what birth have.0, have_goes s who o whats birth have.1)

turn_goes : {s : PlainState} {references : References} {who : Doer} {place : Place} {op : Option Op} {waiting : Option Waiting} {from to : JobPlace} {whats : List What} → TurnAt s references who place op waiting from whats to → HaveCause (Goes s who op waiting) whats
turn_goes {s = s} {who = who} (goes op whats from to birth own turn) = have_goes s who op whats birth (shape_looks turn)
turn_goes turn = search rules

-- a look is a device's, and so waits for no birth
of_device : (kind : Kind) (mirror word : ℕ) → FitsKind kind (Look mirror word) → is_thread kind ≡ false
of_device (Device slots) mirror word fits = refl
of_device kind mirror word fits = absurd fits

of_no_thread : (actor : Option Actor) (mirror word : ℕ) → FitsIn actor (Look mirror word) → thread_in actor ≡ false
of_no_thread None mirror word fits = absurd fits
of_no_thread (Some actor) mirror word fits = of_device actor.kind mirror word fits

-- what it says, by what is in its slot
look_says : (s : CoreState) (a mirror word : ℕ) (frame : Option ℕ) → HaveCause (frame ≡ None) (look_turn s a mirror word frame).whats
look_says s a mirror word None = (refl, tt)
look_says s a mirror word (Some f) = (tt, (tt, tt))

module _ (script : ScriptValue) (valid : IsScript script) (r : RunState) (h : Stands script r) (a : ℕ) where
  abbrev s : CoreState
  s = r.core

  abbrev Whats : List What
  Whats = (core_turn_in script r a).whats

  abbrev IsGoing : Type 0
  IsGoing = Goes (plain_of s) (doer_of script a (op_in script r a)) (op_in script r a) (waiting_in script r a)

  born_look : (mirror word : ℕ) → op_in script r a ≡ Some (Look mirror word) → birth_for s.birth (doer_of script a (Some (Look mirror word))) ≡ born
  born_look mirror word is =
      ap (λ (t : Bool). birth_by t (s.birth (doer_of script a (Some (Look mirror word))).proc))
      (of_no_thread (actor_at script a) mirror word (op_fits_kind script valid a (r.places a).answered (Look mirror word) is))

  -- what the turn of a look says that waits for nothing
  look_now : (mirror word : ℕ) → op_in script r a ≡ Some (Look mirror word) → waiting_in script r a ≡ None → Whats ≡ (look_turn s a mirror word (s.mirrored mirror)).whats
  look_now mirror word is free =
      ap (λ (w : Option Waiting). (core_turn_by s (doer_of script a (op_in script r a)) (r.places a).far (op_in script r a) w).whats) free
      ∙ ap (λ (o : Option Op). (core_turn_by s (doer_of script a o) (r.places a).far o None).whats) is
      ∙ ap (λ (b : Birth). (turn_at b (failed_turn a (doer_of script a (Some (Look mirror word))).proc (Look mirror word)) (look_turn s a mirror word (s.mirrored mirror))).whats) (born_look mirror word is)

  stale_only : Contains Whats (Done answers.Stale) → FindsStale script r a
  stale_only says =
      let goes = cause_in IsGoing Whats (turn_goes (taken script valid r h a).shape) says in
      let looks = goes.1 in
      let is : op_in script r a ≡ Some (Look looks.0 looks.1) = goes.2 ∙ ap (λ (o : Op). Some o) looks.2 in
      let now = look_now looks.0 looks.1 is goes.3 in
      let empty : s.mirrored looks.0 ≡ None = cause_in (s.mirrored looks.0 ≡ None) (look_turn s a looks.0 looks.1 (s.mirrored looks.0)).whats (look_says s a looks.0 looks.1 (s.mirrored looks.0)) (subst (λ (whats : List What). Contains whats (Done answers.Stale)) now says) in
      (looks.0, looks.1, is, goes.3, empty)

  stale_always : FindsStale script r a → Contains Whats (Done answers.Stale)
  stale_always (mirror, word, is, free, none) =
      let now : Whats ≡ Done answers.Stale ∷ [] = look_now mirror word is free ∙ ap (λ (frame : Option ℕ). (look_turn s a mirror word frame).whats) none in
      subst (λ (whats : List What). Contains whats (Done answers.Stale)) (sym now) (0, omega arith, refl)

  pub stale_exactly : StaleExactly script r (turn_in script r a)
  stale_exactly = (stale_only, stale_always)
