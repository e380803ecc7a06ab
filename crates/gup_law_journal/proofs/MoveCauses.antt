-- A turn answers that a page is untouched exactly where a move finds it so, and that its frame is busy exactly where a move has
-- counted more than one reference.
use Rattle.std.proofs.Common.{◌≡◌, ℕ, ◌<◌, List, [], ◌∷◌, length, slice_index_or, Contains, Option, Some, None, IsSome, IsTrue, refl, sym, ap, ◌∙◌, subst, zero, suc, arith, rules, Bool, true}
use Rattle.gup_base.specs.declared.entry.Allowed.{Allowed}
use Rattle.gup_base.specs.declared.entry.Allowed.TheVariants.{Only}
use Rattle.gup_base.specs.declared.entry.Entry.{Entry}
use Rattle.gup_base.specs.declared.entry.Rights.{Rights}
use Rattle.gup_base.specs.declared.entry.Zone.{Zone}
use Rattle.gup_plain.specs.State.{PlainState, Birth, born}
use Rattle.gup_plain.specs.declared.answer.Answer.{Answer}
use Rattle.gup_plain.specs.declared.answer.Answer.TheVariants as answers
use Rattle.gup_plain.specs.declared.note.What.{What}
use Rattle.gup_plain.specs.declared.note.What.TheVariants.{Done}
use Rattle.gup_plain.specs.declared.note.Waiting.{Waiting}
use Rattle.gup_script.specs.Script.{ScriptValue}
use Rattle.gup_script.specs.Valid.{IsScript}
use Rattle.gup_script.specs.declared.op.Op.{Op}
use Rattle.gup_script.specs.declared.op.Op.TheVariants.{Pin, Move}
use Rattle.gup_spec_events.specs.State.{CoreState, Job, idle, moving, WalkStep, Counted, unread, one as counted_one, more as counted_more, forking, between, counted, copying, plain_of}
use Rattle.gup_spec_journal.specs.Denial.{References}
use Rattle.gup_spec_journal.specs.Follows.{refuses}
use Rattle.gup_spec_journal.specs.Place.{Place, Doer, doer_of, birth_for}
use Rattle.gup_spec_journal.specs.Order.{waiting_at}
use Rattle.gup_spec_turns.specs.Cause.{FindsUntouched, UntouchedExactly, HasCountedMore, BusyExactly}
use Rattle.gup_spec_turns.specs.CoreTurn.{free_in}
use Rattle.gup_spec_turns.specs.JobPlace.{JobPlace, job_place, place_in, moving_page}
use Rattle.gup_spec_turns.specs.MoveTurns.{place_turn, move_turn}
use Rattle.gup_spec_turns.specs.Run.{RunState, turned, run_start, run_after, op_in, waiting_with, waiting_in, core_turn_by, core_turn_in, turn_in}
use Rattle.gup_spec_turns.specs.Turn.{turn_at, failed_turn}
use Rattle.gup_spec_turns.specs.Waits.{move_locks, waits_for_locks}
use Rattle.gup_spec_turns.proofs.TurnParts.{clear_turn_by}
use Rattle.gup_law_turns.proofs.EventLists.{Law}
use Rattle.gup_law_turns.proofs.StandingStates.{Stands}
use Rattle.gup_law_turns.proofs.StandingTurns.{Starts, stands_first, stands_on}
use Rattle.gup_law_turns.proofs.TurnShapes.{FitsMove, FitsAt, TurnOf, refused, walked, refused_slowly, WalksTo, found_fork, found_busy, TurnAt, goes}
use Rattle.gup_law_turns.proofs.TurnSteps.{taken}

-- who stands at a cleared page has cleared it
pub moving_job : (g : ℕ) (e : Entry) (c : Counted) (job : Job) (prepared : Option ℕ) → job_place job prepared ≡ moving_page g e c → (q : ℕ) × (allowed : Allowed) × (job ≡ moving q g e allowed c)
moving_job g e c (moving q h d allowed count) prepared is = (q, allowed, cc)
moving_job g e c (forking q d done between) prepared is = absurd (cc is)
moving_job g e c (forking q d done (counted page)) prepared is = absurd (cc is)
moving_job g e c (forking q d done (copying page word)) None is = absurd (cc is)
moving_job g e c (forking q d done (copying page word)) (Some to) is = absurd (cc is)
moving_job g e c job prepared is = absurd (cc is)

-- each of the notes that answers so has its cause

abbrev MayHave : (untouched : Type 0) (busy : ℕ → Type 0) → What → Type 0
MayHave untouched busy (Done answers.Untouched) = untouched
MayHave untouched busy (Done (answers.Busy count)) = busy count
MayHave untouched busy what = Unit {0}

abbrev HaveCause : (untouched : Type 0) (busy : ℕ → Type 0) → List What → Type 0
HaveCause untouched busy [] = Unit {0}
HaveCause untouched busy (what ∷ whats) = MayHave untouched busy what × HaveCause untouched busy whats

cause_at : (untouched : Type 0) (busy : ℕ → Type 0) (whats : List What) (what : What) (k : ℕ) → HaveCause untouched busy whats → k < length whats → slice_index_or whats k what ≡ what → MayHave untouched busy what
cause_at untouched busy [] what k have less is = absurd (omega arith)
cause_at untouched busy (first ∷ whats) what zero have less is = subst (MayHave untouched busy) is have.0
cause_at untouched busy (first ∷ whats) what (suc k) have less is = cause_at untouched busy whats what k have.1 (omega arith) is

cause_in : (untouched : Type 0) (busy : ℕ → Type 0) (whats : List What) (what : What) → HaveCause untouched busy whats → Contains whats what → MayHave untouched busy what
cause_in untouched busy whats what have (k, less, is) = cause_at untouched busy whats what k have less is

-- only a move answers so

abbrev IsMove : Op → Type 0
IsMove op = (proc page : ℕ) × (zone : Zone) × (op ≡ Move proc page zone)

untouched_moves : (op : Op) → IsTrue (refuses op answers.Untouched) → IsMove op
untouched_moves (Move proc page zone) refusal = (proc, page, zone, refl)
untouched_moves op refusal = absurd (cc refusal)

busy_moves : (op : Op) (count : ℕ) → IsTrue (refuses op (answers.Busy count)) → IsMove op
busy_moves (Move proc page zone) count refusal = (proc, page, zone, refl)
busy_moves op count refusal = absurd (cc refusal)

refusal_moves : (op : Op) (answer : Answer) → IsTrue (refuses op answer) → MayHave (IsMove op) (λ count. IsMove op) (Done answer)
refusal_moves op answers.Untouched refusal = untouched_moves op refusal
refusal_moves op (answers.Busy count) refusal = busy_moves op count refusal
refusal_moves op answer refusal = tt

-- a turn of a walk says neither
walk_says : {s : PlainState} {who : Doer} {page n got : ℕ} {write : Bool} {sequence : ℕ} {step : WalkStep} {whats : List What} {to : JobPlace} (untouched : Type 0) (busy : ℕ → Type 0) → WalksTo s who page n got write sequence step whats to → HaveCause untouched busy whats
walk_says untouched busy found_fork = (tt, tt)
walk_says untouched busy turn = search rules

shape_moves : {s : PlainState} {references : References} {who : Doer} {place : Place} {op : Op} {from to : JobPlace} {whats : List What} → TurnOf s references who place op from whats to → HaveCause (IsMove op) (λ count. IsMove op) whats
shape_moves (refused op answer first refusal at_once slow right passes) = (refusal_moves op answer refusal, tt)
shape_moves (walked handle page n want sequence step whats to walks room free) = walk_says (IsMove (Pin handle page n want true)) (λ count. IsMove (Pin handle page n want true)) walks
shape_moves (refused_slowly handle page n want answer begun none refusal living at_once right) = (refusal_moves (Pin handle page n want true) answer refusal, tt)
shape_moves (found_busy proc page zone e count begun free) = ((proc, page, zone, refl), tt)
shape_moves turn = search rules

-- which waits for nothing, of a born process
abbrev Goes : PlainState → Doer → Option Op → Option Waiting → Type 0
Goes s who op waiting = (o : Op) × IsMove o × (op ≡ Some o) × (waiting ≡ None) × (birth_for s.birth who ≡ born)

may_goes : (s : PlainState) (who : Doer) (o : Op) (what : What) → birth_for s.birth who ≡ born → MayHave (IsMove o) (λ count. IsMove o) what → MayHave (Goes s who (Some o) None) (λ count. Goes s who (Some o) None) what
may_goes s who o (Done answers.Untouched) birth moves = (o, moves, refl, refl, birth)
may_goes s who o (Done (answers.Busy count)) birth moves = (o, moves, refl, refl, birth)
may_goes s who o what birth moves = tt

have_goes : (s : PlainState) (who : Doer) (o : Op) (whats : List What) → birth_for s.birth who ≡ born → HaveCause (IsMove o) (λ count. IsMove o) whats → HaveCause (Goes s who (Some o) None) (λ count. Goes s who (Some o) None) whats
have_goes s who o [] birth have = tt
have_goes s who o (what ∷ whats) birth have = (may_goes s who o what birth have.0, have_goes s who o whats birth have.1)

turn_goes : {s : PlainState} {references : References} {who : Doer} {place : Place} {op : Option Op} {waiting : Option Waiting} {from to : JobPlace} {whats : List What} → TurnAt s references who place op waiting from whats to → HaveCause (Goes s who op waiting) (λ count. Goes s who op waiting) whats
turn_goes {s = s} {who = who} (goes op whats from to birth own turn) = have_goes s who op whats birth (shape_moves turn)
turn_goes turn = search rules

-- the turn of a move, by its actor's job
module _ (s : CoreState) (a p page : ℕ) (zone : Zone) (place : Place) where
  abbrev IsUntouched : Type 0
  IsUntouched = (s.job a ≡ idle) × IsSome (s.right p page) × (s.entry p page ≡ None)

  abbrev IsBusy : ℕ → Type 0
  IsBusy count = (g : ℕ) × (e : Entry) × (place_in s a ≡ moving_page g e (counted_more count)) × (count ≡ 1 → ⊥)

  clear_cause : (right : Option Rights) (entry : Option Entry) → s.job a ≡ idle → s.right p page ≡ right → s.entry p page ≡ entry → HaveCause IsUntouched IsBusy (clear_turn_by right a p page zone entry).whats
  clear_cause None entry job right_is entry_is = (tt, tt)
  clear_cause (Some rights) None job right_is entry_is = ((job, ap_some right_is, entry_is), tt)
    where
      ap_some : s.right p page ≡ Some rights → IsSome (s.right p page)
      ap_some is = rw is refl
  clear_cause (Some rights) (Some e) job right_is entry_is = (tt, tt)

  place_cause : (e : Entry) (free : Option ℕ) → HaveCause IsUntouched IsBusy (place_turn a p page e (Only zone) free).whats
  place_cause e None = (tt, tt)
  place_cause e (Some f) = (tt, tt)

  move_cause : (job : Job) → s.job a ≡ job → FitsMove s a p page zone place job → HaveCause IsUntouched IsBusy (move_turn s a p page zone job).whats
  move_cause idle is fits = clear_cause (s.right p page) (s.entry p page) is refl refl
  move_cause (moving q g e allowed unread) is fits = (tt, tt)
  move_cause (moving q g e allowed counted_one) is fits = place_cause e (free_in s (Only zone))
  move_cause (moving q g e allowed (counted_more count)) is fits = ((g, e, ap (λ (j : Job). job_place j (s.prepared a)) is, fits.1.3), tt)
  move_cause job is fits = absurd fits

  -- a mapped page without an entry is found untouched
  clear_says : (right : Option Rights) (entry : Option Entry) → IsSome right → entry ≡ None → (clear_turn_by right a p page zone entry).whats ≡ Done answers.Untouched ∷ []
  clear_says None entry some none = absurd (cc some)
  clear_says (Some rights) None some none = refl
  clear_says (Some rights) (Some e) some none = absurd (cc none)

module _ (script : ScriptValue) (valid : IsScript script) (r : RunState) (h : Stands script r) (a : ℕ) where
  abbrev s : CoreState
  s = r.core

  abbrev Whats : List What
  Whats = (core_turn_in script r a).whats

  -- what the turn of a move says that waits for nothing, of a born process
  move_now : (p page : ℕ) (zone : Zone) → op_in script r a ≡ Some (Move p page zone) → waiting_in script r a ≡ None → s.birth p ≡ born → Whats ≡ (move_turn s a p page zone (s.job a)).whats
  move_now p page zone is free birth =
      ap (λ (w : Option Waiting). (core_turn_by s (doer_of script a (op_in script r a)) (r.places a).far (op_in script r a) w).whats) free
      ∙ ap (λ (o : Option Op). (core_turn_by s (doer_of script a o) (r.places a).far o None).whats) is
      ∙ ap (λ (b : Birth). (turn_at b (failed_turn a p (Move p page zone)) (move_turn s a p page zone (s.job a))).whats) birth

  shape_says : HaveCause (Goes (plain_of s) (doer_of script a (op_in script r a)) (op_in script r a) (waiting_in script r a)) (λ count. Goes (plain_of s) (doer_of script a (op_in script r a)) (op_in script r a) (waiting_in script r a)) Whats
  shape_says = turn_goes (taken script valid r h a).shape

  -- a move of which the shape says so
  module _ (p page : ℕ) (zone : Zone) (is : op_in script r a ≡ Some (Move p page zone)) (free : waiting_in script r a ≡ None) (birth : birth_for s.birth (doer_of script a (op_in script r a)) ≡ born) where
    born_now : s.birth p ≡ born
    born_now = subst (λ (o : Option Op). birth_for s.birth (doer_of script a o) ≡ born) is birth

    fits_now : FitsMove s a p page zone (r.places a) (s.job a)
    fits_now = (subst (λ (o : Option Op). FitsAt s (doer_of script a o) o (r.places a)) is (h.fits a)).2

    causes : HaveCause (IsUntouched s a p page zone (r.places a)) (IsBusy s a p page zone (r.places a)) Whats
    causes =
        subst (HaveCause (IsUntouched s a p page zone (r.places a)) (IsBusy s a p page zone (r.places a)))
        (sym (move_now p page zone is free born_now)) (move_cause s a p page zone (r.places a) (s.job a) refl fits_now)

    finds_untouched : Contains Whats (Done answers.Untouched) → FindsUntouched script r a
    finds_untouched says =
        let cause = cause_in (IsUntouched s a p page zone (r.places a)) (IsBusy s a p page zone (r.places a)) Whats (Done answers.Untouched) causes says in
        (p, page, zone, is, free, born_now, cause.0, cause.1, cause.2)

    finds_busy : (count : ℕ) → Contains Whats (Done (answers.Busy count)) → HasCountedMore script r a count
    finds_busy count says =
        let cause = cause_in (IsUntouched s a p page zone (r.places a)) (IsBusy s a p page zone (r.places a)) Whats (Done (answers.Busy count)) causes says in
        (p, page, cause.0, zone, cause.1, is, cause.2, cause.3)

  untouched_only : Contains Whats (Done answers.Untouched) → FindsUntouched script r a
  untouched_only says =
      let goes = cause_in (Goes (plain_of s) (doer_of script a (op_in script r a)) (op_in script r a) (waiting_in script r a)) (λ count. Goes (plain_of s) (doer_of script a (op_in script r a)) (op_in script r a) (waiting_in script r a)) Whats (Done answers.Untouched) shape_says says in
      let moves = goes.1 in
      finds_untouched moves.0 moves.1 moves.2 (goes.2 ∙ ap (λ (o : Op). Some o) moves.3) goes.3 goes.4 says

  busy_only : (count : ℕ) → Contains Whats (Done (answers.Busy count)) → HasCountedMore script r a count
  busy_only count says =
      let goes = cause_in (Goes (plain_of s) (doer_of script a (op_in script r a)) (op_in script r a) (waiting_in script r a)) (λ count. Goes (plain_of s) (doer_of script a (op_in script r a)) (op_in script r a) (waiting_in script r a)) Whats (Done (answers.Busy count)) shape_says says in
      let moves = goes.1 in
      finds_busy moves.0 moves.1 moves.2 (goes.2 ∙ ap (λ (o : Op). Some o) moves.3) goes.3 goes.4 count says

  untouched_always : FindsUntouched script r a → Contains Whats (Done answers.Untouched)
  untouched_always (p, page, zone, is, free, birth, job, some, none) =
      let turn = move_now p page zone is free birth ∙ ap (λ (j : Job). (move_turn s a p page zone j).whats) job in
      let says : Whats ≡ Done answers.Untouched ∷ [] = turn ∙ clear_says s a p page zone (r.places a) (s.right p page) (s.entry p page) some none in
      subst (λ (whats : List What). Contains whats (Done answers.Untouched)) (sym says) (0, omega arith, refl)

  pub untouched_exactly : UntouchedExactly script r (turn_in script r a)
  untouched_exactly = (untouched_only, untouched_always)

  -- a move that has counted waits for nothing
  counted_goes : (p page q g : ℕ) (zone : Zone) (e : Entry) (allowed : Allowed) (c : Counted) → op_in script r a ≡ Some (Move p page zone) → s.birth p ≡ born → s.job a ≡ moving q g e allowed c → waiting_in script r a ≡ None
  counted_goes p page q g zone e allowed c is birth job =
      ap (λ (o : Option Op). waiting_with s (doer_of script a o) (r.places a).far o) is
      ∙ ap (λ (b : Birth). waiting_at p b (waits_for_locks (move_locks (s.job a)) a (s.structure p) (s.table p))) birth
      ∙ ap (λ (j : Job). waits_for_locks (move_locks j) a (s.structure p) (s.table p)) job

  busy_always : (count : ℕ) → HasCountedMore script r a count → Contains Whats (Done (answers.Busy count))
  busy_always count (p, page, g, zone, e, is, place, other) =
      let job = moving_job g e (counted_more count) (s.job a) (s.prepared a) place in
      let fits = subst (λ (j : Job). FitsMove s a p page zone (r.places a) j) job.2 ((subst (λ (o : Option Op). FitsAt s (doer_of script a o) o (r.places a)) is (h.fits a)).2) in
      let birth = fits.1.4.birth in
      let turn = move_now p page zone is (counted_goes p page job.0 g zone e job.1 (counted_more count) is birth job.2) birth ∙ ap (λ (j : Job). (move_turn s a p page zone j).whats) job.2 in
      subst (λ (whats : List What). Contains whats (Done (answers.Busy count))) (sym turn) (0, omega arith, refl)

  pub busy_exactly : BusyExactly script r (turn_in script r a)
  busy_exactly = λ count. (busy_only count, busy_always count)

-- in each state that turns lead to
pub stands_turned : Law → (script : ScriptValue) → IsScript script → (actors : List ℕ) (r : RunState) → Stands script r → Stands script (turned script r actors)
stands_turned law script valid [] r h = h
stands_turned law script valid (a ∷ actors) r h = stands_turned law script valid actors (run_after script r a) (stands_on law script valid r h a)

pub reached_stands : Law → Starts → (script : ScriptValue) → IsScript script → (actors : List ℕ) → Stands script (turned script (run_start script) actors)
reached_stands law starts script valid actors = stands_turned law script valid actors (run_start script) (stands_first starts script valid)
