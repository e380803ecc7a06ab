-- What stands between two turns of a run stands at its start, and each turn keeps it.
use Rattle.std.proofs.Common.{◌≡◌, ℕ, ◌+◌, ◌<◌, ◌≤◌, ◌==◌, ◌&&◌, Bool, true, false, List, map, length, slice_get, Option, Some, None, IsSome, ◌⊎◌, inl, inr, refl, sym, ap, ◌∙◌, subst, eqb-true, if◌then◌else◌, arith}
use Rattle.gup_law_turns.proofs.CopiedPages.{IsCopyJob, no_copy, not_copying, fits_copy_none}
use Rattle.std.proofs.Math.Path.{subst₂}
use Rattle.std.proofs.lemmas.Bool.Decides.{nat_tests}
use Rattle.std.proofs.lemmas.Option.{slice_get_within}
use Rattle.gup_base.specs.declared.entry.Entry.{Entry}
use Rattle.gup_base.specs.declared.entry.Rights.{Rights}
use Rattle.gup_base.specs.declared.entry.Want.{Want}
use Rattle.gup_script.specs.Valid.{IsScript, IsChild, ForksAt, MakesAt, made_by}
use Rattle.gup_base.specs.declared.entry.Zone.{Zone}
use Rattle.gup_plain.specs.Denial.{is_held_by, transfer_denial, has_words, has_slots, pin_denial}
use Rattle.gup_plain.specs.Event.{IsHeldBy, IsGivenTo, may_write}
use Rattle.gup_plain.specs.State.{PlainState, Birth, unborn, growing, born, failed, Handle, unmade, objects_of}
use Rattle.gup_plain.specs.declared.event.PlainEvent.{PlainEvent}
use Rattle.gup_plain.specs.declared.note.What.{What}
use Rattle.gup_plain.specs.declared.note.Waiting.{Waiting}
use Rattle.gup_script.specs.Script.{ScriptValue, Process, process_at}
use Rattle.gup_script.specs.declared.op.Op.{Op}
use Rattle.gup_script.specs.declared.op.Op.TheVariants.{Pin, Unpin, Get, Transfer, Fork, Exit, Move}
use Rattle.gup_spec_events.specs.State.{CoreState, Job, idle, forking, between, counted, copying, plain_of, core_start, moving, Taken, pending_of, walking, WalkStep, read}
use Rattle.gup_spec_events.specs.Event.{run, has_tables, tree_in}
use Rattle.gup_law_base.specs.Sound.{IsSound}
use Rattle.gup_spec_tables.specs.Tables.{table_numbers, lacks, placed_tables}
use Rattle.gup_spec_events.proofs.Runs.{flag_after}
use Rattle.gup_law_tables.proofs.TableRuns.{first_stand, stand_run}
use Rattle.gup_spec_journal.specs.Denial.{References}
use Rattle.gup_spec_journal.specs.Order.{plain_behind}
use Rattle.gup_spec_journal.specs.Place.{Place, Doer, doer, place_behind, process_of, ops_of, present_op, birth_by, birth_for, is_born, starts_born, doer_of, first_place}
use Rattle.gup_spec_turns.specs.JobPlace.{JobPlace, job_place, place_in, IsForking, HasCounted, KeepsFrame, IsMoving}
use Rattle.gup_spec_turns.specs.PinPlace.{StandsAtPage, IsReadThere}
use Rattle.gup_law_turns.specs.Standing.{StandsHandle, given_back, back_in, IsUnmade, CopyStands}
use Rattle.gup_spec_turns.specs.Run.{RunState, run_start, run_after, op_in, waiting_in, core_turn_by, core_turn_in}
use Rattle.gup_spec_journal.specs.Plain.{pages_got}
use Rattle.gup_spec_turns.specs.CoreTurn.{CoreTurn}
use Rattle.gup_law_turns.proofs.CalmStates.{of_get}
use Rattle.gup_law_turns.proofs.StandingStates.{IsFew, Stands, IsAhead, IsTaken}
use Rattle.gup_law_turns.proofs.FewPages.{few_kept, few_handles, few_first}
use Rattle.gup_law_turns.proofs.KeptParts.{OfProcess, of_process, Leaves, apart, same_or_apart, put_apart, leaves, stays_within, stays_born, stays_barred, LeavesAll, handles_leave, LeavesPinsOf, leaves_pins, LeavesGot, leaves_got, one_holder, held_ungiven, held_made, KeepsPages, stays_locked, stays_flagged}
use Rattle.gup_law_turns.proofs.PinSubjects.{pins_here, gets_here, gets_or_not, reference_declared, about_or_not, handle_declared, is_holder, all_left, transfer_held}
use Rattle.gup_law_turns.proofs.KeptMarks.{stays_marked}
use Rattle.gup_law_turns.proofs.TurnSubjects.{ahead_before, answered_least, IsGoing, IsAboutHandle, still_or_going, keeps_begun, keeps_fresh}
use Rattle.gup_law_turns.proofs.PinChanges.{Change, changed_stands, first_back, turn_changes}
use Rattle.gup_law_turns.proofs.ActorPlaces.{next_place, IsBehind, goes_on, is_over, op_behind, IsBehindTurn, stays_there, goes_by, turn_behind}
use Rattle.gup_law_turns.proofs.Puts.{put_same, some_same}
use Rattle.gup_law_turns.proofs.ScriptLemmas.{child_is, child_declared}
use Rattle.gup_law_turns.proofs.ScriptPlaces.{fresh_place, fresh_fits}
use Rattle.gup_law_turns.proofs.CountedFrames.{stays_sized, stays_counted}
use Rattle.gup_law_turns.proofs.TurnShapes.{FitsFork, FitsAt, AtRest, Rests, HasLeft, child_of, strand_of, TurnAt, goes, unborn_refused, FitsMove, FitsPin}
use Rattle.gup_law_turns.proofs.TurnSteps.{taken}
use Rattle.gup_law_turns.proofs.EventLists.{Law, leads, plain_through, plain_behind-through, AllCanHappen, events_of}
use Rattle.gup_law_turns.proofs.ShownTurns.{FitsNext}

-- the actor's place is changed, and no other
pub at_each : (P : ℕ → Place → Type 0) (a : ℕ) (new : Place) (places : ℕ → Place) → P a new → ((b : ℕ) → P b (places b)) → (b : ℕ) → P b (if b == a then new else places b)
at_each P a new places here there b = go (b == a) refl
  where
    go : (c : Bool) → (b == a) ≡ c → P b (if c then new else places b)
    go true e = subst (λ (k : ℕ). P k new) (sym (eqb-true b a e)) here
    go false e = there b

-- where the actor has a place of its own, and the others have theirs
pub at_others : (P : ℕ → Place → Type 0) (a : ℕ) (new : Place) (places : ℕ → Place) → P a new → ((b : ℕ) → (b ≡ a → ⊥) → P b (places b)) → (b : ℕ) → P b (if b == a then new else places b)
at_others P a new places here there b = go (b == a) refl
  where
    go : (c : Bool) → (b == a) ≡ c → P b (if c then new else places b)
    go true e = subst (λ (k : ℕ). P k new) (sym (eqb-true b a e)) here
    go false e = there b (λ same. grind (arith, nat_tests))

-- after its turn an actor stands where its present operation can: at the next turn of the same one, or at the first of
-- the next
abbrev FitsHere : ScriptValue → CoreState → (a : ℕ) → Place → Type 0
FitsHere script t a place = FitsAt t (doer_of script a (present_op script a place)) (present_op script a place) place

-- a get is answered in its turn, unless it waits, and then nothing is got

get_behind : {t : CoreState} {who : Doer} {handle page : ℕ} {place : Place} {whats : List What} → IsBehind t who (Some (Get handle page)) place whats → FitsNext t who (Some (Get handle page)) place whats → (place_behind place whats).answered ≤ place.answered → ⊥
get_behind (goes_on had is fits) next least = let first = (fits next).1.0 in omega (arith, first)
get_behind (is_over is rests) next least = let more = ap (λ (q : Place). q.answered) is in omega (arith, more, least)

get_answered : {s : PlainState} {references : References} {who : Doer} {place : Place} {handle page : ℕ} {whats : List What} {from to : JobPlace} → TurnAt s references who place (Some (Get handle page)) None from whats to → (t : CoreState) → FitsNext t who (Some (Get handle page)) place whats → (place_behind place whats).answered ≤ place.answered → ⊥
get_answered {handle = handle} {page = page} (goes op whats from to birth own turn) t next least = get_behind (op_behind t (Some (Get handle page)) turn) next least
get_answered (unborn_refused op birth first refusal) t next least = omega (arith, least)

-- the turn leaves references where it doesn't answer
abbrev IsUngotBy : CoreState → Doer → Place → Option Op → Option Waiting → Type 0
IsUngotBy s who place op waiting =
    IsTaken s who place op waiting (core_turn_by s who place.far op waiting)
    → (place_behind place (core_turn_by s who place.far op waiting).whats).answered ≤ place.answered
    → (run s (core_turn_by s who place.far op waiting).events).got ≡ s.got

unanswered_get : (s : CoreState) (who : Doer) (place : Place) (handle page : ℕ) (waiting : Option Waiting) → IsUngotBy s who place (Some (Get handle page)) waiting
unanswered_get s who place handle page (Some waiting) turns least = refl
unanswered_get s who place handle page None turns least =
    absurd (get_answered turns.shape (run s (core_turn_by s who place.far (Some (Get handle page)) None).events) turns.next least)

turn_fits : (script : ScriptValue) (t : CoreState) (a : ℕ) {op : Option Op} {place : Place} {whats : List What} → IsBehindTurn t (doer_of script a op) op place whats → FitsNext t (doer_of script a op) op place whats → present_op script a place ≡ op → (place_behind place whats ≡ fresh_place (place.answered + 1) → Rests t a → FitsHere script t a (fresh_place (place.answered + 1))) → FitsHere script t a (place_behind place whats)
turn_fits script t a {place = place} (stays_there same fits) next is fresh =
    subst (FitsHere script t a) (sym same)
    (subst (λ (o : Option Op). FitsAt t (doer_of script a o) o place) (sym is) (fits next))
turn_fits script t a {place = place} (goes_by (goes_on had same fits)) next is fresh =
    subst (FitsHere script t a) (sym same)
    (subst (λ (o : Option Op). FitsAt t (doer_of script a o) o (next_place place had)) (sym is) (fits next))
turn_fits script t a (goes_by (is_over same rests)) next is fresh =
    subst (FitsHere script t a) (sym same) (fresh same (rests next))

-- an operation that has begun is the one of before the turn
same_op : (script : ScriptValue) {t : CoreState} {who : Doer} {op : Option Op} {place : Place} {whats : List What} → IsBehindTurn t who op place whats → 0 < (place_behind place whats).far → present_op script who.actor (place_behind place whats) ≡ present_op script who.actor place
same_op script {who = who} (stays_there same fits) far = ap (present_op script who.actor) same
same_op script {who = who} (goes_by (goes_on had same fits)) far = ap (present_op script who.actor) same
same_op script (goes_by (is_over same rests)) far = absurd (let none = ap (λ (q : Place). q.far) same in omega (arith, far, none))

-- the child of a fork, begun or not, is not born
fork_unborn : (s : CoreState) (a p child : ℕ) (place : Place) (job : Job) (prepared : Option ℕ) → FitsFork s a p child place job prepared → s.birth child ≡ born → ⊥
fork_unborn s a p child place idle prepared fits is = let yet : s.birth child ≡ unborn = fits.1 in cc
fork_unborn s a p child place (forking q c done between) prepared fits is = let grows : s.birth child ≡ growing p = fits.1.birth in cc
fork_unborn s a p child place (forking q c done (counted page)) prepared fits is = let grows : s.birth child ≡ growing p = fits.1.0.birth in cc
fork_unborn s a p child place (forking q c done (copying page n)) prepared fits is = let grows : s.birth child ≡ growing p = fits.1.0.birth in cc
fork_unborn s a p child place (forking q c done step) prepared fits is = fits.1
fork_unborn s a p child place job prepared fits is = fits

-- a born process is no child of the operation, unless it is the operation's own
born_apart : (s : CoreState) (who : Doer) (q : ℕ) (op : Option Op) (place : Place) → FitsAt s who op place → s.birth q ≡ born → (q ≡ who.proc → ⊥) → q ≡ child_of who.proc op → ⊥
born_apart s who q (Some (Fork child)) place fits is other same = fork_unborn s who.actor who.proc child place (s.job who.actor) (s.prepared who.actor) fits.1 (ap s.birth (sym same) ∙ is)
born_apart s who q op place fits is other same = other same

-- what an operation brings, where that isn't its own process, is the child of a fork; if that failed, it has no entries
child_emptied : (t : CoreState) (p q page : ℕ) (op : Option Op) → ((child : ℕ) → op ≡ Some (Fork child) → t.birth child ≡ failed → t.entry child page ≡ None) → (q ≡ p → ⊥) → q ≡ child_of p op → t.birth q ≡ failed → t.entry q page ≡ None
child_emptied t p q page (Some (Fork child)) none other same is = none q (ap (λ (k : ℕ). Some (Fork k)) (sym same)) is
child_emptied t p q page op none other same is = absurd (other same)

-- the child that an operation brings is declared
child_below : (script : ScriptValue) → IsScript script → (a p k : ℕ) (op : Option Op) → present_op script a (fresh_place k) ≡ op → p < length script.processes → child_of p op < length script.processes
child_below script valid a p k (Some (Fork child)) is below = child_declared script valid a k child is
child_below script valid a p k op is below = below

-- the child of another fork is no child of this operation: it is not born, and two forks bring two children
other_child : (script : ScriptValue) → IsScript script → (a p k : ℕ) (op : Option Op) → present_op script a (fresh_place k) ≡ op → (b j child : ℕ) → ForksAt script b j child → (child ≡ p → ⊥) → (b ≡ a → j ≡ k → ⊥) → child ≡ child_of p op → ⊥
other_child script valid a p k (Some (Fork brought)) is b j child forks other twice same =
    let once = valid.forks_once b a j k child forks (subst (ForksAt script a k) (sym same) is) in
    twice once.0 once.1
other_child script valid a p k op is b j child forks other twice same = other same

-- whoever waits for no birth waits for none later
waits_no_more : (of_process : Bool) (before behind : Birth) → (before ≡ born → behind ≡ born) → birth_by of_process before ≡ born → birth_by of_process behind ≡ born
waits_no_more true before behind stays is = stays is
waits_no_more false before behind stays is = refl

module _ (script : ScriptValue) (valid : IsScript script) (r : RunState) (h : Stands script r) (a : ℕ) where
  abbrev s : CoreState
  s = r.core

  abbrev place : Place
  place = r.places a

  abbrev op : Option Op
  op = op_in script r a

  abbrev who : Doer
  who = doer_of script a op

  abbrev p : ℕ
  p = who.proc

  abbrev c : ℕ
  c = child_of p op

  abbrev turn : CoreTurn
  turn = core_turn_in script r a

  abbrev t : CoreState
  t = run s turn.events

  abbrev behind : Place
  behind = place_behind place turn.whats

  abbrev after : RunState
  after = run_after script r a

  turns : IsTaken s who place op (waiting_in script r a) turn
  turns = taken script valid r h a

  behinds : IsBehindTurn t who op place turn.whats
  behinds = turn_behind t turns.shape

  left : Leaves a p c s t
  left = leaves s a p c (strand_of op) turn.events turns.done.kinds

  pins : LeavesPinsOf a (strand_of op) s t
  pins = leaves_pins s a p c (strand_of op) turn.events turns.done.kinds turns.done.can

  gots : LeavesGot (strand_of op) s t
  gots = leaves_got s a p c (strand_of op) turn.events turns.done.kinds

  going : IsAboutHandle a turn.events ⊎ IsGoing place p s t turn.whats
  going = still_or_going s who place.far turns.shape

  -- what is about a handle leaves all else
  quiet : IsAboutHandle a turn.events → LeavesAll s t
  quiet about = handles_leave s a about.0 turn.events about.1

  quiet_birth : IsAboutHandle a turn.events → (q : ℕ) → t.birth q ≡ s.birth q
  quiet_birth about q = ap (λ (o : OfProcess). o.birth) ((quiet about).process q)

  -- a process that a turn is of is neither unborn nor growing
  brought : IsGoing place p s t turn.whats → (s.birth p ≡ unborn → ⊥) × ((parent : ℕ) → s.birth p ≡ growing parent → ⊥)
  brought moves =
      elim moves.birth [
        | inl lives ↦ ((λ yet. cc), (λ parent grows. cc))
        | inr refuses ↦ (let gone : s.birth p ≡ failed = refuses.0 in ((λ yet. cc), (λ parent grows. cc)))
      ]

  -- the child is declared where the turn is of a process
  declared_child : IsGoing place p s t turn.whats → c < length script.processes
  declared_child moves = child_below script valid a p place.answered op refl (h.declared p (brought moves).0)

  few_on : Law → IsFew (length script.processes) t
  few_on law =
      elim going [
        | inl about ↦ few_handles (length script.processes) s a about.0 turn.events about.1 h.few
        | inr moves ↦ few_kept law (length script.processes) s a p c (strand_of op) turn.events turns.done.kinds (declared_child moves) h.sound turns.done.can h.few
      ]

  declared_on : (q : ℕ) → (t.birth q ≡ unborn → ⊥) → q < length script.processes
  declared_on q some = by_child (same_or_apart q c) going
    where
      by_child : (q ≡ c) ⊎ (q ≡ c → ⊥) → IsAboutHandle a turn.events ⊎ IsGoing place p s t turn.whats → q < length script.processes
      by_child (inr other) is = h.declared q (λ yet. some (left.birth q (apart q c other) ∙ yet))
      by_child (inl same) (inl about) = h.declared q (λ yet. some (quiet_birth about q ∙ yet))
      by_child (inl same) (inr moves) = subst (λ (k : ℕ). k < length script.processes) (sym same) (declared_child moves)

  -- the child of a fork that has not begun stays unborn
  unborn_on : (b k child : ℕ) → ForksAt script b k child → s.birth child ≡ unborn → (IsGoing place p s t turn.whats → b ≡ a → k ≡ place.answered → ⊥) → t.birth child ≡ unborn
  unborn_on b k child forks yet later =
      elim going [
        | inl about ↦ quiet_birth about child ∙ yet
        | inr moves ↦ left.birth child (apart child c (other_child script valid a p place.answered op refl b k child forks (λ (same : child ≡ p). (brought moves).0 (ap s.birth (sym same) ∙ yet)) (later moves))) ∙ yet
      ]

  unforked_own : (k child : ℕ) → ForksAt script a k child → IsAhead behind k → t.birth child ≡ unborn
  unforked_own k child forks ahead =
      unborn_on a k child forks (h.unforked a k child forks (ahead_before behinds k ahead))
      (λ moves own same. let less : place.answered < k = moves.later k ahead in omega (arith, same))

  unforked_other : (b : ℕ) → (b ≡ a → ⊥) → (k child : ℕ) → ForksAt script b k child → IsAhead (r.places b) k → t.birth child ≡ unborn
  unforked_other b other k child forks ahead = unborn_on b k child forks (h.unforked b k child forks ahead) (λ moves own same. other own)

  -- pins

  -- the handle of a pin or a reference that isn't answered stays unmade, unless the turn is of that
  yet_kept : (b k handle : ℕ) → MakesAt script b k handle → (r.places b).answered ≤ k → (b ≡ a → k ≡ place.answered → ⊥) → IsUnmade t handle
  yet_kept b k handle makes least other =
      let unmade_yet = h.yet_unmade b k handle makes least in
      let yet : s.handle handle ≡ unmade = unmade_yet.0 in
      let kept = pins.unheld handle
      (λ is none. let once = valid.handles_once b a k place.answered handle makes (pins_here script a place.answered op refl handle is) in other once.0 once.1)
      (λ holds. subst (λ (x : Handle). IsHeldBy x a) yet holds)
      (λ is_given. subst (λ (x : Handle). IsGivenTo x a) yet is_given) in
      let ungot = gots.ungot handle
      (λ is. let once = valid.handles_once b a k place.answered handle makes (gets_here script a place.answered op refl handle is) in other once.0 once.1)
      unmade_yet.1 in
      (kept.handle ∙ yet, ungot)

  -- references that are got are of declared handles
  got_on : (handle : ℕ) → (t.got handle ≡ None → ⊥) → handle < length script.handles
  got_on handle some =
      elim (gets_or_not (strand_of op) handle) [
        | inl gets ↦ reference_declared script valid a place.answered op refl handle gets
        | inr other ↦ h.got handle (λ none. some (gots.ungot handle other none))
      ]

  made_on : (handle : ℕ) → (t.handle handle ≡ unmade → ⊥) → handle < length script.handles
  made_on handle some =
      elim (about_or_not (strand_of op) handle) [
        | inl about ↦ handle_declared script valid a place.answered op refl handle about
        | inr neither ↦ h.made handle (λ yet. some ((pins.others handle neither.0 neither.1).handle ∙ yet))
      ]

  -- what is given back of a pin after the turn

  own_back : (handle : ℕ) → back_in script after handle a ≡ given_back (present_op script a behind) handle behind.far
  own_back handle = ap (λ (q : Place). given_back (present_op script a q) handle q.far) (put_same a behind r.places)

  others_back : (handle b : ℕ) → (b ≡ a → ⊥) → back_in script after handle b ≡ back_in script r handle b
  others_back handle b other = ap (λ (q : Place). given_back (present_op script b q) handle q.far) (put_apart a b behind r.places other)

  handles_on : (handle : ℕ) → StandsHandle (back_in script after handle) (t.pinned handle) (t.handle handle)
  handles_on handle =
      let change = turn_changes script s who place handle op (waiting_in script r a) refl turns in
      let own = subst (λ (k : ℕ). Change a (back_in script r handle a) k (s.pinned handle) (t.pinned handle) (s.handle handle) (t.handle handle)) (sym (own_back handle)) change in
      changed_stands (back_in script r handle) (back_in script after handle) a (others_back handle) own (h.handles handle)

  -- at the first turn of the next operation the actor has all pages of what it holds
  left_fresh : behind ≡ fresh_place (place.answered + 1) → (handle : ℕ) → HasLeft t a handle 0
  left_fresh same handle =
      let none : back_in script after handle a ≡ 0 = own_back handle ∙ ap (λ (q : Place). given_back (present_op script a q) handle q.far) same ∙ first_back (present_op script a (fresh_place (place.answered + 1))) handle in
      all_left (back_in script after handle) (t.pinned handle) (t.handle handle) a (handles_on handle) none

  -- the actor's own place

  fits_own : FitsHere script t a behind
  fits_own =
      turn_fits script t a behinds turns.next refl
      (λ same rests. fresh_fits script valid t (doer_of script a (present_op script a (fresh_place (place.answered + 1)))) a (place.answered + 1) rests
      (λ child forks. unforked_own (place.answered + 1) child forks (subst (λ (q : Place). IsAhead q (place.answered + 1)) (sym same) (inr (refl, refl))))
      (λ handle makes. (yet_kept a (place.answered + 1) handle makes (omega arith) (λ own beyond. omega (arith, beyond))).0)
      (left_fresh same))

  -- a get that isn't answered in its turn has waited
  get_waits : (handle page : ℕ) → op ≡ Some (Get handle page) → behind.answered ≤ place.answered → t.got ≡ s.got
  get_waits handle page is least =
      subst (λ (o : Option Op). IsUngotBy s who place o (waiting_in script r a)) (sym is)
      (unanswered_get s who place handle page (waiting_in script r a)) turns least

  yet_own : (k handle : ℕ) → MakesAt script a k handle → behind.answered ≤ k → IsUnmade t handle
  yet_own k handle makes least =
      elim (same_or_apart k behind.answered) [
        | inl same ↦ (elim (same_or_apart k place.answered) [
          | inl here ↦ at_op makes.0 refl same here
          | inr later ↦ yet_kept a k handle makes (omega (arith, least, answered_least behinds)) (λ own here. later here)
        ])
        | inr other ↦ yet_kept a k handle makes (omega (arith, least, answered_least behinds)) (λ own here. before other here)
      ]
    where
      before : (k ≡ behind.answered → ⊥) → k ≡ place.answered → ⊥
      before other here = let from = answered_least behinds in other (omega (arith, least, from, here))

      -- it was before the turn
      was : k ≡ place.answered → IsUnmade s handle
      was here = h.yet_unmade a k handle makes (omega (arith, here))

      at_pin : (page n : ℕ) (want : Want) (fast : Bool) → makes.0 ≡ Pin handle page n want fast → k ≡ behind.answered → k ≡ place.answered → IsUnmade t handle
      at_pin page n want fast pin same here =
          let makes_it : slice_get (ops_of script a) k ≡ Some (Pin handle page n want fast) = makes.1 ∙ ap (λ (o : Op). Some o) pin in
          let is : present_op script a behind ≡ Some (Pin handle page n want fast) = ap (λ (j : ℕ). slice_get (ops_of script a) j) (sym same) ∙ makes_it in
          let before_it : op ≡ Some (Pin handle page n want fast) = ap (λ (j : ℕ). slice_get (ops_of script a) j) (sym here) ∙ makes_it in
          let fits : FitsAt t (doer_of script a (Some (Pin handle page n want fast))) (Some (Pin handle page n want fast)) behind = subst (λ (o : Option Op). FitsAt t (doer_of script a o) o behind) is fits_own in
          let no_get : strand_of op ≡ of_get handle → ⊥ = λ gets. cc (ap strand_of before_it, gets) in
          (fits.yet, gots.ungot handle no_get (was here).1)

      at_get : (page : ℕ) → makes.0 ≡ Get handle page → k ≡ behind.answered → k ≡ place.answered → IsUnmade t handle
      at_get page get same here =
          let before_it : op ≡ Some (Get handle page) = ap (λ (j : ℕ). slice_get (ops_of script a) j) (sym here) ∙ makes.1 ∙ ap (λ (o : Op). Some o) get in
          let of_this : strand_of op ≡ of_get handle = ap strand_of before_it in
          let kept = pins.others handle (λ is. cc (of_this, is)) (λ is. cc (of_this, is)) in
          (kept.handle ∙ (was here).0, ap (λ (f : ℕ → Option (ℕ × ℕ)). f handle) (get_waits handle page before_it (omega (arith, same, here))) ∙ (was here).1)

      at_op : (o : Op) → makes.0 ≡ o → k ≡ behind.answered → k ≡ place.answered → IsUnmade t handle
      at_op (Pin h page n want fast) is same here =
          let made : h ≡ handle = some_same (ap made_by (sym is) ∙ makes.2) in
          at_pin page n want fast (is ∙ ap (λ (j : ℕ). Pin j page n want fast) made) same here
      at_op (Get h page) is same here =
          let made : h ≡ handle = some_same (ap made_by (sym is) ∙ makes.2) in
          at_get page (is ∙ ap (λ (j : ℕ). Get j page) made) same here
      at_op o is same here = absurd (let none : made_by o ≡ Some handle = ap made_by (sym is) ∙ makes.2 in cc none)

  still_born : Law → (q : ℕ) → s.birth q ≡ born → t.birth q ≡ born
  still_born law q lives = stays_born law s a p c (strand_of op) turn.events turns.done.kinds h.sound turns.done.can q lives

  -- another actor

  module _ (b : ℕ) (other : b ≡ a → ⊥) where
    abbrev q : ℕ
    q = process_of script b

    pub structure_kept : Law → (k : ℕ) → s.structure k ≡ Some b → t.structure k ≡ s.structure k
    structure_kept law k locked = stays_locked law s a p c (strand_of op) turn.events turns.done.kinds h.sound turns.done.can b k other locked ∙ sym locked

    -- where an actor has locked the table of a process its pages stay
    pub pages_kept : Law → (k : ℕ) → s.table k ≡ Some b → KeepsPages k s t
    pages_kept law k locked =
        elim going [
          | inl about ↦ same_pages ((quiet about).process k)
          | inr moves ↦ by_process (same_or_apart k p)
        ]
      where
        same_pages : of_process t k ≡ of_process s k → KeepsPages k s t
        same_pages same =
            record {
              right = ap (λ (o : OfProcess). o.right) same;
              entry = ap (λ (o : OfProcess). o.entry) same;
              table = ap (λ (o : OfProcess). o.table) same;
              unforked = λ free. ap (λ (o : OfProcess). o.structure) same ∙ free;
            }

        barred : k ≡ p → KeepsPages p s t
        barred same = stays_barred law s a p c (strand_of op) turn.events turns.done.kinds h.sound turns.done.can b other (ap s.table (sym same) ∙ locked)

        by_process : (k ≡ p) ⊎ (k ≡ p → ⊥) → KeepsPages k s t
        by_process (inl same) = subst (λ (j : ℕ). KeepsPages j s t) (sym same) (barred same)
        by_process (inr away) =
            same_pages (left.process k (apart k p away) (apart k c (born_apart s who k op place (h.fits a) (h.sound.1.table_born k b locked) away)))

    -- a growing child is not the process that has a turn, and not the child that this brings
    pub child_kept : (k child : ℕ) → ForksAt script b k child → s.birth child ≡ growing q → of_process t child ≡ of_process s child
    child_kept k child forks grows =
        elim going [
          | inl about ↦ (quiet about).process child
          | inr moves ↦ left.process child (apart child p (away moves)) (apart child c (other_child script valid a p place.answered op refl b k child forks (away moves) (λ own same. other own)))
        ]
      where
        away : IsGoing place p s t turn.whats → child ≡ p → ⊥
        away moves same = (brought moves).1 q (ap s.birth (sym same) ∙ grows)

    forking_kept : Law → (k child u v : ℕ) (done : List ℕ) → ForksAt script b k child → IsForking s b q child u v done → IsForking t b q child u v done
    forking_kept law k child u v done forks at =
        let same = child_kept k child forks at.birth in
        let rights : t.right child ≡ s.right child = ap (λ (o : OfProcess). o.right) same in
        record {
          parent = at.parent;
          into = at.into;
          birth = ap (λ (o : OfProcess). o.birth) same ∙ at.birth;
          locked = structure_kept law q at.locked ∙ at.locked;
          below = at.below;
          done_all = λ g less named. at.done_all g less (subst (λ (f : ℕ → Option Rights). IsSome (f g)) rights named);
          fresh = λ g least. ap (λ (o : OfProcess). o.entry g) same ∙ at.fresh g least;
        }

    counted_kept : Law → (k child : ℕ) (done : List ℕ) (page u v : ℕ) → ForksAt script b k child → IsForking s b q child u v done → HasCounted s b q child done page → HasCounted t b q child done page
    counted_kept law k child done page u v forks at has =
        let same = child_kept k child forks at.birth in
        let kept = pages_kept law q has.locked in
        let rights : t.right child ≡ s.right child = ap (λ (o : OfProcess). o.right) same in
        record {
          above = has.above;
          lowest = λ g least less. ap (λ (f : ℕ → Option Rights). f g) rights ∙ has.lowest g least less;
          locked = kept.table ∙ has.locked;
          entry = subst (λ (f : ℕ → Option Entry). IsSome (f page)) (sym kept.entry) has.entry;
          mapped = subst (λ (f : ℕ → Option Rights). IsSome (f page)) (sym rights) has.mapped;
        }

    fork_kept : Law → (k child : ℕ) (its : Place) (job : Job) (prepared : Option ℕ) → ForksAt script b k child → (its.far ≡ 0 → t.birth child ≡ unborn) → FitsFork s b q child its job prepared → FitsFork t b q child its job prepared
    fork_kept law k child its idle prepared forks yet fits = (fits.0, yet fits.0.0)
    fork_kept law k child its (forking u v done between) prepared forks yet fits = (fits.0, forking_kept law k child u v done forks fits.1)
    fork_kept law k child its (forking u v done (counted page)) prepared forks yet fits =
        (fits.0, (forking_kept law k child u v done forks fits.1.0, counted_kept law k child done page u v forks fits.1.0 fits.1.1))
    fork_kept law k child its (forking u v done (copying page n)) prepared forks yet fits =
        (fits.0, (forking_kept law k child u v done forks fits.1.0, counted_kept law k child done page u v forks fits.1.0 fits.1.1, fits.1.2))
    fork_kept law k child its job prepared forks yet fits = fits

    -- a move has locked the table
    moving_kept : Law → (k page : ℕ) → IsMoving s b k page → IsMoving t b k page
    moving_kept law k page at =
        let kept = pages_kept law k at.locked in
        record {
          birth = still_born law k at.birth;
          mapped = subst (λ (f : ℕ → Option Rights). IsSome (f page)) (sym kept.right) at.mapped;
          absent = ap (λ (f : ℕ → Option Entry). f page) kept.entry ∙ at.absent;
          locked = kept.table ∙ at.locked;
        }

    move_kept : Law → (k page : ℕ) (zone : Zone) (its : Place) (job : Job) → FitsMove s b k page zone its job → FitsMove t b k page zone its job
    move_kept law k page zone its idle fits = fits
    move_kept law k page zone its (moving u g e allowed count) fits =
        (fits.0, (fits.1.0, fits.1.1, fits.1.2, fits.1.3, moving_kept law k page fits.1.4))
    move_kept law k page zone its job fits = absurd fits

    job_kept : t.job b ≡ s.job b
    job_kept = left.job b (apart b a other)

    prepared_kept : t.prepared b ≡ s.prepared b
    prepared_kept = left.prepared b (apart b a other)

    rest_kept : AtRest t b
    rest_kept =
        record {
          prepared = subst₂ KeepsFrame (sym job_kept) (sym prepared_kept) (h.rest b).prepared;
          owed = left.owed b (apart b a other) ∙ (h.rest b).owed;
        }

    taken_kept : t.taken b ≡ s.taken b
    taken_kept = pins.taken b other

    rests_kept : Rests s b → Rests t b
    rests_kept rests = (job_kept ∙ rests.0, taken_kept ∙ rests.1)

    -- what it holds stays, before the turn and after it

    held_kept : (handle : ℕ) → is_held_by (s.handle handle) b ≡ true → t.handle handle ≡ s.handle handle
    held_kept handle is =
        let holds = is_holder (s.handle handle) b is in
        let kept = pins.unheld handle (λ makes yet. held_made (s.handle handle) b holds yet)
        (λ own. other (one_holder (s.handle handle) b a holds own)) (λ is_given. held_ungiven (s.handle handle) b a holds is_given) in
        kept.handle

    left_kept : (handle far : ℕ) → HasLeft s b handle far → HasLeft t b handle far
    left_kept handle far has is =
        let kept = pins.held_then handle b other (is_holder (t.handle handle) b is) in
        subst₂ (λ (x : Handle) (xs : List ℕ). is_held_by x b ≡ true → (0 < length xs) × (length xs + far ≡ length (objects_of x))) (sym kept.handle) (sym kept.pinned) has is

    -- the machine has the frame that a walk has found
    read_kept : (step : WalkStep) → IsReadThere s step → IsReadThere t step
    read_kept (read g path e) there =
        let sized = stays_sized s a p c (strand_of op) turn.events turns.done.kinds in
        omega (arith, there, sized.0, sized.1)
    read_kept step there = there

    -- a long pin has locked it, too, and what it has found of its page stays
    page_kept : Law → (page n got : ℕ) (want : Want) (fast : Bool) (job : Job) → s.job b ≡ job → StandsAtPage s b q page n got want fast job → StandsAtPage t b q page n got want fast job
    page_kept law page n got want fast idle is at = at
    page_kept law page n got want fast (moving u g e allowed count) is at =
        let here = at.4 in
        let kept = pages_kept law q here.moving.locked in (
          at.0,
          at.1,
          at.2,
          at.3,
          record {
            long = here.long;
            moving = moving_kept law q page here.moving;
            unforked = kept.unforked here.unforked;
            flag = stays_flagged s a p c q (strand_of op) turn.events turns.done.kinds here.flag;
            undenied = ap (λ (f : ℕ → Option Rights). pin_denial want.write (f page)) kept.right ∙ here.undenied;
            marked = stays_marked law s a p c (strand_of op) turn.events turns.done.kinds h.sound turns.done.can b u g e allowed count other is here.marked;
            may = here.may;
          },
        )
    page_kept law page n got want fast (walking u write long sequence step) is at =
        record {
          walks = at.walks;
          of = at.of;
          writes = at.writes;
          keeps = at.keeps;
          flag = stays_flagged s a p c q (strand_of op) turn.events turns.done.kinds at.flag;
          unread = at.unread;
          here = at.here;
          there = read_kept step at.there;
        }
    page_kept law page n got want fast job is at = absurd at

    pin_kept : Law → (handle page n : ℕ) (want : Want) (fast : Bool) (its : Place) → t.handle handle ≡ unmade → FitsPin s b q handle page n want fast its (s.taken b) (s.job b) → FitsPin t b q handle page n want fast its (t.taken b) (t.job b)
    pin_kept law handle page n want fast its yet fits =
        subst₂ (FitsPin t b q handle page n want fast its) (sym taken_kept) (sym job_kept)
        (record {
          had_none = fits.had_none;
          had_some = fits.had_some;
          least = fits.least;
          most = fits.most;
          within = fits.within;
          yet = yet;
          has = fits.has;
          flag = λ walks some. stays_flagged s a p c q (strand_of op) turn.events turns.done.kinds (fits.flag walks some);
          at = page_kept law (page + length (s.taken b)) n (length (s.taken b)) want fast (s.job b) refl fits.at;
        })

    op_kept : Law → (its : Place) (o : Option Op) → present_op script b its ≡ o → ((child : ℕ) → ForksAt script b its.answered child → its.far ≡ 0 → t.birth child ≡ unborn) → ((handle : ℕ) → MakesAt script b its.answered handle → t.handle handle ≡ unmade) → FitsAt s (doer_of script b o) o its → FitsAt t (doer_of script b o) o its
    op_kept law its (Some (Pin handle page n want fast)) is unforked yet fits =
        pin_kept law handle page n want fast its (yet handle (Pin handle page n want fast, is, refl)) fits
    op_kept law its (Some (Unpin handle)) is unforked yet fits = (
      rests_kept fits.0,
      fits.1,
      (λ far. subst (λ (x : Handle). is_held_by x b ≡ true) (sym (held_kept handle (fits.2 far))) (fits.2 far)),
      left_kept handle its.far fits.3,
    )
    op_kept law its (Some (Transfer handle outward slot parts)) is unforked yet fits =
        (rests_kept fits.0, fits.1, fits.2, (λ far. transfers (fits.3 far)), left_kept handle 0 fits.4)
      where
        transfers : transfer_denial (s.handle handle) b outward (doer script b).slots slot parts ≡ None → transfer_denial (t.handle handle) b outward (doer script b).slots slot parts ≡ None
        transfers none =
            let holds = transfer_held (is_held_by (s.handle handle) b) outward (may_write (s.handle handle)) (has_words (length (objects_of (s.handle handle))) parts && has_slots (doer script b).slots slot parts) none in
            subst (λ (x : Handle). transfer_denial x b outward (doer script b).slots slot parts ≡ None) (sym (held_kept handle holds)) none
    op_kept law its (Some (Move proc page zone)) is unforked yet fits =
        (taken_kept ∙ fits.0, fits.1, subst (FitsMove t b proc page zone its) (sym job_kept) (move_kept law proc page zone its (s.job b) fits.2))
    op_kept law its (Some (Fork child)) is unforked yet fits =
        (taken_kept ∙ fits.0, subst₂ (FitsFork t b q child its) (sym job_kept) (sym prepared_kept) (fork_kept law its.answered child its (s.job b) (s.prepared b) is (unforked child is) fits.1))
    op_kept law its (Some Exit) is unforked yet fits = rests_kept fits
    op_kept law its o is unforked yet fits = (rests_kept fits.0, fits.1)

    -- the child of its fork keeps its tables

    tables_kept : (k child : ℕ) → ForksAt script b k child → s.birth child ≡ growing q → (page : ℕ) → has_tables t child page ≡ has_tables s child page
    tables_kept k child forks grows page =
        ap (λ (needs : Bool). if needs then lacks (tree_in t child) page == 0 else true) (flag_after s turn.events)
        ∙ ap (λ (o : OfProcess). if s.needs_tables then lacks (record { entry = o.entry; place = o.place; tables = placed_tables o.place; room = table_numbers }) page == 0 else true) (child_kept k child forks grows)

    copy_kept : (k child : ℕ) (its : Place) (job : Job) → ForksAt script b k child → s.job b ≡ job → FitsFork s b q child its job (s.prepared b) → CopyStands t b
    copy_kept k child its (forking u v done (copying page n)) forks is fits = λ p c g word to pages job has.
        let same : forking u v done (copying page n) ≡ forking p c pages (copying g word) = sym is ∙ sym job_kept ∙ job in
        let into : c ≡ child = cc (same, fits.1.0.into) in
        subst (λ (x : ℕ). has_tables t x g ≡ true) (sym into)
        (tables_kept k child forks fits.1.0.birth g ∙ subst (λ (x : ℕ). has_tables s x g ≡ true) into (h.copies b p c g word to pages (sym job_kept ∙ job) (sym prepared_kept ∙ has)))
    copy_kept k child its job forks is fits = no_copy t b job (job_kept ∙ is) (λ copies. absurd copies)

    copies_at : (its : Place) (o : Option Op) → present_op script b its ≡ o → FitsAt s (doer_of script b o) o its → CopyStands t b
    copies_at its (Some (Fork child)) is fits = copy_kept its.answered child its (s.job b) is refl fits.1
    copies_at its (Some o) is fits =
        not_copying t b (λ copies. fits_copy_none s (doer_of script b (Some o)) o its tt fits (subst IsCopyJob job_kept copies))
    copies_at its None is fits = no_copy t b idle (job_kept ∙ fits.0.0) (λ copies. copies)

    copies_other : CopyStands t b
    copies_other = copies_at (r.places b) (present_op script b (r.places b)) refl (h.fits b)

  fits_other : Law → (b : ℕ) → (b ≡ a → ⊥) → FitsHere script t b (r.places b)
  fits_other law b other =
      op_kept b other law (r.places b) (present_op script b (r.places b)) refl
      (λ child forks far. unforked_other b other (r.places b).answered child forks (inr (refl, far)))
      (λ handle makes. (yet_kept b (r.places b).answered handle makes (omega arith) (λ own here. other own)).0)
      (h.fits b)

  -- an actor is at rest after its own turn, and others stay so
  rest_on : (b : ℕ) → AtRest t b
  rest_on b =
      elim (same_or_apart b a) [
        | inl same ↦ subst (AtRest t) (sym same) turns.done.rest
        | inr other ↦ rest_kept b other
      ]

  -- a page that is copied has its tables after the turn of its actor, and keeps them in those of others
  copies_on : (b : ℕ) → CopyStands t b
  copies_on b =
      elim (same_or_apart b a) [
        | inl same ↦ subst (CopyStands t) (sym same) turns.copies
        | inr other ↦ copies_other b other
      ]

  -- a process that failed in the turn is the child of its fork; one that had failed before has no entries still
  emptied_on : Law → (q page : ℕ) → t.birth q ≡ failed → t.entry q page ≡ None
  emptied_on law q page is =
      elim going [
        | inl about ↦ unchanged ((quiet about).process q)
        | inr moves ↦ by_process moves (same_or_apart q p)
      ]
    where
      unchanged : of_process t q ≡ of_process s q → t.entry q page ≡ None
      unchanged same = ap (λ (o : OfProcess). o.entry page) same ∙ h.emptied q page (sym (ap (λ (o : OfProcess). o.birth) same) ∙ is)

      own : q ≡ p → (s.birth p ≡ born) ⊎ (s.birth p ≡ failed) × (t.entry p ≡ s.entry p) → t.entry q page ≡ None
      own same (inl lives) = let now : t.birth q ≡ born = ap t.birth same ∙ still_born law p lives in absurd (cc)
      own same (inr refuses) =
          ap (λ (k : ℕ). t.entry k page) same ∙ ap (λ (f : ℕ → Option Entry). f page) refuses.1 ∙ h.emptied p page refuses.0

      by_process : IsGoing place p s t turn.whats → (q ≡ p) ⊎ (q ≡ p → ⊥) → t.entry q page ≡ None
      by_process moves (inl same) = own same moves.birth
      by_process moves (inr away) =
          elim (same_or_apart q c) [
            | inl same ↦ child_emptied t p q page op (λ child fork gone. turns.emptied child page fork gone) away same is
            | inr other ↦ unchanged (left.process q (apart q p away) (apart q c other))
          ]

  born_on : Law → (w : Doer) → birth_for s.birth w ≡ born → birth_for t.birth w ≡ born
  born_on law w is = waits_no_more w.of_process (s.birth w.proc) (t.birth w.proc) (still_born law w.proc) is

  begun_own : Law → 0 < behind.far → birth_for t.birth (doer_of script a (present_op script a behind)) ≡ born
  begun_own law far =
      subst (λ (o : Option Op). birth_for t.birth (doer_of script a o) ≡ born) (sym (same_op script behinds far))
      (born_on law who (keeps_begun turns.shape (h.begun a) far))

  stands : Law → Stands script (run_after script r a)
  stands law =
      record {
        sound = (leads law s turn.events h.sound turns.done.can).sound;
        tables = stand_run s turn.events h.tables turns.done.can;
        copies = copies_on;
        slots = stays_within s a p c (strand_of op) turn.events turns.done.kinds h.slots;
        there = stays_counted law s a p c (strand_of op) turn.events turns.done.kinds h.sound turns.done.can h.there;
        rest = rest_on;
        few = few_on law;
        emptied = emptied_on law;
        declared = declared_on;
        fits = at_others (FitsHere script t) a behind r.places fits_own (fits_other law);
        begun = at_each (λ (b : ℕ) (k : Place). 0 < k.far → birth_for t.birth (doer_of script b (present_op script b k)) ≡ born) a behind r.places
            (begun_own law) (λ b far. born_on law (doer_of script b (op_in script r b)) (h.begun b far));
        fresh = at_each (λ (b : ℕ) (k : Place). k.far ≡ 0 → k.had ≡ false) a behind r.places (keeps_fresh behinds (h.fresh a)) h.fresh;
        unforked = λ b k child forks.
            at_others (λ (d : ℕ) (j : Place). ForksAt script d k child → IsAhead j k → t.birth child ≡ unborn) a behind r.places
            (λ here. unforked_own k child here) (λ d other here. unforked_other d other k child here) b forks;
        yet_unmade = λ b k handle makes.
            at_others (λ (d : ℕ) (j : Place). MakesAt script d k handle → j.answered ≤ k → IsUnmade t handle) a behind r.places
            (λ here least. yet_own k handle here least) (λ d other here least. yet_kept d k handle here least (λ own same. other own)) b makes;
        made = made_on;
        got = got_on;
        handles = handles_on;
      }

pub stands_on : Law → (script : ScriptValue) → IsScript script → (r : RunState) → Stands script r → (a : ℕ) → Stands script (run_after script r a)
stands_on law script valid r h a = stands script valid r h a law

-- where others stand in their forks stays
pub places_stay : (script : ScriptValue) → IsScript script → (r : RunState) → Stands script r → (a b : ℕ) → (b ≡ a → ⊥) → place_in (run_after script r a).core b ≡ place_in r.core b
places_stay script valid r h a b other =
    let turn = taken script valid r h a in
    let op : Option Op = op_in script r a in
    let p : ℕ = (doer_of script a op).proc in
    let left = leaves r.core a p (child_of p op) (strand_of op) (core_turn_in script r a).events turn.done.kinds in
    ap (λ (j : Job). job_place j ((run_after script r a).core.prepared b)) (left.job b (apart b a other))
    ∙ ap (job_place (r.core.job b)) (left.prepared b (apart b a other))

-- and what others have taken
pub takes_stay : (script : ScriptValue) → IsScript script → (r : RunState) → Stands script r → (a b : ℕ) → (b ≡ a → ⊥) → pages_got (plain_of (run_after script r a).core) b ≡ pages_got (plain_of r.core) b
takes_stay script valid r h a b other =
    let turn = taken script valid r h a in
    let op : Option Op = op_in script r a in
    let p : ℕ = (doer_of script a op).proc in
    let kept = leaves_pins r.core a p (child_of p op) (strand_of op) (core_turn_in script r a).events turn.done.kinds turn.done.can in
    ap (λ (ts : List Taken). length (map pending_of ts)) (kept.taken b other)

-- the plain state after a turn is the one that its notes lead to
pub same_plain : Law → (script : ScriptValue) → IsScript script → (r : RunState) → Stands script r → (a : ℕ) → plain_of (run_after script r a).core ≡ plain_behind (plain_of r.core) (core_turn_in script r a).whats
same_plain law script valid r h a =
    let turn = taken script valid r h a in
    let led = leads law r.core (core_turn_in script r a).events h.sound turn.done.can in
    let told = subst (λ (es : List PlainEvent). plain_of (run_after script r a).core ≡ plain_through (plain_of r.core) es) turn.done.told led.same in
    told ∙ sym (plain_behind-through (plain_of r.core) (core_turn_in script r a).whats)

-- each event of the turn can happen in the plain state
pub plain_can : Law → (script : ScriptValue) → IsScript script → (r : RunState) → Stands script r → (a : ℕ) → AllCanHappen (plain_of r.core) (events_of (core_turn_in script r a).whats)
plain_can law script valid r h a =
    let turn = taken script valid r h a in
    let led = leads law r.core (core_turn_in script r a).events h.sound turn.done.can in
    subst (AllCanHappen (plain_of r.core)) turn.done.told led.can

-- the start

-- the start of the core machine is sound
abbrev pub Starts : Type 0
Starts = (movable normal tables : ℕ) (needs_tables : Bool) (is_born : ℕ → Bool) → IsSound (core_start movable normal tables needs_tables is_born)

-- a process that is born at the start is declared
starts_declared : (script : ScriptValue) (p : ℕ) (process : Option Process) → process_at script p ≡ process → ((if is_born process then born else unborn) ≡ unborn → ⊥) → p < length script.processes
starts_declared script p None is some = absurd (some refl)
starts_declared script p (Some process) is some = slice_get_within script.processes p process is

-- and no fork brings it
starts_unborn : (process : Option Process) → IsChild process → (if is_born process then born else unborn) ≡ unborn
starts_unborn None child = absurd child
starts_unborn (Some process) child = rw child refl

few_tables : (script : ScriptValue) → IsScript script → script.frames.tables ≤ table_numbers
unfolding table_numbers
few_tables script valid = valid.few_tables

pub stands_first : Starts → (script : ScriptValue) → IsScript script → Stands script (run_start script)
stands_first starts script valid =
    let unforked : (a k child : ℕ) → ForksAt script a k child → (run_start script).core.birth child ≡ unborn =
    λ a k child forks. starts_unborn (process_at script child) (child_is script valid a k child forks) in
    record {
      sound = starts script.frames.movable script.frames.normal script.frames.tables true (starts_born script);
      tables = first_stand script.frames.movable script.frames.normal script.frames.tables true (starts_born script) (few_tables script valid);
      copies = λ a p c page word to done job. absurd (cc job);
      slots = λ m f filled. absurd (cc filled);
      there = λ f some. absurd (some refl);
      rest = λ a. record { prepared = refl; owed = refl };
      few = few_first (length script.processes) script.frames.movable script.frames.normal script.frames.tables true (starts_born script);
      emptied = λ p page is. refl;
      declared = λ p. starts_declared script p (process_at script p) refl;
      fits = λ a. fresh_fits script valid (run_start script).core (doer_of script a (present_op script a first_place)) a 0 (refl, refl) (unforked a 0) (λ h makes. refl) (λ h holds. absurd (cc holds));
      begun = λ a far. absurd (omega arith);
      fresh = λ a none. refl;
      unforked = λ a k child forks ahead. unforked a k child forks;
      yet_unmade = λ a k h makes least. (refl, refl);
      made = λ h some. absurd (some refl);
      got = λ h some. absurd (some refl);
      handles = λ h. refl;
    }
