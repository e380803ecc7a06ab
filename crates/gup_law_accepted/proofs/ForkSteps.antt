-- What a turn of a fork does to how far it has come.
use Rattle.std.proofs.Common.{◌≡◌, ℕ, ◌+◌, ◌<◌, ◌++◌, if◌then◌else◌, Bool, true, false, List, [], ◌∷◌, Option, Some, None, nat_lt, slice_get, zero, suc, refl, sym, ap, ◌∙◌, subst, arith}
use Rattle.gup_base.specs.declared.entry.Allowed.TheVariants.{Any}
use Rattle.gup_base.specs.declared.entry.Entry.{Entry}
use Rattle.gup_plain.specs.Event.{happened, words}
use Rattle.gup_plain.specs.Put.{put}
use Rattle.gup_plain.specs.State.{PlainState, Birth, failed}
use Rattle.gup_plain.specs.declared.note.What.{What}
use Rattle.gup_plain.specs.declared.note.What.TheVariants.{Silent, Idle, Wait, Event, Done}
use Rattle.gup_plain.specs.declared.note.Waiting.{Waiting}
use Rattle.gup_script.specs.Limits.{most_mirrors}
use Rattle.gup_script.specs.declared.op.Op.{Op}
use Rattle.gup_script.specs.declared.op.Op.TheVariants.{Fork}
use Rattle.gup_script.specs.Script.{ScriptValue}
use Rattle.gup_script.specs.Valid.{IsScript}
use Rattle.gup_spec_events.specs.State.{CoreState, Job, idle, forking, between, counted, lowered, cleared, copying, plain_of}
use Rattle.gup_spec_events.specs.Event.{CoreEvent, empty_mirror, happens, run, copies_page, has_tables}
use Rattle.gup_spec_journal.specs.Place.{Place, Doer, doer_of, birth_for, place_after, place_behind, ops_of, process_of, present_op}
use Rattle.gup_spec_accepted.specs.Passing.{Going, first_page, added, own_after}
use Rattle.gup_spec_turns.specs.CoreTurn.{CoreTurn, frame_for}
use Rattle.gup_spec_turns.specs.Emptying.{empties, emptying, is_stale}
use Rattle.gup_spec_turns.specs.ForkTurns.{first_behind, next_page, page_turn, next_turn, share_turn, frame_turn, copy_turn, copying_turn, fork_turn}
use Rattle.gup_spec_turns.specs.Run.{RunState, op_in, waiting_with, core_turn_by, core_turn_in, run_after}
use Rattle.gup_spec_turns.specs.Turn.{failed_turn, turn_at, op_turn, own_turn, turn_of}
use Rattle.gup_law_turns.proofs.ActorPlaces.{goes_on, is_over, IsBehindTurn, stays_there, goes_by, turn_behind}
use Rattle.gup_law_turns.proofs.EventLists.{Law}
use Rattle.gup_law_turns.proofs.Puts.{put_same}
use Rattle.gup_law_turns.proofs.StandingStates.{Stands}
use Rattle.gup_law_turns.proofs.StandingTurns.{stands_on}
use Rattle.gup_law_turns.proofs.TurnShapes.{FitsAt, FitsFork, FitsOp}
use Rattle.gup_law_turns.proofs.TurnSteps.{taken}
use Rattle.gup_law_accepted.proofs.TurnPasses.{own_behind}
use Rattle.gup_law_accepted.proofs.ForkGoings.{StepGoes, ForkGoes}
use Rattle.gup_law_turns.proofs.TabledTurns.{fits_tabled}
use Rattle.gup_law_turns.proofs.TurnAsOwn.{as_own}

-- at the first turn of an operation it has come to its first page
abbrev pub AtStart : List Op → Place → Going → Type 0
AtStart ops place g = place.far ≡ 0 → g.next ≡ first_page (slice_get ops place.answered)

pub own_start : (ops : List Op) (p : ℕ) (s : PlainState) (place : Place) (g : Going) (whats : List What) → AtStart ops place g → AtStart ops (place_behind place whats) (own_behind ops p s place g whats)
own_start ops p s place g [] start = start
own_start ops p s place g (Silent ∷ whats) start = own_start ops p s (place_after place Silent) (added s p g) whats (λ first. absurd (omega (arith, first)))
own_start ops p s place g (Idle ∷ whats) start = own_start ops p s place (added s p g) whats start
own_start ops p s place g (Wait waiting ∷ whats) start = own_start ops p s place (added s p g) whats start
own_start ops p s place g (Event e ∷ whats) start =
    own_start ops p (happened s e) (place_after place (Event e)) (own_after (happened s e) p g (slice_get ops place.answered) (Event e)) whats (λ first. absurd (omega (arith, first)))
own_start ops p s place g (Done answer ∷ whats) start =
    own_start ops p s (place_after place (Done answer)) (own_after s p g (slice_get ops (place.answered + 1)) (Done answer)) whats (λ first. refl)

-- what empties slots at the front of a turn leaves all jobs

after_empties : (s t : CoreState) (a : ℕ) (es rest : List CoreEvent) (m n : ℕ) (job : Job) → ((u : CoreState) → u.job ≡ t.job → (run u rest).job a ≡ job) → (run t (empties s a es m n ++ rest)).job a ≡ job
after_empties s t a es rest m zero job is = is t refl
after_empties s t a es rest m (suc n) job is =
    go (is_stale es (s.mirrored m) (s.slot m)) (after_empties s (happens t (empty_mirror a m)) a es rest (m + 1) n job is) (after_empties s t a es rest (m + 1) n job is)
  where
    go : (stale : Bool) → (run (happens t (empty_mirror a m)) (empties s a es (m + 1) n ++ rest)).job a ≡ job → (run t (empties s a es (m + 1) n ++ rest)).job a ≡ job → (run t (((if stale then empty_mirror a m ∷ [] else []) ++ empties s a es (m + 1) n) ++ rest)).job a ≡ job
    go true emptied left = emptied
    go false emptied left = left

emptied_job : (s : CoreState) (a : ℕ) (turn : CoreTurn) (job : Job) → ((u : CoreState) → u.job ≡ s.job → (run u turn.events).job a ≡ job) → (run s (emptying s a turn).events).job a ≡ job
emptied_job s a turn job is = after_empties s s a turn.events turn.events 0 most_mirrors job is

-- the turn of a fork that goes on

module _ (ops : List Op) (p : ℕ) (s : CoreState) (who : Doer) (child : ℕ) (place : Place) (g : Going) where
  abbrev GoesOn : CoreTurn → Type 0
  GoesOn turn =
      0 < (place_behind place turn.whats).far
      → ForkGoes ((run s (emptying s who.actor turn).events).job who.actor) (own_behind ops p (plain_of s) place g turn.whats).next

  -- its job behind the turn
  goes_to : (turn : CoreTurn) (job : Job) → ((u : CoreState) → u.job ≡ s.job → (run u turn.events).job who.actor ≡ job) → ForkGoes job (own_behind ops p (plain_of s) place g turn.whats).next → GoesOn turn
  goes_to turn job is goes far =
      subst (λ (j : Job). ForkGoes j (own_behind ops p (plain_of s) place g turn.whats).next) (sym (emptied_job s who.actor turn job is)) goes

  between_on : (done : List ℕ) → g.next ≡ first_behind done → (found : Option ℕ) → GoesOn (next_turn s who.actor who.proc child done found)
  between_on done goes None = λ far. absurd (omega (arith, far))
  between_on done goes (Some page) = by_entry (s.entry who.proc page)
    where
      counts : (e : Entry) (copies : Bool) → ForkGoes (forking who.proc child done (if copies then copying page 0 else counted page)) g.next
      counts e true = ((λ first. goes), (λ more. absurd (omega (arith, more))))
      counts e false = goes

      by_entry : (entry : Option Entry) → GoesOn (page_turn s who.actor who.proc child done page entry)
      by_entry None = goes_to (page_turn s who.actor who.proc child done page None) (forking who.proc child (page ∷ done) between) (λ u same. put_same who.actor (forking who.proc child (page ∷ done) between) u.job) refl
      by_entry (Some e) =
          let job : Job = forking who.proc child done (if copies_page s who.proc e.frame then copying page 0 else counted page) in
          goes_to (page_turn s who.actor who.proc child done page (Some e)) job (λ u same. put_same who.actor job u.job) (counts e (copies_page s who.proc e.frame))

  copying_on : (q c : ℕ) (done : List ℕ) (page word : ℕ) → s.job who.actor ≡ forking q c done (copying page word) → StepGoes done (copying page word) g.next → (prepared : Option ℕ) → GoesOn (copying_turn s who.actor who.proc child done page word prepared)
  copying_on q c done page word is goes None = by_free (frame_for s child page Any)
    where
      by_free : (free : Option ℕ) → GoesOn (frame_turn s who.actor who.proc child done page word free)
      by_free None = λ far. absurd (omega (arith, far))
      by_free (Some f) = goes_to (frame_turn s who.actor who.proc child done page word (Some f)) (forking q c done (copying page word)) (λ u same. ap (λ (jobs : ℕ → Job). jobs who.actor) same ∙ is) goes
  copying_on q c done page word is goes (Some to) = by_more word (nat_lt word words) refl goes
    where
      by_more : (w : ℕ) (more : Bool) → nat_lt w words ≡ more → StepGoes done (copying page w) g.next → GoesOn (copy_turn s who.actor who.proc child done page w to more)
      by_more zero true less at =
          goes_to (copy_turn s who.actor who.proc child done page zero to true) (forking who.proc child done (copying page (zero + 1))) (λ u same. put_same who.actor (forking who.proc child done (copying page (zero + 1))) u.job)
          ((λ first. absurd (omega (arith, first))), (λ more. refl))
      by_more (suc w) true less at =
          goes_to (copy_turn s who.actor who.proc child done page (suc w) to true) (forking who.proc child done (copying page (suc w + 1))) (λ u same. put_same who.actor (forking who.proc child done (copying page (suc w + 1))) u.job)
          ((λ first. absurd (omega (arith, first))), (λ more. at.1 (omega arith)))
      by_more zero false less at = λ far. absurd (cc less)
      by_more (suc w) false less at =
          goes_to (copy_turn s who.actor who.proc child done page (suc w) to false) (forking who.proc child (page ∷ done) between) (λ u same. put_same who.actor (forking who.proc child (page ∷ done) between) u.job)
          (at.1 (omega arith))

  -- wherever it stands
  fork_on : (job : Job) → s.job who.actor ≡ job → FitsFork s who.actor who.proc child place job (s.prepared who.actor) → ForkGoes job g.next → GoesOn (fork_turn s who.actor who.proc child job)
  fork_on idle is fits goes =
      goes_to (fork_turn s who.actor who.proc child idle) (forking who.proc child [] between) (λ u same. put_same who.actor (forking who.proc child [] between) u.job) goes
  fork_on (forking q c done between) is fits goes = between_on done goes (next_page (s.right child) done)
  fork_on (forking q c done (counted page)) is fits goes =
      by_may (has_tables s child page)
    where
      by_may : (may : Bool) → GoesOn (share_turn s who.actor who.proc child done page (s.entry who.proc page) may)
      by_may false = λ far. absurd (omega (arith, far))
      by_may true =
          goes_to (share_turn s who.actor who.proc child done page (s.entry who.proc page) true) (forking who.proc child (page ∷ done) between)
          (λ u same. put_same who.actor (forking who.proc child (page ∷ done) between) (put who.actor (forking who.proc child done (cleared page)) (put who.actor (forking who.proc child done (lowered page)) u.job))) refl
  fork_on (forking q c done (copying page word)) is fits goes = copying_on q c done page word is goes (s.prepared who.actor)
  fork_on (forking q c done step) is fits goes = absurd fits.1
  fork_on job is fits goes = absurd fits

  -- the turn of its actor, but for page tables
  own_turn_on : FitsOp s who (Fork child) place → ForkGoes (s.job who.actor) g.next → 0 < (place_behind place (own_turn s who place.far (Fork child)).whats).far → ForkGoes ((run s (own_turn s who place.far (Fork child)).events).job who.actor) (own_behind ops p (plain_of s) place g (own_turn s who place.far (Fork child)).whats).next
  own_turn_on fits goes = by_birth (birth_for s.birth who)
    where
      by_birth : (birth : Birth) → GoesOn (turn_at birth (failed_turn who.actor who.proc (Fork child)) (op_turn s who.actor who.proc who.slots place.far (Fork child)))
      by_birth failed = λ far. absurd (omega (arith, far))
      by_birth birth = fork_on (s.job who.actor) refl fits.1 goes

-- a turn of its actor
turn_on : (ops : List Op) (p : ℕ) (s : CoreState) (who : Doer) (child : ℕ) (place : Place) (g : Going) (waiting : Option Waiting) → FitsOp s who (Fork child) place → ForkGoes (s.job who.actor) g.next → 0 < (place_behind place (core_turn_by s who place.far (Some (Fork child)) waiting).whats).far → ForkGoes ((run s (core_turn_by s who place.far (Some (Fork child)) waiting).events).job who.actor) (own_behind ops p (plain_of s) place g (core_turn_by s who place.far (Some (Fork child)) waiting).whats).next
turn_on ops p s who child place g (Some w) fits goes far = goes
turn_on ops p s who child place g None fits goes far =
    let own = as_own s who place.far (Fork child) in
    let t : CoreState = own.state in
    let whats : List What = (own_turn t who place.far (Fork child)).whats in
    let on = own_turn_on ops p t who child place g (fits_tabled s t own.before who (Some (Fork child)) place fits)
    (subst (λ (x : CoreState). ForkGoes (x.job who.actor) g.next) (sym own.before) goes)
    (subst (λ (ws : List What). 0 < (place_behind place ws).far) own.whats far) in
    let plain : ForkGoes ((run t (own_turn t who place.far (Fork child)).events).job who.actor) (own_behind ops p (plain_of s) place g whats).next =
    subst (λ (x : CoreState). ForkGoes ((run t (own_turn t who place.far (Fork child)).events).job who.actor) (own_behind ops p (plain_of x) place g whats).next) own.before on in
    let ended : ForkGoes ((run s (turn_of s who place.far (Fork child)).events).job who.actor) (own_behind ops p (plain_of s) place g whats).next =
    subst (λ (x : CoreState). ForkGoes (x.job who.actor) (own_behind ops p (plain_of s) place g whats).next) (sym own.after) plain in
    subst (λ (ws : List What). ForkGoes ((run s (turn_of s who place.far (Fork child)).events).job who.actor) (own_behind ops p (plain_of s) place g ws).next) (sym own.whats) ended

-- whoever forks and is in the middle of it after a turn, was at the same fork before
same_fork : {t : CoreState} {who : Doer} {op : Option Op} {place : Place} {whats : List What} → IsBehindTurn t who op place whats → 0 < (place_behind place whats).far → (place_behind place whats).answered ≡ place.answered
same_fork (stays_there is fits) far = ap (λ (q : Place). q.answered) is
same_fork (goes_by (goes_on had is fits)) far = ap (λ (q : Place). q.answered) is
same_fork (goes_by (is_over is fits)) far = (let none = ap (λ (q : Place). q.far) is in absurd (omega (arith, far, none)))

-- one that is at its first turn is in the middle of nothing
idle_first : (s : CoreState) (a p child : ℕ) (place : Place) (job : Job) (next : ℕ) → FitsFork s a p child place job (s.prepared a) → place.far ≡ 0 → next ≡ 0 → ForkGoes job next
idle_first s a p child place idle next fits far is = is
idle_first s a p child place (forking q c done step) next fits far is = (let begun : 0 < place.far = fits.0.0 in absurd (omega (arith, begun, far)))
idle_first s a p child place job next fits far is = absurd fits

module _ (law : Law) (script : ScriptValue) (valid : IsScript script) (r : RunState) (h : Stands script r) (a child : ℕ) (g : Going) where
  abbrev place : Place
  place = r.places a

  abbrev whats : List What
  whats = (core_turn_in script r a).whats

  abbrev later : Place
  later = place_behind place whats

  abbrev behind : Going
  behind = own_behind (ops_of script a) (process_of script a) (plain_of r.core) place g whats

  abbrev next : RunState
  next = run_after script r a

  -- it is at its first turn
  begins : present_op script a later ≡ Some (Fork child) → AtStart (ops_of script a) place g → later.far ≡ 0 → ForkGoes (next.core.job a) behind.next
  begins forks start far =
      let own : next.places a ≡ later = put_same a later r.places in
      let fits : FitsAt next.core (doer_of script a (Some (Fork child))) (Some (Fork child)) later =
      subst (λ (o : Option Op). FitsAt next.core (doer_of script a o) o later) forks
      (subst (λ (q : Place). FitsAt next.core (doer_of script a (present_op script a q)) (present_op script a q) q) own ((stands_on law script valid r h a).fits a)) in
      idle_first next.core a (process_of script a) child later (next.core.job a) behind.next fits.1 far
      (own_start (ops_of script a) (process_of script a) (plain_of r.core) place g whats start far ∙ ap first_page forks)

  -- it is in the middle
  goes : present_op script a later ≡ Some (Fork child) → (op_in script r a ≡ Some (Fork child) → ForkGoes (r.core.job a) g.next) → 0 < later.far → ForkGoes (next.core.job a) behind.next
  goes forks went far =
      let s : CoreState = r.core in
      let who : Doer = doer_of script a (Some (Fork child)) in
      let same : later.answered ≡ place.answered = same_fork (turn_behind next.core (taken script valid r h a).shape) far in
      let is : op_in script r a ≡ Some (Fork child) = ap (slice_get (ops_of script a)) (sym same) ∙ forks in
      let fits : FitsAt s who (Some (Fork child)) place = subst (λ (o : Option Op). FitsAt s (doer_of script a o) o place) is (h.fits a) in
      let turn : Option Op → CoreTurn = λ o. core_turn_by s (doer_of script a o) place.far o (waiting_with s (doer_of script a o) place.far o) in
      let by : Option Op → Type 0 =
      λ o. 0 < (place_behind place (turn o).whats).far → ForkGoes ((run s (turn o).events).job a) (own_behind (ops_of script a) (process_of script a) (plain_of s) place g (turn o).whats).next in
      subst by (sym is) (turn_on (ops_of script a) (process_of script a) s who child place g (waiting_with s who place.far (Some (Fork child))) fits (went is)) far

  pub fork_goes_on : present_op script a later ≡ Some (Fork child) → AtStart (ops_of script a) place g → (op_in script r a ≡ Some (Fork child) → ForkGoes (r.core.job a) g.next) → ForkGoes (next.core.job a) behind.next
  fork_goes_on forks start went = by_far later.far refl
    where
      by_far : (far : ℕ) → later.far ≡ far → ForkGoes (next.core.job a) behind.next
      by_far zero is = begins forks start is
      by_far (suc far) is = goes forks went (omega (arith, is))
