-- How far a fork has come: its next page is the lowest of its parent behind the last.
use Rattle.std.proofs.Common.{◌≡◌, ℕ, ◌+◌, ◌-◌, ◌≤◌, ◌<◌, Bool, true, false, List, [], ◌∷◌, Option, Some, None, is_none, is_some, nat_lt, zero, suc, refl, sym, ap, ◌∙◌, subst, arith}
use Rattle.gup_spec_events.specs.Event.{has_tables}
use Rattle.gup_base.specs.declared.entry.Allowed.TheVariants.{Any}
use Rattle.gup_base.specs.declared.entry.Entry.{Entry}
use Rattle.gup_plain.specs.Event.{page_numbers, words}
use Rattle.gup_plain.specs.State.{Birth, failed, growing}
use Rattle.gup_plain.specs.declared.event.PlainEvent.{PlainEvent}
use Rattle.gup_plain.specs.declared.note.What.TheVariants.{Event}
use Rattle.gup_plain.specs.declared.note.Waiting.{Waiting}
use Rattle.gup_script.specs.declared.op.Op.{Op}
use Rattle.gup_script.specs.declared.op.Op.TheVariants.{Fork}
use Rattle.gup_script.specs.Script.{ScriptValue}
use Rattle.gup_script.specs.Valid.{IsScript}
use Rattle.gup_spec_events.specs.State.{CoreState, Job, idle, forking, ForkStep, between, counted, copying, plain_of}
use Rattle.gup_spec_journal.specs.Place.{Place, Doer, doer_of, birth_for, process_of}
use Rattle.gup_spec_accepted.specs.Passing.{page_at, ArePassed}
use Rattle.gup_spec_turns.specs.CoreTurn.{frame_for}
use Rattle.gup_spec_turns.specs.ForkTurns.{first_behind, next_page, page_turn, next_turn, frame_turn, copy_turn, copying_turn, fork_turn, share_turn}
use Rattle.gup_spec_turns.specs.JobPlace.{IsForking, HasCounted}
use Rattle.gup_spec_turns.specs.Run.{RunState, op_in, waiting_with, core_turn_by, core_turn_in}
use Rattle.gup_spec_turns.specs.Turn.{failed_turn, turn_at, op_turn, own_turn}
use Rattle.gup_law_base.specs.Sound.{IsSound}
use Rattle.gup_law_turns.proofs.PageSearches.{IsLowest, lowest_some}
use Rattle.gup_law_turns.proofs.Puts.{some_same, none_of}
use Rattle.gup_law_turns.proofs.StandingStates.{Stands}
use Rattle.gup_law_turns.proofs.TurnShapes.{FitsAt, FitsFork, FitsOp}
use Rattle.gup_law_turns.proofs.TabledTurns.{fits_tabled, sound_tabled}
use Rattle.gup_law_turns.proofs.TurnAsOwn.{as_own}

-- the page behind the last that it has come to, by its job
abbrev pub StepGoes : List ℕ → ForkStep → (next : ℕ) → Type 0
StepGoes done (copying page word) next = (word ≡ 0 → next ≡ first_behind done) × (0 < word → next ≡ page + 1)
StepGoes done step next = next ≡ first_behind done

abbrev pub ForkGoes : Job → (next : ℕ) → Type 0
ForkGoes idle next = next ≡ 0
ForkGoes (forking q c done step) next = StepGoes done step next
ForkGoes job next = Unit {0}

-- the event of a turn that has no other note

tells_same : {d e : PlainEvent} → Event d ∷ [] ≡ Event e ∷ [] → d ≡ e
tells_same is = cc

comes_to : {d e : PlainEvent} {g page : ℕ} → Event d ∷ [] ≡ Event e ∷ [] → page_at d ≡ Some g → page_at e ≡ Some page → g ≡ page
comes_to tells at comes = some_same (sym at ∙ ap page_at (tells_same tells) ∙ comes)

-- the pages below it, by the child's
module _ (s : CoreState) (sound : IsSound s) (a p child : ℕ) where
  -- no page of the child's from here to there
  unnamed_below : (next from g page : ℕ) → s.birth child ≡ growing p → next ≡ from → g ≡ page → ((h : ℕ) → from ≤ h → h < g → s.right child h ≡ None) → ArePassed (λ h. is_none (s.right p h)) next page
  unnamed_below next from g page birth starts same none h least less =
      ap is_none (sym (sound.1.growing_rights child p h birth) ∙ none h (omega (arith, least, starts)) (omega (arith, less, same)))

  -- between two pages
  between_comes : (done : List ℕ) (next page : ℕ) (e : PlainEvent) → s.birth child ≡ growing p → next ≡ first_behind done → (found : Option ℕ) → next_page (s.right child) done ≡ found → (next_turn s a p child done found).whats ≡ Event e ∷ [] → page_at e ≡ Some page → ArePassed (λ h. is_none (s.right p h)) next page
  between_comes done next page e birth starts None is tells comes = absurd (cc tells)
  between_comes done next page e birth starts (Some g) is tells comes = by_entry (s.entry p g) tells
    where
      found : IsLowest (first_behind done) (page_numbers - first_behind done) (λ h. is_some (s.right child h)) g
      found = lowest_some (first_behind done) (page_numbers - first_behind done) g (λ h. is_some (s.right child h)) is

      by_entry : (entry : Option Entry) → (page_turn s a p child done g entry).whats ≡ Event e ∷ [] → ArePassed (λ h. is_none (s.right p h)) next page
      by_entry None told =
          unnamed_below next (first_behind done) g page birth starts (comes_to told refl comes)
          (λ h least less. none_of (s.right child h) (found.others h least less))
      by_entry (Some entry) told = absurd (cc told)

  -- of a page that it copies
  copying_comes : (done : List ℕ) (g word next page : ℕ) (e : PlainEvent) → s.birth child ≡ growing p → ((h : ℕ) → first_behind done ≤ h → h < g → s.right child h ≡ None) → StepGoes done (copying g word) next → (prepared : Option ℕ) → (copying_turn s a p child done g word prepared).whats ≡ Event e ∷ [] → page_at e ≡ Some page → ArePassed (λ h. is_none (s.right p h)) next page
  copying_comes done g word next page e birth none goes None tells comes = by_free (frame_for s child g Any) tells
    where
      by_free : (free : Option ℕ) → (frame_turn s a p child done g word free).whats ≡ Event e ∷ [] → ArePassed (λ h. is_none (s.right p h)) next page
      by_free None told = absurd (cc told)
      by_free (Some f) told = absurd (cc told)
  copying_comes done g word next page e birth none goes (Some to) tells comes = by_more word (nat_lt word words) goes tells
    where
      by_more : (w : ℕ) (more : Bool) → StepGoes done (copying g w) next → (copy_turn s a p child done g w to more).whats ≡ Event e ∷ [] → ArePassed (λ h. is_none (s.right p h)) next page
      by_more zero true at told = unnamed_below next (first_behind done) g page birth (at.0 refl) (comes_to told refl comes) none
      by_more (suc w) true at told = (let no : None ≡ Some page = ap page_at (tells_same told) ∙ comes in absurd (cc no))
      by_more w false at told = absurd (cc told)

  -- wherever it stands
  comes_by : (place : Place) (next page : ℕ) (e : PlainEvent) (job : Job) → FitsFork s a p child place job (s.prepared a) → ForkGoes job next → (fork_turn s a p child job).whats ≡ Event e ∷ [] → page_at e ≡ Some page → ArePassed (λ h. is_none (s.right p h)) next page
  comes_by place next page e idle fits goes tells comes = (let no : None ≡ Some page = ap page_at (tells_same tells) ∙ comes in absurd (cc no))
  comes_by place next page e (forking q c done between) fits goes tells comes =
      between_comes done next page e (let at : IsForking s a p child q c done = fits.1 in at.birth) goes (next_page (s.right child) done) refl tells comes
  comes_by place next page e (forking q c done (counted g)) fits goes tells comes =
      let at : IsForking s a p child q c done = fits.1.0 in
      let has : HasCounted s a p child done g = fits.1.1 in
      by_may at.birth has.lowest (has_tables s child g) tells
    where
      by_may : s.birth child ≡ growing p → ((h : ℕ) → first_behind done ≤ h → h < g → s.right child h ≡ None) → (may : Bool) → (share_turn s a p child done g (s.entry p g) may).whats ≡ Event e ∷ [] → ArePassed (λ h. is_none (s.right p h)) next page
      by_may birth none true told = unnamed_below next (first_behind done) g page birth goes (comes_to told refl comes) none
      by_may birth none false told = absurd (cc told)
  comes_by place next page e (forking q c done (copying g word)) fits goes tells comes =
      let at : IsForking s a p child q c done = fits.1.0 in
      let has : HasCounted s a p child done g = fits.1.1 in
      copying_comes done g word next page e at.birth has.lowest goes (s.prepared a) tells comes
  comes_by place next page e (forking q c done step) fits goes tells comes = absurd fits.1
  comes_by place next page e job fits goes tells comes = absurd fits

-- the turn of its actor, but for page tables
own_comes : (s : CoreState) → IsSound s → (who : Doer) (place : Place) (child page : ℕ) (e : PlainEvent) (next : ℕ) → FitsOp s who (Fork child) place → ForkGoes (s.job who.actor) next → (own_turn s who place.far (Fork child)).whats ≡ Event e ∷ [] → page_at e ≡ Some page → ArePassed (λ g. is_none (s.right who.proc g)) next page
own_comes s sound who place child page e next fits goes tells comes = by_birth (birth_for s.birth who) tells
  where
    by_birth : (birth : Birth) → (turn_at birth (failed_turn who.actor who.proc (Fork child)) (op_turn s who.actor who.proc who.slots place.far (Fork child))).whats ≡ Event e ∷ [] → ArePassed (λ g. is_none (s.right who.proc g)) next page
    by_birth failed told = absurd (cc told)
    by_birth birth told = comes_by s sound who.actor who.proc child place next page e (s.job who.actor) fits.1 goes told comes

-- a turn of its actor
turn_comes : (s : CoreState) → IsSound s → (who : Doer) (place : Place) (child page : ℕ) (e : PlainEvent) (next : ℕ) (waiting : Option Waiting) → FitsOp s who (Fork child) place → ForkGoes (s.job who.actor) next → (core_turn_by s who place.far (Some (Fork child)) waiting).whats ≡ Event e ∷ [] → page_at e ≡ Some page → ArePassed (λ g. is_none (s.right who.proc g)) next page
turn_comes s sound who place child page e next (Some w) fits goes tells comes = absurd (cc tells)
turn_comes s sound who place child page e next None fits goes tells comes =
    let own = as_own s who place.far (Fork child) in
    let t : CoreState = own.state in
    subst (λ (x : CoreState). ArePassed (λ g. is_none (x.right who.proc g)) next page) own.before
    (own_comes t (sound_tabled s t own.before sound) who place child page e next
    (fits_tabled s t own.before who (Some (Fork child)) place fits)
    (subst (λ (x : CoreState). ForkGoes (x.job who.actor) next) (sym own.before) goes)
    (sym own.whats ∙ tells) comes)

pub fork_comes_next : (script : ScriptValue) → IsScript script → (r : RunState) → Stands script r → (a child page : ℕ) (e : PlainEvent) (next : ℕ) → op_in script r a ≡ Some (Fork child) → ForkGoes (r.core.job a) next → (core_turn_in script r a).whats ≡ Event e ∷ [] → page_at e ≡ Some page → ArePassed (λ g. is_none ((plain_of r.core).right (process_of script a) g)) next page
fork_comes_next script valid r h a child page e next is goes tells comes =
    let s : CoreState = r.core in
    let far : ℕ = (r.places a).far in
    let who : Doer = doer_of script a (Some (Fork child)) in
    let fits : FitsAt s who (Some (Fork child)) (r.places a) = subst (λ (o : Option Op). FitsAt s (doer_of script a o) o (r.places a)) is (h.fits a) in
    let told : (core_turn_by s who far (Some (Fork child)) (waiting_with s who far (Some (Fork child)))).whats ≡ Event e ∷ [] =
    subst (λ (o : Option Op). (core_turn_by s (doer_of script a o) far o (waiting_with s (doer_of script a o) far o)).whats ≡ Event e ∷ []) is tells in
    turn_comes s h.sound who (r.places a) child page e next (waiting_with s who far (Some (Fork child))) fits goes told comes
