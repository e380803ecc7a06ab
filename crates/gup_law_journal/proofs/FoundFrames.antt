-- What a turn looks for is missing, a free frame or a table, exactly where the state before its growth says so.
use Rattle.std.proofs.Common.{◌≡◌, ℕ, ◌+◌, ◌==◌, ◌&&◌, Bool, true, false, if◌then◌else◌, List, ◌∷◌, [], length, Option, Some, None, IsSome, is_some, ◌⊎◌, refl, sym, ap, ◌∙◌, subst, inl, inr}
use Rattle.std.proofs.Math.Path.{subst₂}
use Rattle.gup_base.specs.declared.entry.Allowed.{Allowed}
use Rattle.gup_base.specs.declared.entry.Entry.{Entry}
use Rattle.gup_base.specs.declared.entry.Rights.{Rights}
use Rattle.gup_base.specs.declared.entry.Rights.TheVariants.{RW}
use Rattle.gup_base.specs.declared.entry.Want.{Want}
use Rattle.gup_plain.specs.State.{Birth, born, failed}
use Rattle.gup_plain.specs.declared.note.What.TheVariants.{Idle, Wait}
use Rattle.gup_plain.specs.declared.note.Waiting.{Waiting}
use Rattle.gup_script.specs.declared.op.Op.{Op}
use Rattle.gup_script.specs.declared.op.Op.TheVariants.{Load, Store, Pin, Get, Mirror, Fork, Move}
use Rattle.gup_script.specs.Script.{ScriptValue}
use Rattle.gup_spec_events.specs.State.{CoreState, Job, moving, Counted, one as counted_one, forking, counted, copying, walking, WalkStep}
use Rattle.gup_spec_events.specs.Event.{CoreEvent, has_tables, run}
use Rattle.gup_spec_journal.specs.Place.{Doer, doer_of, birth_for}
use Rattle.gup_spec_turns.specs.Cause.{AreHeld, allowed_of, NeedsOwn, NeedsWritable, NeedsForLoad, NeedsForStore, NeedsForPin, NeedsAtPage, NeedsIfSlow, NeedsFor, NeedsEntry, LacksTables, FindsNone, IsNext, LacksFrame, LacksExactly}
use Rattle.gup_spec_turns.specs.CoreTurn.{CoreTurn, free_in, frame_for, allows_store}
use Rattle.gup_spec_turns.specs.JobPlace.{JobPlace, job_place, place_in, wants_frame, at_page, moving_page, in_walk}
use Rattle.gup_spec_turns.specs.Run.{RunState, op_in, waiting_in, waiting_with, core_turn_by, turn_in}
use Rattle.gup_spec_turns.specs.TableTurns.{Spot, spot, if_mapped, if_writable, unless, pinned_at, pin_grows, forks_grow, grown_by, grows_at}
use Rattle.gup_spec_turns.specs.Turn.{op_turn, failed_turn, turn_at, own_turn, unless_failed}
use Rattle.gup_spec_turns.specs.Waits.{waits_born}
use Rattle.gup_law_tables.specs.Standing.{IsButForTables}
use Rattle.gup_law_turns.proofs.PageSearches.{free_in_free, free_in_allowed, none_free_in}
use Rattle.gup_law_turns.proofs.ShownTurns.{waits_no_birth}
use Rattle.gup_law_turns.proofs.TabledTurns.{but_for_sym}
use Rattle.gup_law_turns.proofs.TurnAsOwn.{as_own, unless_born}
use Rattle.gup_law_journal.proofs.FrameCauses.{Finds, lacking, ForkWants, page_if, fork_frame, pin_frame, turn_frame, Wants, op_exact, failed_cause}

-- none is found free in these zones exactly where each of their frames has a reference
held_none : (s : CoreState) (allowed : Allowed) → AreHeld s allowed → free_in s allowed ≡ None
held_none s allowed held = go (free_in s allowed) refl
  where
    go : (free : Option ℕ) → free_in s allowed ≡ free → free ≡ None
    go None is = refl
    go (Some f) is = let found = free_in_free s allowed f is in absurd (held f found.0 (free_in_allowed s allowed f is) found.1)

none_held : (s : CoreState) (allowed : Allowed) → free_in s allowed ≡ None → AreHeld s allowed
none_held s allowed none f below there free = none_free_in s allowed none f below there free

-- the frame for a page is missing where none is free, or the page lacks a table

missing_either : (s : CoreState) (p page : ℕ) (allowed : Allowed) → frame_for s p page allowed ≡ None → (free_in s allowed ≡ None) ⊎ (has_tables s p page ≡ false)
missing_either s p page allowed = go (has_tables s p page)
  where
    go : (may : Bool) → (if may then free_in s allowed else None) ≡ None → (free_in s allowed ≡ None) ⊎ (may ≡ false)
    go true none = inl none
    go false none = inr refl

unfree_missing : (s : CoreState) (p page : ℕ) (allowed : Allowed) → free_in s allowed ≡ None → frame_for s p page allowed ≡ None
unfree_missing s p page allowed none = go (has_tables s p page)
  where
    go : (may : Bool) → (if may then free_in s allowed else None) ≡ None
    go true = none
    go false = refl

untabled_missing : (s : CoreState) (p page : ℕ) (allowed : Allowed) → has_tables s p page ≡ false → frame_for s p page allowed ≡ None
untabled_missing s p page allowed lacks = ap (λ (may : Bool). if may then free_in s allowed else None) lacks

no_page : (may : Bool) (page : ℕ) → page_if may page ≡ None → may ≡ false
no_page true page none = absurd (cc none)
no_page false page none = refl

-- ---- the operation's own turn

own_looks_only : (s : CoreState) (who : Doer) (far : ℕ) (op : Op) → (birth_for s.birth who ≡ born) ⊎ (birth_for s.birth who ≡ failed) → LacksFrame (own_turn s who far op).whats → (birth_for s.birth who ≡ born) × Wants s who.actor who.proc far op × (turn_frame s who.actor who.proc op ≡ None)
own_looks_only s who far op births lacks = go births
  where
    refused : CoreTurn
    refused = failed_turn who.actor who.proc op

    turn : CoreTurn
    turn = op_turn s who.actor who.proc who.slots far op

    go : (birth_for s.birth who ≡ born) ⊎ (birth_for s.birth who ≡ failed) → (birth_for s.birth who ≡ born) × Wants s who.actor who.proc far op × (turn_frame s who.actor who.proc op ≡ None)
    go (inl birth) =
        let exact = op_exact s who.actor who.proc who.slots far op in
        let finds = lacking (Finds (turn_frame s who.actor who.proc op) (Wants s who.actor who.proc far op)) turn.whats exact.only (subst (λ (b : Birth). LacksFrame (turn_at b refused turn).whats) birth lacks) in
        (birth, finds.0, finds.1)
    go (inr birth) =
        absurd (lacking ⊥ refused.whats (failed_cause s who.actor who.proc op) (subst (λ (b : Birth). LacksFrame (turn_at b refused turn).whats) birth lacks))

own_looks_always : (s : CoreState) (who : Doer) (far : ℕ) (op : Op) → birth_for s.birth who ≡ born → Wants s who.actor who.proc far op → turn_frame s who.actor who.proc op ≡ None → LacksFrame (own_turn s who far op).whats
own_looks_always s who far op birth wants none =
    let lacks : LacksFrame (op_turn s who.actor who.proc who.slots far op).whats = (op_exact s who.actor who.proc who.slots far op).always wants none in
    let refused : CoreTurn = failed_turn who.actor who.proc op in
    let turn : CoreTurn = op_turn s who.actor who.proc who.slots far op in
    subst (λ (b : Birth). LacksFrame (turn_at b refused turn).whats) (sym birth) lacks

-- what a turn needs it needs whatever page tables there are
module _ (s t : CoreState) (same : IsButForTables s t) where
  needs_writable : (entry : Option Entry) → NeedsWritable t entry → NeedsWritable s entry
  needs_writable None h = h
  needs_writable (Some e) h = subst (λ (x : CoreState). NeedsWritable x (Some e)) same h

  needs_own : (entry : Option Entry) → NeedsOwn t entry → NeedsOwn s entry
  needs_own None h = h
  needs_own (Some e) h = subst (λ (x : CoreState). NeedsOwn x (Some e)) same h

  needs_store : (p page : ℕ) → NeedsForStore t p page → NeedsForStore s p page
  needs_store p page h =
      let entry : t.entry p page ≡ s.entry p page = ap (λ (x : CoreState). x.entry p page) same in (
        ap (λ (x : CoreState). x.right p page) (sym same) ∙ h.0,
        needs_writable (s.entry p page) (subst (NeedsWritable t) entry h.1),
      )

  needs_pin : (p page : ℕ) (write : Bool) → NeedsForPin t p page write → NeedsForPin s p page write
  needs_pin p page true h = needs_store p page h
  needs_pin p page false h =
      let entry : t.entry p page ≡ s.entry p page = ap (λ (x : CoreState). x.entry p page) same in (
        subst (λ (x : CoreState). IsSome (x.right p page)) same h.0,
        needs_own (s.entry p page) (subst (NeedsOwn t) entry h.1),
      )

  needs_at_page : (p page : ℕ) (write : Bool) (place : JobPlace) → NeedsAtPage t p page write place → NeedsAtPage s p page write place
  needs_at_page p page write (moving_page g e counted_one) h = h
  needs_at_page p page write (moving_page g e count) h = h
  needs_at_page p page write (in_walk sequence step) h = h
  needs_at_page p page write place h = needs_pin p page write h

  needs_if_slow : (begins : Bool) (p page : ℕ) (write : Bool) (place : JobPlace) → NeedsIfSlow begins t p page write place → NeedsIfSlow begins s p page write place
  needs_if_slow true p page write (moving_page g e count) h = needs_at_page p page write (moving_page g e count) h
  needs_if_slow true p page write place h = h
  needs_if_slow false p page write place h = needs_at_page p page write place h

  needs_tabled : (a p far : ℕ) (op : Op) → NeedsFor t a p far op → NeedsFor s a p far op
  needs_tabled a p far (Load page word) h = subst (λ (x : CoreState). NeedsForLoad x p page) same h
  needs_tabled a p far (Store page word value) h = needs_store p page h
  needs_tabled a p far (Pin handle page n want fast) h =
      let at : place_in t a ≡ place_in s a = ap (λ (x : CoreState). place_in x a) same in
      let many : length (t.taken a) ≡ length (s.taken a) = ap (λ (x : CoreState). length (x.taken a)) same in
      needs_if_slow (fast && far == 0) p (page + length (s.taken a)) want.write (place_in s a)
      (subst (λ (j : JobPlace). NeedsIfSlow (fast && far == 0) t p (page + length (s.taken a)) want.write j) at
      (subst (λ (k : ℕ). NeedsIfSlow (fast && far == 0) t p (page + k) want.write (place_in t a)) many h))
  needs_tabled a p far (Get handle page) h = subst (λ (x : CoreState). NeedsForLoad x p page) same h
  needs_tabled a p far (Mirror mirror proc page) h = subst (λ (x : CoreState). NeedsForLoad x p page) same h
  needs_tabled a p far (Move proc page zone) h = subst (λ (x : CoreState). NeedsFor x a p far (Move proc page zone)) same h
  needs_tabled a p far (Fork child) h = subst (λ (x : CoreState). NeedsFor x a p far (Fork child)) same h
  needs_tabled a p far op h = h

-- ---- by the state before the growth

-- with the tables that the turn adds, where there are any
abbrev grown : CoreState → (a p far : ℕ) → Op → CoreState
grown s a p far op = run s (grows_at s a (grown_by s a p far op))

module _ (s : CoreState) (a p far : ℕ) (op : Op) (same : IsButForTables s (grown s a p far op)) where
  abbrev t : CoreState
  t = grown s a p far op

  held_before : free_in t (allowed_of op) ≡ None → AreHeld s (allowed_of op)
  held_before none = subst (λ (x : CoreState). AreHeld x (allowed_of op)) same (none_held t (allowed_of op) none)

  none_behind : AreHeld s (allowed_of op) → free_in t (allowed_of op) ≡ None
  none_behind held = held_none t (allowed_of op) (subst (λ (x : CoreState). AreHeld x (allowed_of op)) (sym same) held)

  -- it adds the tables of this page
  module _ (q page : ℕ) (at : grown_by s a p far op ≡ spot q page) where
    lacks_before : has_tables t q page ≡ false → LacksTables s a (grown_by s a p far op)
    lacks_before lacks =
        subst (LacksTables s a) (sym at) (subst (λ (o : Option Spot). has_tables (run s (grows_at s a o)) q page ≡ false) at lacks)

    lacks_behind : LacksTables s a (grown_by s a p far op) → has_tables t q page ≡ false
    lacks_behind lacks =
        subst (λ (o : Option Spot). has_tables (run s (grows_at s a o)) q page ≡ false) (sym at) (subst (LacksTables s a) at lacks)

    missing_at : NeedsFor s a p far op → NeedsEntry s a p far op → frame_for t q page (allowed_of op) ≡ None → FindsNone s a p far op
    missing_at needs entry none =
        elim (missing_either t q page (allowed_of op) none) [
          | inl free ↦ inl (needs, held_before free)
          | inr lacks ↦ inr (entry, lacks_before lacks)
        ]

    found_at : FindsNone s a p far op → frame_for t q page (allowed_of op) ≡ None
    found_at (inl finds) = unfree_missing t q page (allowed_of op) (none_behind finds.1)
    found_at (inr finds) = untabled_missing t q page (allowed_of op) (lacks_behind finds.1)

-- what a fault needs a frame for, the growth is of that page

mapped_spot : (p page : ℕ) (right : Option Rights) → IsSome right → if_mapped p page right ≡ spot p page
mapped_spot p page None some = absurd (cc some)
mapped_spot p page (Some rights) some = refl

writable_spot : (p page : ℕ) (right : Option Rights) → right ≡ Some RW → if_writable p page right ≡ spot p page
writable_spot p page right is = ap (if_writable p page) is

-- a job that has cleared no entry

abbrev IsNoMove : Job → Type 0
IsNoMove (moving q g e allowed count) = ⊥
IsNoMove job = Unit {0}

unmoving : (job : Job) (prepared : Option ℕ) → IsNoMove job → (g : ℕ) (e : Entry) (count : Counted) → job_place job prepared ≡ moving_page g e count → ⊥
unmoving (moving q g e allowed count) prepared other k d n is = other
unmoving (forking q c done (copying page word)) None other k d n is = cc is
unmoving (forking q c done (copying page word)) (Some to) other k d n is = cc is
unmoving (forking q c done step) prepared other k d n is = cc is
unmoving job prepared other k d n is = cc is

-- what a turn looks for, and finds missing

module _ (s : CoreState) (a p far : ℕ) where
  abbrev IsGrown : Op → Type 0
  IsGrown op = IsButForTables s (grown s a p far op)

  load_spot : (page : ℕ) → NeedsForLoad s p page → unless (is_some (s.entry p page)) (if_mapped p page (s.right p page)) ≡ spot p page
  load_spot page needs = ap (λ (o : Option Entry). unless (is_some o) (if_mapped p page (s.right p page))) needs.1 ∙ mapped_spot p page (s.right p page) needs.0

  store_spot : (page : ℕ) → NeedsForStore s p page → unless (allows_store (s.entry p page)) (if_writable p page (s.right p page)) ≡ spot p page
  store_spot page needs =
      ap (λ (enough : Bool). unless enough (if_writable p page (s.right p page))) (go (s.entry p page) needs.1) ∙ writable_spot p page (s.right p page) needs.0
    where
      go : (entry : Option Entry) → NeedsWritable s entry → allows_store entry ≡ false
      go None writes = refl
      go (Some e) writes = writes.0

  pinned_spot : (page : ℕ) (write : Bool) → NeedsForPin s p page write → pinned_at p page write (s.right p page) ≡ spot p page
  pinned_spot page true needs = writable_spot p page (s.right p page) needs.0
  pinned_spot page false needs = mapped_spot p page (s.right p page) needs.0

  -- a pin's slow turn needs a frame for its page, unless it has cleared one

  slow_needs : (page : ℕ) (write begins : Bool) (place : JobPlace) → NeedsIfSlow begins s p page write place → ((g : ℕ) (e : Entry) (count : Counted) → place ≡ moving_page g e count → ⊥) → (begins ≡ false) × NeedsForPin s p page write
  slow_needs page write true (moving_page g e count) needs other = absurd (other g e count refl)
  slow_needs page write true place needs other = absurd needs
  slow_needs page write false (moving_page g e count) needs other = absurd (other g e count refl)
  slow_needs page write false (in_walk sequence step) needs other = absurd needs
  slow_needs page write false place needs other = (refl, needs)

  walk_needs_none : (page : ℕ) (write begins : Bool) (sequence : ℕ) (step : WalkStep) → NeedsIfSlow begins s p page write (in_walk sequence step) → ⊥
  walk_needs_none page write true sequence step needs = needs
  walk_needs_none page write false sequence step needs = needs

  module _ (handle page n : ℕ) (want : Want) (fast : Bool) where
    abbrev pin : Op
    pin = Pin handle page n want fast

    abbrev here : ℕ
    here = page + length (s.taken a)

    pin_spot : (job : Job) → IsNoMove job → pin_grows s p here far want.write fast job ≡ unless (fast && far == 0) (pinned_at p here want.write (s.right p here)) → s.job a ≡ job → NeedsIfSlow (fast && far == 0) s p here want.write (job_place job (s.prepared a)) → grown_by s a p far pin ≡ spot p here
    pin_spot job other grows is slow =
        let needs = slow_needs here want.write (fast && far == 0) (job_place job (s.prepared a)) slow (unmoving job (s.prepared a) other) in
        ap (pin_grows s p here far want.write fast) is ∙ grows
        ∙ ap (λ (begins : Bool). unless begins (pinned_at p here want.write (s.right p here))) needs.0
        ∙ pinned_spot here want.write needs.1

    needs_by : (job : Job) → s.job a ≡ job → NeedsFor s a p far pin → NeedsIfSlow (fast && far == 0) s p here want.write (job_place job (s.prepared a))
    needs_by job is needs = subst (λ (j : Job). NeedsIfSlow (fast && far == 0) s p here want.write (job_place j (s.prepared a))) is needs

    pin_missing : (job : Job) → s.job a ≡ job → IsGrown pin → NeedsFor s a p far pin → pin_frame (grown s a p far pin) p here want job ≡ None → FindsNone s a p far pin
    pin_missing (moving q g e allowed count) is same needs none = inl (needs, held_before s a p far pin same none)
    pin_missing (walking q write long sequence step) is same needs none =
        absurd (walk_needs_none here want.write (fast && far == 0) sequence step (needs_by (walking q write long sequence step) is needs))
    pin_missing job is same needs none =
        missing_at s a p far pin same p here (pin_spot job tt refl is (needs_by job is needs)) needs needs none

    pin_found : (job : Job) → s.job a ≡ job → IsGrown pin → NeedsFor s a p far pin → FindsNone s a p far pin → pin_frame (grown s a p far pin) p here want job ≡ None
    pin_found (moving q g e allowed count) is same needs (inl finds) = none_behind s a p far pin same finds.1
    pin_found (moving q g e allowed count) is same needs (inr finds) =
        absurd (subst (LacksTables s a) (ap (pin_grows s p here far want.write fast) is) finds.1)
    pin_found (walking q write long sequence step) is same needs finds =
        absurd (walk_needs_none here want.write (fast && far == 0) sequence step (needs_by (walking q write long sequence step) is needs))
    pin_found job is same needs finds =
        found_at s a p far pin same p here (pin_spot job tt refl is (needs_by job is needs)) finds

  module _ (child : ℕ) where
    abbrev fork : Op
    fork = Fork child

    grows_by : (job : Job) (prepared : Option ℕ) → s.job a ≡ job → s.prepared a ≡ prepared → grown_by s a p far fork ≡ forks_grow child job prepared
    grows_by job prepared is has = ap (λ (j : Job). forks_grow child j (s.prepared a)) is ∙ ap (forks_grow child job) has

    stands_by : (job : Job) (prepared : Option ℕ) → s.job a ≡ job → s.prepared a ≡ prepared → place_in s a ≡ job_place job prepared
    stands_by job prepared is has = ap (λ (j : Job). job_place j (s.prepared a)) is ∙ ap (job_place job) has

    fork_missing : (job : Job) (prepared : Option ℕ) → s.job a ≡ job → s.prepared a ≡ prepared → IsGrown fork → ForkWants (job_place job prepared) → fork_frame (grown s a p far fork) child job prepared ≡ None → FindsNone s a p far fork
    fork_missing (forking q d done (counted page)) prepared is has same wants none =
        inr (tt, lacks_before s a p far fork same child page (grows_by (forking q d done (counted page)) prepared is has) (no_page (has_tables (grown s a p far fork) child page) page none))
    fork_missing (forking q d done (copying page word)) None is has same wants none =
        missing_at s a p far fork same child page (grows_by (forking q d done (copying page word)) None is has) (page, stands_by (forking q d done (copying page word)) None is has) tt none
    fork_missing (forking q d done (copying page word)) (Some to) is has same wants none = absurd (elim wants.1 [ inl at ↦ cc at | inr at ↦ cc at ])
    fork_missing (forking q d done step) prepared is has same wants none = absurd (elim wants.1 [ inl at ↦ cc at | inr at ↦ cc at ])
    fork_missing job prepared is has same wants none = absurd (elim wants.1 [ inl at ↦ cc at | inr at ↦ cc at ])

    -- it finds none only where it wants a frame, or the tables of a page

    not_there : (job : Job) (prepared : Option ℕ) → s.job a ≡ job → s.prepared a ≡ prepared → ((page : ℕ) → job_place job prepared ≡ wants_frame page → ⊥) → forks_grow child job prepared ≡ None → FindsNone s a p far fork → ⊥
    not_there job prepared is has other none (inl finds) = other finds.0.0 (sym (stands_by job prepared is has) ∙ finds.0.1)
    not_there job prepared is has other none (inr finds) = subst (LacksTables s a) (grows_by job prepared is has ∙ none) finds.1

    fork_found : (job : Job) (prepared : Option ℕ) → s.job a ≡ job → s.prepared a ≡ prepared → IsGrown fork → FindsNone s a p far fork → ForkWants (job_place job prepared) × (fork_frame (grown s a p far fork) child job prepared ≡ None)
    fork_found (forking q d done (counted page)) prepared is has same (inl finds) =
        absurd (let at : at_page page ≡ wants_frame finds.0.0 = sym (stands_by (forking q d done (counted page)) prepared is has) ∙ finds.0.1 in cc at)
    fork_found (forking q d done (counted page)) prepared is has same (inr finds) =
        ((page, inr refl), ap (λ (may : Bool). page_if may page) (lacks_behind s a p far fork same child page (grows_by (forking q d done (counted page)) prepared is has) finds.1))
    fork_found (forking q d done (copying page word)) None is has same finds =
        ((page, inl refl), found_at s a p far fork same child page (grows_by (forking q d done (copying page word)) None is has) finds)
    fork_found (forking q d done (copying page word)) (Some to) is has same finds =
        absurd (not_there (forking q d done (copying page word)) (Some to) is has (λ g at. cc at) refl finds)
    fork_found (forking q d done step) prepared is has same finds = absurd (not_there (forking q d done step) prepared is has (λ g at. cc at) refl finds)
    fork_found job prepared is has same finds = absurd (not_there job prepared is has (λ g at. cc at) refl finds)

  -- of any operation

  missing_only : (op : Op) → IsGrown op → Wants (grown s a p far op) a p far op → turn_frame (grown s a p far op) a p op ≡ None → FindsNone s a p far op
  missing_only (Load page word) same wants none =
      let needs = needs_tabled s (grown s a p far (Load page word)) same a p far (Load page word) wants in
      missing_at s a p far (Load page word) same p page (load_spot page needs) needs needs none
  missing_only (Store page word value) same wants none =
      let needs = needs_tabled s (grown s a p far (Store page word value)) same a p far (Store page word value) wants in
      missing_at s a p far (Store page word value) same p page (store_spot page needs) needs needs none
  missing_only (Get handle page) same wants none =
      let needs = needs_tabled s (grown s a p far (Get handle page)) same a p far (Get handle page) wants in
      missing_at s a p far (Get handle page) same p page (mapped_spot p page (s.right p page) needs.0) needs needs none
  missing_only (Mirror mirror proc page) same wants none =
      let needs = needs_tabled s (grown s a p far (Mirror mirror proc page)) same a p far (Mirror mirror proc page) wants in
      missing_at s a p far (Mirror mirror proc page) same p page (mapped_spot p page (s.right p page) needs.0) needs needs none
  missing_only (Move proc page zone) same wants none =
      inl (needs_tabled s (grown s a p far (Move proc page zone)) same a p far (Move proc page zone) wants, held_before s a p far (Move proc page zone) same none)
  missing_only (Pin handle page n want fast) same wants none =
      let op : Op = Pin handle page n want fast in
      let t : CoreState = grown s a p far op in
      let taken : page + length (t.taken a) ≡ page + length (s.taken a) = ap (λ (x : CoreState). page + length (x.taken a)) same in
      pin_missing handle page n want fast (s.job a) refl same (needs_tabled s t same a p far op wants)
      (subst (λ (j : Job). pin_frame t p (page + length (s.taken a)) want j ≡ None) (ap (λ (x : CoreState). x.job a) same)
      (subst (λ (k : ℕ). pin_frame t p k want (t.job a) ≡ None) taken none))
  missing_only (Fork child) same wants none =
      let t : CoreState = grown s a p far (Fork child) in
      let job : t.job a ≡ s.job a = ap (λ (x : CoreState). x.job a) same in
      let prepared : t.prepared a ≡ s.prepared a = ap (λ (x : CoreState). x.prepared a) same in
      fork_missing child (s.job a) (s.prepared a) refl refl same
      (subst₂ (λ (j : Job) (o : Option ℕ). ForkWants (job_place j o)) job prepared wants)
      (subst₂ (λ (j : Job) (o : Option ℕ). fork_frame t child j o ≡ None) job prepared none)
  missing_only op same wants none = absurd wants

  needs_either : {needs held lacks : Type 0} → (needs × held) ⊎ (needs × lacks) → needs
  needs_either (inl finds) = finds.0
  needs_either (inr finds) = finds.0

  missing_always : (op : Op) → IsGrown op → FindsNone s a p far op → Wants (grown s a p far op) a p far op × (turn_frame (grown s a p far op) a p op ≡ None)
  missing_always (Load page word) same finds =
      let op : Op = Load page word in
      let needs = needs_either finds in
      (needs_tabled (grown s a p far op) s (but_for_sym s (grown s a p far op) same) a p far op needs, found_at s a p far op same p page (load_spot page needs) finds)
  missing_always (Store page word value) same finds =
      let op : Op = Store page word value in
      let needs = needs_either finds in
      (needs_tabled (grown s a p far op) s (but_for_sym s (grown s a p far op) same) a p far op needs, found_at s a p far op same p page (store_spot page needs) finds)
  missing_always (Get handle page) same finds =
      let op : Op = Get handle page in
      let needs = needs_either finds in
      (needs_tabled (grown s a p far op) s (but_for_sym s (grown s a p far op) same) a p far op needs, found_at s a p far op same p page (mapped_spot p page (s.right p page) needs.0) finds)
  missing_always (Mirror mirror proc page) same finds =
      let op : Op = Mirror mirror proc page in
      let needs = needs_either finds in
      (needs_tabled (grown s a p far op) s (but_for_sym s (grown s a p far op) same) a p far op needs, found_at s a p far op same p page (mapped_spot p page (s.right p page) needs.0) finds)
  missing_always (Move proc page zone) same (inl finds) =
      let op : Op = Move proc page zone in
      (needs_tabled (grown s a p far op) s (but_for_sym s (grown s a p far op) same) a p far op finds.0, none_behind s a p far op same finds.1)
  missing_always (Move proc page zone) same (inr finds) = absurd finds.1
  missing_always (Pin handle page n want fast) same finds =
      let op : Op = Pin handle page n want fast in
      let t : CoreState = grown s a p far op in
      let needs : NeedsFor s a p far op = needs_either finds in
      let taken : page + length (s.taken a) ≡ page + length (t.taken a) = sym (ap (λ (x : CoreState). page + length (x.taken a)) same) in (
        needs_tabled t s (but_for_sym s t same) a p far op needs,
        subst (λ (k : ℕ). pin_frame t p k want (t.job a) ≡ None) taken
            (subst (λ (j : Job). pin_frame t p (page + length (s.taken a)) want j ≡ None) (sym (ap (λ (x : CoreState). x.job a) same))
            (pin_found handle page n want fast (s.job a) refl same needs finds)),
      )
  missing_always (Fork child) same finds =
      let t : CoreState = grown s a p far (Fork child) in
      let job : s.job a ≡ t.job a = sym (ap (λ (x : CoreState). x.job a) same) in
      let prepared : s.prepared a ≡ t.prepared a = sym (ap (λ (x : CoreState). x.prepared a) same) in
      let found = fork_found child (s.job a) (s.prepared a) refl refl same finds in (
        subst₂ (λ (j : Job) (o : Option ℕ). ForkWants (job_place j o)) job prepared found.0,
        subst₂ (λ (j : Job) (o : Option ℕ). fork_frame t child j o ≡ None) job prepared found.1,
      )
  missing_always op same finds = absurd (needs_either finds)

-- ---- the turn of an actor, from any state

-- the state in which an operation's own turn is taken, where its process is born
own_grown : (s : CoreState) (who : Doer) (far : ℕ) (op : Op) → birth_for s.birth who ≡ born → (as_own s who far op).state ≡ grown s who.actor who.proc far op
own_grown s who far op birth =
    let growth : List CoreEvent = grows_at s who.actor (grown_by s who.actor who.proc far op) in
    (as_own s who far op).grown ∙ ap (run s) (ap (unless_failed growth) birth ∙ unless_born growth)

-- what a turn finds, by the operation and what the actor waits for
abbrev FindsAt : CoreState → Doer → (far : ℕ) → Option Op → Option Waiting → Op → Type 0
FindsAt s who far present waiting op =
    (present ≡ Some op) × (waiting ≡ None) × (birth_for s.birth who ≡ born) × FindsNone s who.actor who.proc far op

finds_only : (s : CoreState) (who : Doer) (far : ℕ) (present : Option Op) (waiting : Option Waiting) → waiting_with s who far present ≡ waiting → LacksFrame (core_turn_by s who far present waiting).whats → (op : Op) × FindsAt s who far present waiting op
finds_only s who far None waiting is lacks = absurd (lacking ⊥ (Idle ∷ []) ((λ e. e), tt) lacks)
finds_only s who far (Some op) (Some waiting) is lacks = absurd (lacking ⊥ (Wait waiting ∷ []) ((λ e. e), tt) lacks)
finds_only s who far (Some op) None is lacks =
    let own = as_own s who far op in
    let births = waits_no_birth (birth_for s.birth who) who.proc (waits_born s who.actor who.proc far op) is in
    let looks = own_looks_only own.state who far op (subst (λ (x : CoreState). (birth_for x.birth who ≡ born) ⊎ (birth_for x.birth who ≡ failed)) (sym own.before) births) (subst LacksFrame own.whats lacks) in
    let birth : birth_for s.birth who ≡ born = subst (λ (x : CoreState). birth_for x.birth who ≡ born) own.before looks.0 in
    let at = own_grown s who far op birth in
    let finds = missing_only s who.actor who.proc far op (subst (IsButForTables s) at own.before)
    (subst (λ (x : CoreState). Wants x who.actor who.proc far op) at looks.1) (subst (λ (x : CoreState). turn_frame x who.actor who.proc op ≡ None) at looks.2) in
    (op, (refl, refl, birth, finds))

finds_always : (s : CoreState) (who : Doer) (far : ℕ) (present : Option Op) (waiting : Option Waiting) (op : Op) → FindsAt s who far present waiting op → LacksFrame (core_turn_by s who far present waiting).whats
finds_always s who far present waiting op finds =
    let own = as_own s who far op in
    let at = own_grown s who far op finds.2 in
    let looks = missing_always s who.actor who.proc far op (subst (IsButForTables s) at own.before) finds.3 in
    let lacks = own_looks_always own.state who far op (subst (λ (x : CoreState). birth_for x.birth who ≡ born) (sym own.before) finds.2)
    (subst (λ (x : CoreState). Wants x who.actor who.proc far op) (sym at) looks.0) (subst (λ (x : CoreState). turn_frame x who.actor who.proc op ≡ None) (sym at) looks.1) in
    let born_turn : LacksFrame (core_turn_by s who far (Some op) None).whats = subst LacksFrame (sym own.whats) lacks in
    let free : LacksFrame (core_turn_by s who far (Some op) waiting).whats = subst (λ (w : Option Waiting). LacksFrame (core_turn_by s who far (Some op) w).whats) (sym finds.1) born_turn in
    subst (λ (o : Option Op). LacksFrame (core_turn_by s who far o waiting).whats) (sym finds.0) free

-- the same of the process that its operation is of
finds_so : (script : ScriptValue) (r : RunState) (a : ℕ) (op : Op) → FindsAt r.core (doer_of script a (op_in script r a)) (r.places a).far (op_in script r a) (waiting_in script r a) op → IsNext script r a op × FindsNone r.core a (doer_of script a (Some op)).proc (r.places a).far op
finds_so script r a op finds =
    ((finds.0, finds.1, subst (λ (o : Option Op). birth_for r.core.birth (doer_of script a o) ≡ born) finds.0 finds.2), subst (λ (o : Option Op). FindsNone r.core a (doer_of script a o).proc (r.places a).far op) finds.0 finds.3)

finds_there : (script : ScriptValue) (r : RunState) (a : ℕ) (op : Op) → IsNext script r a op → FindsNone r.core a (doer_of script a (Some op)).proc (r.places a).far op → FindsAt r.core (doer_of script a (op_in script r a)) (r.places a).far (op_in script r a) (waiting_in script r a) op
finds_there script r a op next finds =
    (next.0, next.1, subst (λ (o : Option Op). birth_for r.core.birth (doer_of script a o) ≡ born) (sym next.0) next.2, subst (λ (o : Option Op). FindsNone r.core a (doer_of script a o).proc (r.places a).far op) (sym next.0) finds)

pub lacks_exactly : (script : ScriptValue) (r : RunState) (a : ℕ) → LacksExactly script r (turn_in script r a)
lacks_exactly script r a =
    let who : Doer = doer_of script a (op_in script r a) in
    let far : ℕ = (r.places a).far in (
      (λ lacks. let finds = finds_only r.core who far (op_in script r a) (waiting_in script r a) refl lacks in let so = finds_so script r a finds.0 finds.1 in (finds.0, so.0, so.1)),
      (λ finds. finds_always r.core who far (op_in script r a) (waiting_in script r a) finds.0 (finds_there script r a finds.0 finds.1 finds.2)),
    )
