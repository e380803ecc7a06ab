-- The turns of single operations can be done, have their shapes, and lead where the next turn can go on.
use Rattle.std.proofs.Common.{◌≡◌, ℕ, ◌+◌, ◌<◌, ◌≤◌, ◌^◌, ◌==◌, Bool, true, false, IsTrue, IsSome, is_some, is_none, not, if◌then◌else◌, List, [], ◌∷◌, ◌++◌, Option, Some, None, Ok, Err, inl, inr, refl, ap, sym, subst, ◌∙◌, eq-or-lt_of_le, zero, suc, arith}
use Rattle.gup_base.specs.declared.entry.Allowed.TheVariants.{Any}
use Rattle.std.proofs.lemmas.Bool.Decides.{nat_tests}
use Rattle.std.specs.Option.{option_map}
use Rattle.gup_base.specs.declared.entry.Entry.{Entry}
use Rattle.gup_base.specs.declared.entry.Rights.{Rights}
use Rattle.gup_base.specs.declared.entry.Rights.TheVariants.{R, RW}
use Rattle.gup_plain.specs.Put.{put, put2}
use Rattle.gup_plain.specs.State.{failed}
use Rattle.gup_plain.specs.Event.{page_numbers, words}
use Rattle.gup_plain.specs.declared.answer.Answer.{Answer}
use Rattle.gup_plain.specs.declared.answer.Answer.TheVariants as answers
use Rattle.gup_plain.specs.declared.event.PlainEvent.{PlainEvent}
use Rattle.gup_plain.specs.declared.event.PlainEvent.TheVariants as events
use Rattle.gup_plain.specs.declared.note.What.TheVariants.{Silent, Event, Done}
use Rattle.gup_plain.specs.Denial.{any_mapped, any_unmapped, map_denial, protect_denial, load_denial, store_denial}
use Rattle.gup_script.specs.Valid.{IsOp}
use Rattle.gup_script.specs.declared.op.Op.{Op}
use Rattle.gup_script.specs.declared.op.Op.TheVariants.{Map, Unmap, Protect, Discard, Load, Store, Exit}
use Rattle.gup_spec_events.specs.State.{CoreState, Taken as TakenPage, Job, idle, plain_of}
use Rattle.gup_spec_events.specs.Event.{CoreEvent, AreUnlocked, happens, entry_of, take_frame, fill, lower_entry, protect_pages, drop_entry, discard_entry, load, store, run}
use Rattle.gup_spec_events.specs.Fault.{Fault, read_fault, write_fault, gives_back}
use Rattle.gup_spec_events.specs.Invariant.{AllCan}
use Rattle.gup_law_events.specs.Law.{all_told}
use Rattle.gup_spec_journal.specs.Denial.{op_denial}
use Rattle.gup_spec_journal.specs.Place.{Place, Doer}
use Rattle.gup_spec_journal.specs.Follows.{refuses}
use Rattle.gup_spec_journal.specs.Plain.{IsAnswerOf, pages_got}
use Rattle.gup_spec_journal.specs.Thorough.{Passes}
use Rattle.gup_spec_turns.specs.JobPlace.{unbegun}
use Rattle.gup_spec_turns.specs.CoreTurn.{CoreTurn, answers_with, frame_for, allows_store, frame_in, done_if, silent_or_done}
use Rattle.gup_spec_turns.specs.PageTurns.{loads, load_turn, stores, lowers_entry, lowers, lowers_for, lowest_page, exit_turn_by}
use Rattle.gup_spec_turns.proofs.TurnParts.{loads_after, stores_after, store_fault_by, map_turn_by, unmap_turn_by, protect_turn_by, discard_turn_by}
use Rattle.gup_spec_turns.specs.Turn.{op_turn}
use Rattle.gup_spec_turns.specs.Waits.{waits_for_locks, locks_needed, both_if}
use Rattle.gup_law_turns.proofs.CalmStates.{Strand, of_pages, AreTurnEvents, putting, mapping, lowering, protecting, dropping, discarding, loading, storing}
use Rattle.gup_law_turns.proofs.FaultTurns.{IsReady, MayFault, may_fault, RefusesPage, missing, forbidden, no_frame, LeadsTo, write_leads, entry_there, writable_there, no_mirror, needs_none, filled}
use Rattle.gup_law_turns.proofs.KeptPages.{pages_leave}
use Rattle.gup_law_turns.proofs.Puts.{put_same, put2_same, some_same, none_of}
use Rattle.gup_law_turns.proofs.PageSearches.{frame_for_free, lowest_some, lowest_none, none_below, undenied_map, denied_map, undenied_protect, denied_protect}
use Rattle.gup_law_turns.proofs.TurnShapes.{references_of, AtFirst, FitsOp, TurnOf, refused, mapped, protected, loaded, stored, took, took_last, passed, passed_last, took_lowest, took_all, GoesOver, unmaps, discards, AtRest, unprepared, at_rest, IsDone, Rests, child_of, strand_of, IsAtOnce, IsAlwaysSlow}
use Rattle.gup_law_turns.proofs.EventLists.{events_of}
use Rattle.gup_law_turns.proofs.ShownTurns.{IsOpen, FitsNext, MakesPin, IsTurned, shape_idle, both_free, kinds_behind, told_behind}
use Rattle.gup_spec_events.proofs.Runs.{run_behind, can_behind}

-- where the range of an operation ends
all_below : (page n : ℕ) → page + n ≤ 2 ^ 35 → page + n ≤ page_numbers
unfolding page_numbers
all_below page n ends = ends

module _ (s : CoreState) (who : Doer) (place : Place) (h : IsOpen s who.actor who.proc) (rests : Rests s who.actor) where
  abbrev a : ℕ
  a = who.actor

  abbrev p : ℕ
  p = who.proc

  job : s.job a ≡ idle
  job = rests.0

  may : MayFault s a p
  may = may_fault s a p h job

  -- an operation brings no child, is about pages alone, and makes no pin
  abbrev IsOfPages : Op → CoreState → Type 0
  IsOfPages op t = (child_of p (Some op) ≡ p) × (strand_of (Some op) ≡ of_pages) × MakesPin s t a op

  -- what is asked of the next turn of an operation that is answered here
  done_turn : (op : Op) (turn : CoreTurn) → IsDone s a p p of_pages turn → IsOfPages op (run s turn.events) → (run s turn.events).job a ≡ idle → TurnOf (plain_of s) (references_of s) who place op unbegun turn.whats unbegun → (Rests (run s turn.events) a → FitsNext (run s turn.events) who (Some op) place turn.whats) → IsTurned s who place op turn
  done_turn op turn done alone behind shape next =
      let left = pages_leave s a p p turn.events done.kinds in
      record {
        done = subst (λ (c : ℕ). IsDone s a p c (strand_of (Some op)) turn) (sym alone.0) (subst (λ (x : Strand). IsDone s a p p x turn) (sym alone.1) done);
        shape = shape_idle s (run s turn.events) who place op turn.whats job behind shape;
        next = next (behind, ap (λ (f : ℕ → List TakenPage). f a) left.taken ∙ rests.1);
        pin = alone.2;
      }

  -- an operation is answered without an event
  answered : (op : Op) (answer : Answer) → IsOfPages op s → AtFirst place → IsTrue (refuses op answer) → IsAtOnce op answer → IsAlwaysSlow op → IsAnswerOf (op_denial (plain_of s) (references_of s) who (pages_got (plain_of s) who.actor) op) answer → Passes (plain_of s) p op place.far → IsTurned s who place op (answers_with answer)
  answered op answer alone first refusal at_once slow right passes =
      done_turn op (answers_with answer) (record { kinds = tt; can = tt; rest = h.rest; told = refl }) alone job
      (refused op answer first refusal at_once slow right passes) (λ still. still)

  -- an entry of a born process is of a mapped page, and a writable one of a page that may be written

  pub named_load : (page : ℕ) (e : Entry) → s.entry p page ≡ Some e → (rights : Option Rights) → s.right p page ≡ rights → load_denial rights ≡ None
  named_load page e is None right =
      let lost : s.birth p ≡ failed = h.sound.1.entry_mapped p page e (h.sound.1.whole_entry p page e is) right in
      absurd (let lives = h.birth in cc)
  named_load page e is (Some rights) right = refl

  named_store : (page : ℕ) (e : Entry) → s.entry p page ≡ Some e → e.writable ≡ true → (rights : Option Rights) → s.right p page ≡ rights → store_denial rights ≡ None
  named_store page e is may None right =
      let lost : s.birth p ≡ failed = h.sound.1.entry_mapped p page e (h.sound.1.whole_entry p page e is) right in
      absurd (let lives = h.birth in cc)
  named_store page e is may (Some R) right = absurd (h.sound.1.entry_allowed p page e (h.sound.1.whole_entry p page e is) may right)
  named_store page e is may (Some RW) right = refl

  -- load, after the events of a fault

  load_ready : (page word : ℕ) (before : List CoreEvent) → word < words → AtFirst place → op_denial (plain_of s) (references_of s) who (pages_got (plain_of s) who.actor) (Load page word) ≡ None → IsReady s a p before → IsSome ((run s before).entry p page) → IsTurned s who place (Load page word) (loads s before a p page word)
  load_ready page word before within first undenied ready there =
      let t : CoreState = run s before in
      let f : ℕ = frame_in (t.entry p page) in
      let last = load a p page word f (t.word f word) ∷ [] in
      let same : run s (before ++ last) ≡ t = run_behind s before last in
      done_turn (Load page word) (loads s before a p page word)
      (record {
        kinds = kinds_behind a p p of_pages before last (ready.kinds of_pages) (loading page word f (t.word f word), tt);
        can = can_behind s before last ready.can ((ready.birth, (allows_store (t.entry p page), entry_there (t.entry p page) there), within, refl), tt);
        rest = subst (λ (u : CoreState). AtRest u a) (sym same) ready.rest;
        told = told_behind before last ready.told;
      })
      (refl, refl, tt) (ap (λ (u : CoreState). u.job a) same ∙ ready.job)
      (loaded page word (t.word f word) first undenied)
      (λ still. still)

  load_fills : (page word : ℕ) (rights : Option Rights) (free : Option ℕ) → AreUnlocked s p → word < words → AtFirst place → s.right p page ≡ rights → frame_for s p page Any ≡ free → s.entry p page ≡ None → IsTurned s who place (Load page word) (loads_after s (read_fault a p page rights None free) a p page word)
  load_fills page word None free unlocked within first is found none = answered (Load page word) answers.Missing (refl, refl, tt) first refl tt tt (rw is refl) tt
  load_fills page word (Some rights) None unlocked within first is found none = answered (Load page word) answers.NoFrame (refl, refl, tt) first refl tt tt (rw is refl) tt
  load_fills page word (Some rights) (Some f) unlocked within first is found none =
      let before = take_frame a f ∷ fill a p page f ∷ [] in
      load_ready page word before within first (rw is refl) (filled s a p may unlocked page (frame_for s p page Any) (frame_for_free s p page Any) f found (rw is refl) none)
      (rw (put2_same p page (Some (entry_of f false)) s.entry) refl)

  load_by : (page word : ℕ) (entry : Option Entry) → waits_for_locks (both_if (is_none entry)) a (s.structure p) (s.table p) ≡ None → word < words → AtFirst place → s.entry p page ≡ entry → IsTurned s who place (Load page word) (load_turn s a p page word entry)
  load_by page word (Some e) free within first is =
      load_ready page word [] within first (named_load page e is (s.right p page) refl) (needs_none s a p may) (rw is refl)
  load_by page word None free within first is =
      load_fills page word (s.right p page) (frame_for s p page Any) (both_free s a p h.sound job free) within first refl refl is

  -- store, after the events of a fault

  store_ready : (page word value : ℕ) (before : List CoreEvent) → word < words → AtFirst place → op_denial (plain_of s) (references_of s) who (pages_got (plain_of s) who.actor) (Store page word value) ≡ None → IsReady s a p before → allows_store ((run s before).entry p page) ≡ true → IsTurned s who place (Store page word value) (stores s before a p page word value)
  store_ready page word value before within first undenied ready may =
      let t : CoreState = run s before in
      let f : ℕ = frame_in (t.entry p page) in
      let last = store a p page word f value ∷ [] in
      let same : run s (before ++ last) ≡ happens t (store a p page word f value) = run_behind s before last in
      done_turn (Store page word value) (stores s before a p page word value)
      (record {
        kinds = kinds_behind a p p of_pages before last (ready.kinds of_pages) (storing page word f value, tt);
        can = can_behind s before last ready.can ((ready.birth, writable_there (t.entry p page) may, within), tt);
        rest = subst (λ (u : CoreState). AtRest u a) (sym same) (record { prepared = ready.rest.prepared; owed = ready.rest.owed });
        told = told_behind before last ready.told;
      })
      (refl, refl, tt) (ap (λ (u : CoreState). u.job a) same ∙ ready.job)
      (stored page word value first undenied)
      (λ still. still)

  -- by what the fault comes to
  refused_store : (page word value : ℕ) {answer : Answer} → RefusesPage answer → IsTrue (refuses (Store page word value) answer)
  refused_store page word value missing = refl
  refused_store page word value forbidden = refl
  refused_store page word value no_frame = refl

  store_leads : (page word value : ℕ) (fault : Fault) → word < words → AtFirst place → LeadsTo s a p page true (store_denial (s.right p page)) fault → IsTurned s who place (Store page word value) (stores_after s fault a p page word value)
  store_leads page word value (Err answer) within first to =
      answered (Store page word value) answer (refl, refl, tt) first (refused_store page word value to.0) tt tt to.1 tt
  store_leads page word value (Ok before) within first to =
      store_ready page word value before within first to.0 to.1 (ap allows_store to.2.there ∙ to.2.may refl)

  store_by : (page word value : ℕ) (entry : Option Entry) (allowed : Bool) → waits_for_locks (both_if (not allowed)) a (s.structure p) (s.table p) ≡ None → word < words → AtFirst place → s.entry p page ≡ entry → allows_store entry ≡ allowed → IsTurned s who place (Store page word value) (stores_after s (store_fault_by allowed s a p page entry) a p page word value)
  store_by page word value None true free within first here allowed = absurd (cc allowed)
  store_by page word value (Some e) true free within first here allowed =
      store_ready page word value [] within first (named_store page e here allowed (s.right p page) refl) (needs_none s a p may)
      (rw here allowed)
  store_by page word value entry false free within first here barred =
      store_leads page word value (write_fault a p page (s.right p page) entry s.mark s.count (frame_for s p page Any)) within first
      (write_leads s a p may (both_free s a p h.sound job free) page (frame_for s p page Any) (frame_for_free s p page Any) (s.right p page) entry refl here)

  -- The other operations need both locks, which are free.
  module _ (unlocked : AreUnlocked s p) where
    -- map

    map_by : (page n : ℕ) (rights : Rights) (denied : Option Answer) → AtFirst place → IsOp (Map page n rights) → map_denial (any_mapped (s.right p) page n) (s.pages p) n ≡ denied → IsTurned s who place (Map page n rights) (map_turn_by denied a p page n rights)
    map_by page n rights (Some answer) first fits is =
        answered (Map page n rights) answer (refl, refl, tt) first (denied_map page n rights (any_mapped (s.right p) page n) (s.pages p) answer is) tt tt (rw is refl) tt
    map_by page n rights None first fits is =
        let free = undenied_map (any_mapped (s.right p) page n) (s.pages p) n is in
        let unmapped = none_below n (λ k. is_some (s.right p (page + k))) free.0 in
        done_turn (Map page n rights) (map_turn_by None a p page n rights)
        (record {
          kinds = (mapping page n rights, tt);
          can = ((h.birth, unlocked, all_below page n fits.2, (λ k below. none_of (s.right p (page + k)) (unmapped k below)), free.1), tt);
          rest = record { prepared = h.rest.prepared; owed = h.rest.owed };
          told = refl;
        })
        (refl, refl, tt) job (mapped page n rights first is) (λ still. still)

    -- protect

    -- a turn can be done, and the actor is in the middle of nothing after it
    abbrev IsDoneIdle : CoreState → CoreTurn → Type 0
    IsDoneIdle t turn = IsDone t a p p of_pages turn × ((run t turn.events).job a ≡ idle)

    -- the state with these entries in place of its own
    abbrev with_entries : (ℕ → ℕ → Option Entry) → CoreState
    with_entries entries = record s { entry = entries }

    -- a protection after these events
    abbrev protects : (page n : ℕ) → Rights → List CoreEvent → CoreTurn
    protects page n rights before =
        record {
          events = before ++ protect_pages a p page n rights ∷ [];
          whats = Event (events.Protect a p page n rights) ∷ Done answers.Plain ∷ [];
        }

    -- where each writable entry of the range has a page that may be written afterwards
    protect_last : (entries : ℕ → ℕ → Option Entry) (page n : ℕ) (rights : Rights) → ((k : ℕ) → k < n → IsSome (s.right p (page + k))) → ((k : ℕ) (e : Entry) → k < n → entries p (page + k) ≡ Some e → e.writable ≡ true → rights ≡ RW) → IsDoneIdle (with_entries entries) (protects page n rights [])
    protect_last entries page n rights named allowed = (
      record {
        kinds = (protecting page n rights, tt);
        can = ((h.birth, unlocked, named, allowed, (λ k less. no_mirror s a p may (page + k))), tt);
        rest = record { prepared = h.rest.prepared; owed = h.rest.owed };
        told = refl;
      },
      job,
    )

    -- one entry more is lowered in front
    lower_one : (entries : ℕ → ℕ → Option Entry) (page n g f : ℕ) (before : List CoreEvent) → entries p g ≡ Some (entry_of f true) → IsDoneIdle (with_entries (put2 p g (Some (entry_of f false)) entries)) (protects page n R before) → IsDoneIdle (with_entries entries) (protects page n R (lower_entry a p g f ∷ before))
    lower_one entries page n g f before is done =
        (record { kinds = (lowering g f, done.0.kinds); can = ((h.birth, unlocked, is, no_mirror s a p may g), done.0.can); rest = done.0.rest; told = done.0.told }, done.1)

    -- no entry of the pages from this one up to g is writable; from g on they are those of the state
    abbrev AreLowered : (ℕ → ℕ → Option Entry) → (page g : ℕ) → Type 0
    AreLowered entries page g = (k : ℕ) (e : Entry) → page ≤ k → k < g → entries p k ≡ Some e → e.writable ≡ false

    abbrev AreUnchanged : (ℕ → ℕ → Option Entry) → (g : ℕ) → Type 0
    AreUnchanged entries g = (k : ℕ) → g ≤ k → entries p k ≡ s.entry p k

    -- what is done after page g with any entries that are lowered up to there
    abbrev IsDoneBehind : (page n g : ℕ) → List CoreEvent → Type 0
    IsDoneBehind page n g before =
        (entries : ℕ → ℕ → Option Entry) → AreLowered entries page (g + 1) → AreUnchanged entries (g + 1) → IsDoneIdle (with_entries entries) (protects page n R before)

    lowered_on : (entries : ℕ → ℕ → Option Entry) (page g : ℕ) → AreLowered entries page g → ((e : Entry) → entries p g ≡ Some e → e.writable ≡ false) → AreLowered entries page (g + 1)
    lowered_on entries page g lowered here k e least less is =
        let near : k ≤ g = omega arith in
        elim (eq-or-lt_of_le near) [ inl same ↦ here e (ap (entries p) (sym same) ∙ is) | inr below ↦ lowered k e least below is ]

    -- one page: its entry is writable, or not, or there is none
    lower_by : (entries : ℕ → ℕ → Option Entry) (page n g : ℕ) (before : List CoreEvent) (e : Entry) (writable : Bool) → s.entry p g ≡ Some e → e.writable ≡ writable → AreLowered entries page g → AreUnchanged entries g → IsDoneBehind page n g before → IsDoneIdle (with_entries entries) (protects page n R ((if writable then lower_entry a p g e.frame ∷ [] else []) ++ before))
    lower_by entries page n g before e true is may lowered same later =
        let there : entries p g ≡ Some (entry_of e.frame true) = same g (omega arith) ∙ is ∙ ap (λ (b : Bool). Some (entry_of e.frame b)) may in
        let behind = put2 p g (Some (entry_of e.frame false)) entries in
        let put_lowered : AreLowered behind page (g + 1) = λ k d. grind (arith, nat_tests, lowered k d) in
        let put_unchanged : AreUnchanged behind (g + 1) = λ k. grind (arith, nat_tests, same k) in
        lower_one entries page n g e.frame before there (later behind put_lowered put_unchanged)
    lower_by entries page n g before e false is may lowered same later =
        later entries
        (lowered_on entries page g lowered (λ d there. let entry : Some d ≡ Some e = sym there ∙ same g (omega arith) ∙ is in ap (λ (x : Entry). x.writable) (some_same entry) ∙ may))
        (λ k least. same k (omega arith))

    lower_page : (entries : ℕ → ℕ → Option Entry) (page n g : ℕ) (before : List CoreEvent) (entry : Option Entry) → s.entry p g ≡ entry → AreLowered entries page g → AreUnchanged entries g → IsDoneBehind page n g before → IsDoneIdle (with_entries entries) (protects page n R (lowers_entry a p g entry ++ before))
    lower_page entries page n g before None is lowered same later =
        later entries
        (lowered_on entries page g lowered (λ d there. absurd (let entry : Some d ≡ None = sym there ∙ same g (omega arith) ∙ is in cc entry)))
        (λ k least. same k (omega arith))
    lower_page entries page n g before (Some e) is lowered same later = lower_by entries page n g before e e.writable is refl lowered same later

    -- the j pages of the range from g on
    lower_pages : (page n g j : ℕ) → ((k : ℕ) → k < n → IsSome (s.right p (page + k))) → g + j ≡ page + n → (entries : ℕ → ℕ → Option Entry) → AreLowered entries page g → AreUnchanged entries g → IsDoneIdle (with_entries entries) (protects page n R (lowers (s.entry p) a p g j))
    lower_pages page n g zero named ends entries lowered same =
        protect_last entries page n R named (λ k e less is may. absurd (let barred = lowered (page + k) e (omega arith) (omega arith) is in cc (sym may ∙ barred)))
    lower_pages page n g (suc j) named ends entries lowered same =
        lower_page entries page n g (lowers (s.entry p) a p (g + 1) j) (s.entry p g) refl lowered same (lower_pages page n (g + 1) j named (omega arith))

    protect_done : (page n : ℕ) (rights : Rights) → ((k : ℕ) → k < n → IsSome (s.right p (page + k))) → IsDoneIdle s (protects page n rights (lowers_for rights (s.entry p) a p page n))
    protect_done page n R named = lower_pages page n page n named refl s.entry (λ k e least less. absurd (omega arith)) (λ k least. refl)
    protect_done page n RW named = protect_last s.entry page n RW named (λ k e less is may. refl)

    protect_by : (page n : ℕ) (rights : Rights) (denied : Option Answer) → AtFirst place → protect_denial (any_unmapped (s.right p) page n) ≡ denied → IsTurned s who place (Protect page n rights) (protect_turn_by denied s a p page n rights)
    protect_by page n rights (Some answer) first is =
        answered (Protect page n rights) answer (refl, refl, tt) first (denied_protect page n rights (any_unmapped (s.right p) page n) answer is) tt tt (rw is refl) tt
    protect_by page n rights None first is =
        let done = protect_done page n rights (undenied_protect (s.right p) page n is) in
        done_turn (Protect page n rights) (protect_turn_by None s a p page n rights) done.0 (refl, refl, tt) done.1 (protected page n rights first is) (λ still. still)

    -- unmap, discard and exit

    -- the reference of the entry that an event took out is given back
    given_back : (t : CoreState) (entry : Option Entry) → t.prepared ≡ s.prepared → t.owed ≡ put a (option_map (λ (e : Entry). e.frame) entry) s.owed → AllCan t (gives_back a entry) × AtRest (run t (gives_back a entry)) a × ((run t (gives_back a entry)).job ≡ t.job)
    given_back t None prepared owed = (
      tt,
      at_rest t a (ap (λ (f : ℕ → Option ℕ). f a) prepared ∙ unprepared s a h.rest job) (ap (λ (f : ℕ → Option ℕ). f a) owed ∙ put_same a None s.owed),
      refl,
    )
    given_back t (Some e) prepared owed = (
      (ap (λ (f : ℕ → Option ℕ). f a) owed ∙ put_same a (Some e.frame) s.owed, tt),
      at_rest (run t (gives_back a (Some e))) a (ap (λ (f : ℕ → Option ℕ). f a) prepared ∙ unprepared s a h.rest job) (put_same a None t.owed),
      refl,
    )

    gives_events : (entry : Option Entry) → AreTurnEvents a p p of_pages (gives_back a entry)
    gives_events None = tt
    gives_events (Some e) = (putting e.frame, tt)

    -- neither what is given back nor the answer tells an event
    tells_alone : (e : PlainEvent) (entry : Option Entry) (last : Bool) → e ∷ all_told (gives_back a entry) ≡ e ∷ events_of (done_if last)
    tells_alone e None true = refl
    tells_alone e None false = refl
    tells_alone e (Some d) true = refl
    tells_alone e (Some d) false = refl

    -- a page that an event takes down, or whose contents it discards
    abbrev takes : CoreEvent → PlainEvent → Option Entry → (last : Bool) → CoreTurn
    takes first e entry last = record { events = first ∷ gives_back a entry; whats = Event e ∷ done_if last }

    unmap_done : (page : ℕ) (entry : Option Entry) (last : Bool) → IsSome (s.right p page) → s.entry p page ≡ entry → IsDoneIdle s (takes (drop_entry a p page entry) (events.Unmap a p page) entry last)
    unmap_done page entry last named here =
        let back = given_back (happens s (drop_entry a p page entry)) entry refl refl in (
          record {
            kinds = (dropping page entry, gives_events entry);
            can = ((h.birth, unlocked, job, named, here, h.rest.owed, no_mirror s a p may page), back.0);
            rest = back.1;
            told = tells_alone (events.Unmap a p page) entry last;
          },
          ap (λ (f : ℕ → Job). f a) back.2 ∙ job,
        )

    discard_done : (page : ℕ) (entry : Option Entry) (last : Bool) → IsSome (s.right p page) → s.entry p page ≡ entry → IsDoneIdle s (takes (discard_entry a p page entry) (events.Discard a p page) entry last)
    discard_done page entry last named here =
        let back = given_back (happens s (discard_entry a p page entry)) entry refl refl in (
          record {
            kinds = (discarding page entry, gives_events entry);
            can = ((h.birth, unlocked, job, named, here, h.rest.owed, no_mirror s a p may page), back.0);
            rest = back.1;
            told = tells_alone (events.Discard a p page) entry last;
          },
          ap (λ (f : ℕ → Job). f a) back.2 ∙ job,
        )

    -- an operation that goes over n pages is of pages alone, and stands at one of them
    over_alone : {op : Op} {page n : ℕ} {event : ℕ → PlainEvent} → GoesOver a p op page n event → (t : CoreState) → IsOfPages op t
    over_alone (unmaps page n) t = (refl, refl, tt)
    over_alone (discards page n) t = (refl, refl, tt)

    over_fits : {op : Op} {page n : ℕ} {event : ℕ → PlainEvent} → GoesOver a p op page n event → (t : CoreState) (next : Place) → next.far < n → Rests t a → FitsOp t who op next
    over_fits (unmaps page n) t next far still = (still, far)
    over_fits (discards page n) t next far still = (still, far)

    -- a turn of an operation that goes over pages: the page has its event, or is passed
    takes_page : (op : Op) (page n : ℕ) (event : ℕ → PlainEvent) (es : List CoreEvent) (last : Bool) → GoesOver a p op page n event → place.far < n → (place.far + 1 == n) ≡ last → IsDoneIdle s (record { events = es; whats = Event (event (page + place.far)) ∷ done_if last }) → IsTurned s who place op (record { events = es; whats = Event (event (page + place.far)) ∷ done_if last })
    takes_page op page n event es true over far test done =
        done_turn op (record { events = es; whats = Event (event (page + place.far)) ∷ Done answers.Plain ∷ [] }) done.0 (over_alone over (run s es)) done.1
        (took_last op page n event over (grind (arith, nat_tests))) (λ still. still)
    takes_page op page n event es false over far test done =
        let more : place.far + 1 < n = grind (arith, nat_tests) in
        done_turn op (record { events = es; whats = Event (event (page + place.far)) ∷ [] }) done.0 (over_alone over (run s es)) done.1
        (took op page n event over more) (over_fits over (run s es) (record place { far = place.far + 1; had = true }) more)

    passes_page : (op : Op) (page n : ℕ) (event : ℕ → PlainEvent) (last : Bool) → GoesOver a p op page n event → place.far < n → (place.far + 1 == n) ≡ last → s.right p (page + place.far) ≡ None → IsTurned s who place op (record { events = []; whats = silent_or_done last })
    passes_page op page n event true over far test none =
        done_turn op (record { events = []; whats = Done answers.Plain ∷ [] }) (record { kinds = tt; can = tt; rest = h.rest; told = refl }) (over_alone over s) job
        (passed_last op page n event over (grind (arith, nat_tests)) none) (λ still. still)
    passes_page op page n event false over far test none =
        let more : place.far + 1 < n = grind (arith, nat_tests) in
        done_turn op (record { events = []; whats = Silent ∷ [] }) (record { kinds = tt; can = tt; rest = h.rest; told = refl }) (over_alone over s) job
        (passed op page n event over more none) (over_fits over s (record place { far = place.far + 1 }) more)

    unmap_by : (page n : ℕ) (rights : Option Rights) (entry : Option Entry) (last : Bool) → place.far < n → (place.far + 1 == n) ≡ last → s.right p (page + place.far) ≡ rights → s.entry p (page + place.far) ≡ entry → IsTurned s who place (Unmap page n) (unmap_turn_by rights a p (page + place.far) entry last)
    unmap_by page n None entry last far test is here = passes_page (Unmap page n) page n (events.Unmap a p) last (unmaps page n) far test is
    unmap_by page n (Some rights) entry last far test is here =
        takes_page (Unmap page n) page n (events.Unmap a p) (drop_entry a p (page + place.far) entry ∷ gives_back a entry) last (unmaps page n) far test
        (unmap_done (page + place.far) entry last (rw is refl) here)

    discard_by : (page n : ℕ) (rights : Option Rights) (entry : Option Entry) (last : Bool) → place.far < n → (place.far + 1 == n) ≡ last → s.right p (page + place.far) ≡ rights → s.entry p (page + place.far) ≡ entry → IsTurned s who place (Discard page n) (discard_turn_by rights a p (page + place.far) entry last)
    discard_by page n None entry last far test is here = passes_page (Discard page n) page n (events.Discard a p) last (discards page n) far test is
    discard_by page n (Some rights) entry last far test is here =
        takes_page (Discard page n) page n (events.Discard a p) (discard_entry a p (page + place.far) entry ∷ gives_back a entry) last (discards page n) far test
        (discard_done (page + place.far) entry last (rw is refl) here)

    -- where no page is found, none is mapped
    none_mapped : lowest_page (s.right p) ≡ None → (g : ℕ) (rights : Option Rights) → s.right p g ≡ rights → s.right p g ≡ None
    none_mapped is g None there = there
    none_mapped is g (Some rights) there =
        let below = h.sound.1.right_numbered p g rights there in
        none_of (s.right p g) (lowest_none 0 page_numbers (λ page. is_some (s.right p page)) is g (omega arith) (omega arith))

    exit_by : (found : Option ℕ) → lowest_page (s.right p) ≡ found → IsTurned s who place Exit (exit_turn_by s a p found)
    exit_by None is =
        done_turn Exit (answers_with answers.Plain) (record { kinds = tt; can = tt; rest = h.rest; told = refl }) (refl, refl, tt) job
        (took_all (λ g. none_mapped is g (s.right p g) refl)) (λ still. still)
    exit_by (Some page) is =
        let found = lowest_some 0 page_numbers page (λ g. is_some (s.right p g)) is in
        let done = unmap_done page (s.entry p page) false found.passes refl in
        done_turn Exit (exit_turn_by s a p (Some page)) done.0 (refl, refl, tt) done.1
        (took_lowest page (λ g less. none_of (s.right p g) (found.others g (omega arith) less))) (λ still. still)

-- every operation but a fork
module _ (s : CoreState) (who : Doer) (place : Place) (h : IsOpen s who.actor who.proc) where
  -- the actor waits for none of the locks that this operation needs
  abbrev IsFree : Op → Type 0
  IsFree op = waits_for_locks (locks_needed s who.actor who.proc place.far op) who.actor (s.structure who.proc) (s.table who.proc) ≡ None

  pub map_turned : (page n : ℕ) (rights : Rights) → IsOp (Map page n rights) → FitsOp s who (Map page n rights) place → IsFree (Map page n rights) → IsTurned s who place (Map page n rights) (op_turn s who.actor who.proc who.slots place.far (Map page n rights))
  map_turned page n rights range fits free = map_by s who place h fits.0 (both_free s who.actor who.proc h.sound fits.0.0 free) page n rights (map_denial (any_mapped (s.right who.proc) page n) (s.pages who.proc) n) fits.1 range refl

  pub unmap_turned : (page n : ℕ) → FitsOp s who (Unmap page n) place → IsFree (Unmap page n) → IsTurned s who place (Unmap page n) (op_turn s who.actor who.proc who.slots place.far (Unmap page n))
  unmap_turned page n fits free = unmap_by s who place h fits.0 (both_free s who.actor who.proc h.sound fits.0.0 free) page n (s.right who.proc (page + place.far)) (s.entry who.proc (page + place.far)) (place.far + 1 == n) fits.1 refl refl refl

  pub load_turned : (page word : ℕ) → IsOp (Load page word) → FitsOp s who (Load page word) place → IsFree (Load page word) → IsTurned s who place (Load page word) (op_turn s who.actor who.proc who.slots place.far (Load page word))
  load_turned page word range fits free = load_by s who place h fits.0 page word (s.entry who.proc page) free range.1 fits.1 refl

  pub store_turned : (page word value : ℕ) → IsOp (Store page word value) → FitsOp s who (Store page word value) place → IsFree (Store page word value) → IsTurned s who place (Store page word value) (op_turn s who.actor who.proc who.slots place.far (Store page word value))
  store_turned page word value range fits free = store_by s who place h fits.0 page word value (s.entry who.proc page) (allows_store (s.entry who.proc page)) free range.1 fits.1 refl refl

  pub protect_turned : (page n : ℕ) (rights : Rights) → FitsOp s who (Protect page n rights) place → IsFree (Protect page n rights) → IsTurned s who place (Protect page n rights) (op_turn s who.actor who.proc who.slots place.far (Protect page n rights))
  protect_turned page n rights fits free = protect_by s who place h fits.0 (both_free s who.actor who.proc h.sound fits.0.0 free) page n rights (protect_denial (any_unmapped (s.right who.proc) page n)) fits.1 refl

  pub discard_turned : (page n : ℕ) → FitsOp s who (Discard page n) place → IsFree (Discard page n) → IsTurned s who place (Discard page n) (op_turn s who.actor who.proc who.slots place.far (Discard page n))
  discard_turned page n fits free = discard_by s who place h fits.0 (both_free s who.actor who.proc h.sound fits.0.0 free) page n (s.right who.proc (page + place.far)) (s.entry who.proc (page + place.far)) (place.far + 1 == n) fits.1 refl refl refl

  pub exit_turned : FitsOp s who Exit place → IsFree Exit → IsTurned s who place Exit (op_turn s who.actor who.proc who.slots place.far Exit)
  exit_turned fits free = exit_by s who place h fits (both_free s who.actor who.proc h.sound fits.0 free) (lowest_page (s.right who.proc)) refl
