-- What the events of a turn leave as it is.
use Rattle.std.proofs.Common.{◌≡◌, ℕ, ◌<◌, ◌==◌, ◌⊎◌, inl, inr, Bool, true, false, if◌then◌else◌, List, [], ◌∷◌, ◌++◌, Option, Some, None, refl, sym, ap, subst, ◌∙◌, eqb-true, arith}
use Rattle.gup_spec_tables.specs.declared.place.Place.{Place}
use Rattle.gup_spec_tables.specs.Tables.{on_path, lacks}
use Rattle.std.proofs.lemmas.Bool.Decides.{nat_tests}
use Rattle.gup_base.specs.declared.entry.Allowed.{Allowed}
use Rattle.gup_base.specs.declared.entry.Entry.{Entry}
use Rattle.gup_base.specs.declared.entry.Rights.{Rights}
use Rattle.gup_plain.specs.Event.{IsHeldBy, IsGivenTo, given_to, held_by, words}
use Rattle.gup_plain.specs.Put.{put, put2}
use Rattle.gup_plain.specs.State.{Birth, unborn, growing, born, failed, Handle, unmade, held, gone}
use Rattle.gup_script.specs.Limits.{most_mirrors}
use Rattle.gup_spec_events.specs.State.{CoreState, Taken, marking, moving, Counted, one, forking, ForkStep, between, counted, lowered, cleared, copying, failing}
use Rattle.gup_spec_events.specs.Event.{CoreEvent, Can, MayFail, tree_in, happens, put_child, fail_fork, raise_flag, pin_page, make_handle, unpin_page, give_handle, take_handle, taken_frames, objects_taken, writes_taken, run, recheck_same, drop_last, drop_first}
use Rattle.gup_spec_events.specs.Invariant.{AllCan}
use Rattle.gup_law_base.specs.Sound.{IsSound, Forking, forking_of, birth_of_child, is_failing, moving_of, marking_of, step_page}
use Rattle.gup_law_turns.proofs.CalmStates.{IsCalm, Strand, adding, taking_table, of_pin, of_handle, of_get, of_put, of_mirror, emptying_slot, filling_slot, getting, putting_back, IsTurnEvent, AreTurnEvents, raising, pinning, making, handling, IsHandleEvent, AreHandleEvents, unpinning, giving, taking_over, beginning, ending, failing_at, putting_child, failing_unborn, marking_it, clearing, placing_frame, restoring, sharing_entry, sharing_child, placing, MayMove, finding_same, dropping_last, dropping_first, emptying_slot}
use Rattle.gup_law_turns.proofs.Puts.{put_same, put_other, some_same}
use Rattle.gup_law_turns.proofs.EventLists.{Law}

-- what is of one process
pub record OfProcess : Type 0 where
  pub right : ℕ → Option Rights
  pub entry : ℕ → Option Entry
  pub birth : Birth
  pub structure : Option ℕ
  pub table : Option ℕ
  pub place : ℕ → Option Place

abbrev pub of_process : CoreState → ℕ → OfProcess
of_process s q =
    record { right = s.right q; entry = s.entry q; birth = s.birth q; structure = s.structure q; table = s.table q; place = s.place q }

-- Another process stays, all births but the child's stay, and so do the jobs of other actors, and what they have prepared
-- and owe.
pub record Leaves (a p c : ℕ) (s t : CoreState) : Type 0 where
  pub process : (q : ℕ) → (q == p) ≡ false → (q == c) ≡ false → of_process t q ≡ of_process s q
  pub birth : (q : ℕ) → (q == c) ≡ false → t.birth q ≡ s.birth q
  pub job : (b : ℕ) → (b == a) ≡ false → t.job b ≡ s.job b
  pub prepared : (b : ℕ) → (b == a) ≡ false → t.prepared b ≡ s.prepared b
  pub owed : (b : ℕ) → (b == a) ≡ false → t.owed b ≡ s.owed b

-- the rights and entries of the process stay, and its table lock; and nobody begins a fork of it
pub record KeepsPages (p : ℕ) (s t : CoreState) : Type 0 where
  pub right : t.right p ≡ s.right p
  pub entry : t.entry p ≡ s.entry p
  pub table : t.table p ≡ s.table p
  pub unforked : s.structure p ≡ None → t.structure p ≡ None

-- a value that isn't the changed number's stays
put_kept : {X : Type 0} (c q : ℕ) (x : X) (f : ℕ → X) (y : X) → (q ≡ c → ⊥) → f q ≡ y → put c x f q ≡ y
put_kept c q x f y other is = go (q == c) refl
  where
    go : (t : Bool) → (q == c) ≡ t → (if t then x else f q) ≡ y
    go true same = absurd (other (eqb-true q c same))
    go false apart = is

-- nor do the entries of another process
put2_apart : {X : Type 0} (c q page : ℕ) (x : X) (f : ℕ → ℕ → X) → (q ≡ c → ⊥) → put2 c page x f q ≡ f q
put2_apart c q page x f other = go (q == c) refl
  where
    go : (t : Bool) → (q == c) ≡ t → (if t then put page x (f q) else f q) ≡ f q
    go true same = absurd (other (eqb-true q c same))
    go false apart = refl

-- the child of a fork is not born before its end
child_unborn : (p : ℕ) (failing : Bool) → (if failing then failed else growing p) ≡ born → ⊥
child_unborn p true e = cc e
child_unborn p false e = cc e

-- the operation fills no mirror slot
abbrev pub FillsNone : Strand → Type 0
FillsNone strand = (m : ℕ) → strand ≡ of_mirror m → ⊥

module _ (s : CoreState) (a p c : ℕ) (strand : Strand) where
  abbrev with_place : (q : ℕ) → (ℕ → Option Place) → OfProcess
  with_place q place = record (of_process s q) { place = place }

  leaves_handle : {e : CoreEvent} (h : ℕ) → IsHandleEvent a h e → Leaves a p c s (happens s e)
  leaves_handle h (unpinning f left) = record { process = λ q other child. refl; birth = λ q child. refl; job = λ b other. refl; prepared = λ b other. refl; owed = λ b other. refl }
  leaves_handle h event = record { process = λ q other child. refl; birth = λ q child. refl; job = λ b other. refl; prepared = λ b other. refl; owed = λ b other. refl }

  -- a table of the process or of the child is of no other
  tables_apart : (q k table : ℕ) (at : Option Place) → (k ≡ p) ⊎ (k ≡ c) → (q == p) ≡ false → (q == c) ≡ false → put2 k table at s.place q ≡ s.place q
  tables_apart q k table at own other child = put2_apart k q table at s.place (away own)
    where
      away : (k ≡ p) ⊎ (k ≡ c) → q ≡ k → ⊥
      away (inl is) same = grind (arith, nat_tests, is, same, other)
      away (inr is) same = grind (arith, nat_tests, is, same, child)

  leaves_event : {e : CoreEvent} → IsTurnEvent a p c strand e → Leaves a p c s (happens s e)
  leaves_event (handling h is event) = leaves_handle h event
  leaves_event (failing_at done step true) = record { process = λ q other child. simp (other, child); birth = λ q child. simp child; job = λ b other. simp other; prepared = λ b other. refl; owed = λ b other. refl }
  leaves_event (putting_child done page e true) = record { process = λ q other child. simp (other, child); birth = λ q child. refl; job = λ b other. simp other; prepared = λ b other. refl; owed = λ b other. refl }
  leaves_event (adding k page table own) = record { process = λ q other child. ap (with_place q) (tables_apart q k table (Some (on_path (lacks (tree_in s k) page) page)) own other child); birth = λ q child. refl; job = λ b other. refl; prepared = λ b other. refl; owed = λ b other. refl }
  leaves_event (taking_table k page table own) = record { process = λ q other child. ap (with_place q) (tables_apart q k table None own other child); birth = λ q child. refl; job = λ b other. refl; prepared = λ b other. refl; owed = λ b other. refl }
  leaves_event event = record { process = λ q other child. first_of (simp other, simp child, simp (other, child), cc); birth = λ q child. first_of (simp child, cc); job = λ b other. first_of (simp other, cc); prepared = λ b other. first_of (simp other, cc); owed = λ b other. first_of (simp other, cc) }

  -- nothing of a turn mirrors, but of one that fills a slot

  calm_handle : {e : CoreEvent} (h : ℕ) → IsHandleEvent a h e → IsCalm s → IsCalm (happens s e)
  calm_handle h (unpinning f left) calm = assumption
  calm_handle h event calm = assumption

  calm_event : {e : CoreEvent} → IsTurnEvent a p c strand e → FillsNone strand → IsCalm s → IsCalm (happens s e)
  calm_event (handling handle is event) none h = calm_handle handle event h
  calm_event (filling_slot m is less page f writable) none h = absurd (none m is)
  calm_event (emptying_slot m) none h = record { unmirrored = λ k. go k (k == m) }
    where
      go : (k : ℕ) (t : Bool) → (if t then None else s.mirrored k) ≡ None
      go k true = refl
      go k false = h.unmirrored k
  calm_event event none h = assumption

  -- a born process stays born: the child of a fork that fails was growing, and that of a failed process was unborn
  births_event : {e : CoreEvent} → IsTurnEvent a p c strand e → IsSound s → Can s e → (q : ℕ) → s.birth q ≡ born → (happens s e).birth q ≡ born
  births_event (handling h is (giving to)) sound can q lives = lives
  births_event beginning sound can q lives = let child : s.birth c ≡ unborn = can.1 in put_kept c q (growing p) s.birth born (λ same. cc) lives
  births_event (ending done) sound can q lives = go (q == c)
    where
      go : (t : Bool) → (if t then born else s.birth q) ≡ born
      go true = refl
      go false = lives
  births_event (failing_at done step ends) sound can q lives =
      let k : Forking = record { proc = p; child = c; done = done; step = step } in
      let forks : sound.0.forks a ≡ Some k = sound.1.forks_are a ∙ ap forking_of can.0 in
      let birth : s.birth c ≡ birth_of_child k = sound.1.fork_birth a k forks in
      put_kept c q failed s.birth born (λ same. child_unborn p (is_failing step) (sym birth ∙ (ap s.birth (sym same) ∙ lives))) lives
  births_event failing_unborn sound can q lives = let child : s.birth c ≡ unborn = can.1 in put_kept c q failed s.birth born (λ same. cc) lives
  births_event event sound can q lives = lives

  -- what another actor has locked

  another : (b : ℕ) (holder : Option ℕ) → (b ≡ a → ⊥) → holder ≡ Some b → holder ≡ Some a → ⊥
  another b holder other locked own = let two : Some b ≡ Some a = sym locked ∙ own in other (some_same two)

  -- a fork of the process holds its structure lock, and in the middle of a page its table lock
  forks_here : IsSound s → (done : List ℕ) (step : ForkStep) → s.job a ≡ forking p c done step → s.structure p ≡ Some a
  forks_here sound done step job =
      sound.1.forks_structure a (record { proc = p; child = c; done = done; step = step }) (sound.1.forks_are a ∙ ap forking_of job)

  pages_here : IsSound s → (done : List ℕ) (step : ForkStep) (page : ℕ) → step_page step ≡ Some page → s.job a ≡ forking p c done step → s.table p ≡ Some a
  pages_here sound done step page on job =
      sound.1.forks_table a page (record { proc = p; child = c; done = done; step = step }) (sound.1.forks_are a ∙ ap forking_of job) on

  child_here : IsSound s → (done : List ℕ) (step : ForkStep) → s.job a ≡ forking p c done step → s.birth p ≡ born → p ≡ c → ⊥
  child_here sound done step job lives same =
      let k : Forking = record { proc = p; child = c; done = done; step = step } in
      let birth : s.birth c ≡ birth_of_child k = sound.1.fork_birth a k (sound.1.forks_are a ∙ ap forking_of job) in
      child_unborn p (is_failing step) (sym birth ∙ (ap s.birth (sym same) ∙ lives))

  moves_here : IsSound s → (page : ℕ) (e : Entry) (allowed : Allowed) (count : Counted) → s.job a ≡ moving p page e allowed count → s.table p ≡ Some a
  moves_here sound page e allowed count job =
      sound.1.moves_table a (record { proc = p; page = page; entry = e; count = count }) (sound.1.moves_are a ∙ ap moving_of job)

  marks_here : IsSound s → (page f : ℕ) → s.job a ≡ marking p page f → s.table p ≡ Some a
  marks_here sound page f job =
      sound.1.marks_table a (record { proc = p; page = page; frame = f }) (sound.1.marks_are a ∙ ap marking_of job)

  structure_if : (b q : ℕ) (ends : Bool) → (b ≡ a → ⊥) → s.structure p ≡ Some a → s.structure q ≡ Some b → (if ends then put p None s.structure else s.structure) q ≡ Some b
  structure_if b q true other own locked = put_kept p q None s.structure (Some b) (λ same. another b (s.structure p) other (ap s.structure (sym same) ∙ locked) own) locked
  structure_if b q false other own locked = locked

  -- its structure lock stays
  structure_event : {e : CoreEvent} → IsTurnEvent a p c strand e → IsSound s → Can s e → (b q : ℕ) → (b ≡ a → ⊥) → s.structure q ≡ Some b → (happens s e).structure q ≡ Some b
  structure_event (handling h is (giving to)) sound can b q other locked = locked
  structure_event beginning sound can b q other locked =
      let free : s.structure p ≡ None = can.2.0 in
      put_kept p q (Some a) s.structure (Some b) (λ same. let here : s.structure p ≡ Some b = ap s.structure (sym same) ∙ locked in cc) locked
  structure_event (ending done) sound can b q other locked = structure_if b q true other (forks_here sound done between can.0) locked
  structure_event (failing_at done step ends) sound can b q other locked = structure_if b q ends other (forks_here sound done step can.0) locked
  structure_event (putting_child done page e ends) sound can b q other locked = structure_if b q ends other (forks_here sound done failing can.0) locked
  structure_event event sound can b q other locked = locked

  same_pages : (t : CoreState) → t.right p ≡ s.right p → t.entry p ≡ s.entry p → t.table p ≡ s.table p → (s.structure p ≡ None → t.structure p ≡ None) → KeepsPages p s t
  same_pages t right entry table unforked = record { right = right; entry = entry; table = table; unforked = unforked }

  -- a lock that is free stays so where it is given back
  free_if : (ends : Bool) → s.structure p ≡ None → (if ends then put p None s.structure else s.structure) p ≡ None
  free_if true free = put_same p None s.structure
  free_if false free = free

  failed_table : IsSound s → (b : ℕ) (done : List ℕ) (step : ForkStep) → MayFail step → (b ≡ a → ⊥) → s.table p ≡ Some b → s.job a ≡ forking p c done step → put p (elim step [ between ↦ s.table p | counted page ↦ None | lowered page ↦ None | cleared page ↦ None | copying page word ↦ None | failing ↦ None ]) s.table p ≡ s.table p
  failed_table sound b done between may other locked job = put_same p (s.table p) s.table
  failed_table sound b done (counted page) may other locked job = absurd (another b (s.table p) other locked (pages_here sound done (counted page) page refl job))
  failed_table sound b done (lowered page) may other locked job = absurd (another b (s.table p) other locked (pages_here sound done (lowered page) page refl job))
  failed_table sound b done (cleared page) may other locked job = absurd (another b (s.table p) other locked (pages_here sound done (cleared page) page refl job))
  failed_table sound b done (copying page word) may other locked job = absurd (another b (s.table p) other locked (pages_here sound done (copying page word) page refl job))
  failed_table sound b done failing may other locked job = absurd may

  -- where it has locked the table, so do rights and entries
  barred_event : {e : CoreEvent} → IsTurnEvent a p c strand e → IsSound s → Can s e → (b : ℕ) → (b ≡ a → ⊥) → s.table p ≡ Some b → KeepsPages p s (happens s e)
  barred_event (handling h is (giving to)) sound can b other locked = record { right = refl; entry = refl; table = refl; unforked = λ free. free }
  barred_event (marking_it page f) sound can b other locked = absurd (another b (s.table p) other locked (marks_here sound page f can))
  barred_event (placing_frame is page f e allowed) sound can b other locked = absurd (another b (s.table p) other locked (moves_here sound page e allowed one can.0))
  barred_event (restoring is page e allowed count) sound can b other locked = absurd (another b (s.table p) other locked (moves_here sound page e allowed count can.0))
  barred_event (sharing_entry done page f writable) sound can b other locked = absurd (another b (s.table p) other locked (pages_here sound done (counted page) page refl can.0))
  barred_event (sharing_child done page f writable) sound can b other locked = absurd (another b (s.table p) other locked (pages_here sound done (cleared page) page refl can.0))
  barred_event (placing done page to rights) sound can b other locked = absurd (another b (s.table p) other locked (pages_here sound done (copying page words) page refl can.0))
  barred_event (failing_at done step ends) sound can b other locked =
      let lives : s.birth p ≡ born = sound.1.table_born p b locked in
      same_pages (happens s (fail_fork a p c done step ends))
      (put_kept c p (λ _. None) s.right (s.right p) (child_here sound done step can.0 lives) refl) refl
      (failed_table sound b done step can.1 other locked can.0) (free_if ends)
  barred_event (putting_child done page e ends) sound can b other locked =
      let lives : s.birth p ≡ born = sound.1.table_born p b locked in
      same_pages (happens s (put_child a p c done page e ends)) refl
      (put2_apart c p page None s.entry (child_here sound done failing can.0 lives)) refl (free_if ends)
  barred_event failing_unborn sound can b other locked = absurd (let lives : s.birth p ≡ born = sound.1.table_born p b locked in let lost : s.birth p ≡ failed = can.0 in cc)
  barred_event beginning sound can b other locked = absurd (let free : s.table p ≡ None = can.2.1 in cc)
  barred_event (ending done) sound can b other locked = record { right = refl; entry = refl; table = refl; unforked = λ free. put_same p None s.structure }
  barred_event event sound can b other locked = record { right = cc; entry = cc; table = cc; unforked = λ free. free }

  -- where it has locked the structure, entries stay but for a move
  entries_event : {e : CoreEvent} → (MayMove strand → ⊥) → IsTurnEvent a p c strand e → IsSound s → Can s e → (b : ℕ) → (b ≡ a → ⊥) → s.structure p ≡ Some b → (happens s e).entry p ≡ s.entry p
  entries_event unmoved (handling h is (giving to)) sound can b other locked = refl
  entries_event unmoved (clearing is page e allowed) sound can b other locked = absurd (unmoved is)
  entries_event unmoved (placing_frame is page f e allowed) sound can b other locked = absurd (unmoved is)
  entries_event unmoved (restoring is page e allowed count) sound can b other locked = absurd (unmoved is)
  entries_event unmoved (sharing_entry done page f writable) sound can b other locked = absurd (another b (s.structure p) other locked (forks_here sound done (counted page) can.0))
  entries_event unmoved (sharing_child done page f writable) sound can b other locked = absurd (another b (s.structure p) other locked (forks_here sound done (cleared page) can.0))
  entries_event unmoved (placing done page to rights) sound can b other locked = absurd (another b (s.structure p) other locked (forks_here sound done (copying page words) can.0))
  entries_event unmoved (putting_child done page e ends) sound can b other locked = absurd (another b (s.structure p) other locked (forks_here sound done failing can.0))
  entries_event unmoved event sound can b other locked = cc

-- numbers that aren't equal are found so
pub apart : (b a : ℕ) → (b ≡ a → ⊥) → (b == a) ≡ false
apart b a other = go (b == a) refl
  where
    go : (t : Bool) → (b == a) ≡ t → t ≡ false
    go true is = absurd (other (eqb-true b a is))
    go false is = refl

-- one event after another

pub leaves : (s : CoreState) (a p c : ℕ) (strand : Strand) (es : List CoreEvent) → AreTurnEvents a p c strand es → Leaves a p c s (run s es)
leaves s a p c strand [] kinds = record { process = λ q other child. refl; birth = λ q child. refl; job = λ b other. refl; prepared = λ b other. refl; owed = λ b other. refl }
leaves s a p c strand (e ∷ es) kinds =
    let first = leaves_event s a p c strand kinds.0 in
    let later = leaves (happens s e) a p c strand es kinds.1 in
    record {
      process = λ q other child. later.process q other child ∙ first.process q other child;
      birth = λ q child. later.birth q child ∙ first.birth q child;
      job = λ b other. later.job b other ∙ first.job b other;
      prepared = λ b other. later.prepared b other ∙ first.prepared b other;
      owed = λ b other. later.owed b other ∙ first.owed b other;
    }

pub stays_calm : (s : CoreState) (a p c : ℕ) (strand : Strand) (es : List CoreEvent) → AreTurnEvents a p c strand es → FillsNone strand → IsCalm s → IsCalm (run s es)
stays_calm s a p c strand [] kinds none h = h
stays_calm s a p c strand (e ∷ es) kinds none h = stays_calm (happens s e) a p c strand es kinds.1 none (calm_event s a p c strand kinds.0 none h)

-- no slot is filled past the last one
abbrev pub AreWithin : CoreState → Type 0
AreWithin s = (m f : ℕ) → s.mirrored m ≡ Some f → m < most_mirrors

within_handle : (s : CoreState) (a h : ℕ) {e : CoreEvent} → IsHandleEvent a h e → AreWithin s → AreWithin (happens s e)
within_handle s a h (unpinning g left) within = within
within_handle s a h event within = within

within_event : (s : CoreState) (a p c : ℕ) (strand : Strand) {e : CoreEvent} → IsTurnEvent a p c strand e → AreWithin s → AreWithin (happens s e)
within_event s a p c strand (handling h is event) within = within_handle s a h event within
within_event s a p c strand (emptying_slot k) within = λ m f. go m f (m == k)
  where
    go : (m f : ℕ) (t : Bool) → (if t then None else s.mirrored m) ≡ Some f → m < most_mirrors
    go m f true is = absurd (cc is)
    go m f false is = within m f is
within_event s a p c strand (filling_slot k is less page f writable) within = λ m g. go m g (m == k) refl
  where
    go : (m g : ℕ) (t : Bool) → (m == k) ≡ t → (if t then Some f else s.mirrored m) ≡ Some g → m < most_mirrors
    go m g true same filled = subst (λ (j : ℕ). j < most_mirrors) (sym (eqb-true m k same)) less
    go m g false other filled = within m g filled
within_event s a p c strand event within = within

pub stays_within : (s : CoreState) (a p c : ℕ) (strand : Strand) (es : List CoreEvent) → AreTurnEvents a p c strand es → AreWithin s → AreWithin (run s es)
stays_within s a p c strand [] kinds within = within
stays_within s a p c strand (e ∷ es) kinds within =
    stays_within (happens s e) a p c strand es kinds.1 (within_event s a p c strand kinds.0 within)

pub stays_born : Law → (s : CoreState) (a p c : ℕ) (strand : Strand) (es : List CoreEvent) → AreTurnEvents a p c strand es → IsSound s → AllCan s es → (q : ℕ) → s.birth q ≡ born → (run s es).birth q ≡ born
stays_born law s a p c strand [] kinds sound can q is = is
stays_born law s a p c strand (e ∷ es) kinds sound can q is =
    let now = law s e sound can.0 in
    stays_born law (happens s e) a p c strand es kinds.1 now.sound can.1 q (births_event s a p c strand kinds.0 sound can.0 q is)

pub stays_locked : Law → (s : CoreState) (a p c : ℕ) (strand : Strand) (es : List CoreEvent) → AreTurnEvents a p c strand es → IsSound s → AllCan s es → (b q : ℕ) → (b ≡ a → ⊥) → s.structure q ≡ Some b → (run s es).structure q ≡ Some b
stays_locked law s a p c strand [] kinds sound can b q other locked = locked
stays_locked law s a p c strand (e ∷ es) kinds sound can b q other locked =
    let now = law s e sound can.0 in
    stays_locked law (happens s e) a p c strand es kinds.1 now.sound can.1 b q other (structure_event s a p c strand kinds.0 sound can.0 b q other locked)

pub stays_barred : Law → (s : CoreState) (a p c : ℕ) (strand : Strand) (es : List CoreEvent) → AreTurnEvents a p c strand es → IsSound s → AllCan s es → (b : ℕ) → (b ≡ a → ⊥) → s.table p ≡ Some b → KeepsPages p s (run s es)
stays_barred law s a p c strand [] kinds sound can b other locked = record { right = refl; entry = refl; table = refl; unforked = λ free. free }
stays_barred law s a p c strand (e ∷ es) kinds sound can b other locked =
    let now = law s e sound can.0 in
    let first = barred_event s a p c strand kinds.0 sound can.0 b other locked in
    let later = stays_barred law (happens s e) a p c strand es kinds.1 now.sound can.1 b other (first.table ∙ locked) in
    record {
      right = later.right ∙ first.right;
      entry = later.entry ∙ first.entry;
      table = later.table ∙ first.table;
      unforked = λ free. later.unforked (first.unforked free);
    }

pub stays_out : Law → (s : CoreState) (a p c : ℕ) (strand : Strand) (es : List CoreEvent) → (MayMove strand → ⊥) → AreTurnEvents a p c strand es → IsSound s → AllCan s es → (b : ℕ) → (b ≡ a → ⊥) → s.structure p ≡ Some b → (run s es).entry p ≡ s.entry p
stays_out law s a p c strand [] unmoved kinds sound can b other locked = refl
stays_out law s a p c strand (e ∷ es) unmoved kinds sound can b other locked =
    let now = law s e sound can.0 in
    stays_out law (happens s e) a p c strand es unmoved kinds.1 now.sound can.1 b other (structure_event s a p c strand kinds.0 sound can.0 b p other locked)
    ∙ entries_event s a p c strand unmoved kinds.0 sound can.0 b other locked

-- a flag that is set stays

flag_handle : (s : CoreState) (a h q : ℕ) {e : CoreEvent} → IsHandleEvent a h e → s.has_pinned q ≡ true → (happens s e).has_pinned q ≡ true
flag_handle s a h q (unpinning f left) set = set
flag_handle s a h q event set = set

flag_event : (s : CoreState) (a p c q : ℕ) (strand : Strand) {e : CoreEvent} → IsTurnEvent a p c strand e → s.has_pinned q ≡ true → (happens s e).has_pinned q ≡ true
flag_event s a p c q strand (handling h is event) set = flag_handle s a h q event set
flag_event s a p c q strand (raising h is) set = go (q == p)
  where
    go : (b : Bool) → (if b then true else s.has_pinned q) ≡ true
    go true = refl
    go false = set
flag_event s a p c q strand event set = set

pub stays_flagged : (s : CoreState) (a p c q : ℕ) (strand : Strand) (es : List CoreEvent) → AreTurnEvents a p c strand es → s.has_pinned q ≡ true → (run s es).has_pinned q ≡ true
stays_flagged s a p c q strand [] kinds set = set
stays_flagged s a p c q strand (e ∷ es) kinds set =
    stays_flagged (happens s e) a p c q strand es kinds.1 (flag_event s a p c q strand kinds.0 set)

-- what is about one pin leaves the others

-- numbers, equal or not
pub same_or_apart : (x y : ℕ) → (x ≡ y) ⊎ (x ≡ y → ⊥)
same_or_apart x y = go (x == y) refl
  where
    apart_by : (x == y) ≡ false → x ≡ y → ⊥
    apart_by e same = grind (arith, nat_tests)

    go : (b : Bool) → (x == y) ≡ b → (x ≡ y) ⊎ (x ≡ y → ⊥)
    go true e = inl (eqb-true x y e)
    go false e = inr (apart_by e)

pub put_apart : {X : Type 0} (k j : ℕ) (x : X) (f : ℕ → X) → (j ≡ k → ⊥) → put k x f j ≡ f j
put_apart k j x f other = put_other k j x f (apart j k other)

-- a handle has one holder, and whoever holds it isn't one to whom it is given
pub one_holder : (h : Handle) (a b : ℕ) → IsHeldBy h a → IsHeldBy h b → a ≡ b
one_holder (held by objects write) a b here there = sym here ∙ there
one_holder h a b here there = absurd here

pub held_ungiven : (h : Handle) (a b : ℕ) → IsHeldBy h a → IsGivenTo h b → ⊥
held_ungiven (held by objects write) a b here there = there
held_ungiven h a b here there = here

pub held_made : (h : Handle) (a : ℕ) → IsHeldBy h a → h ≡ unmade → ⊥
held_made (held by objects write) a here yet = cc yet
held_made h a here yet = here

-- a handle and its pages are as they were
pub record KeepsPin (h : ℕ) (s t : CoreState) : Type 0 where
  pub handle : t.handle h ≡ s.handle h
  pub pinned : t.pinned h ≡ s.pinned h

-- Of pins, a turn leaves what other actors have taken, and the flags but where it makes a pin. It leaves a handle that it
-- isn't about; one that its actor neither makes, holds, nor is given; and one that another actor holds after it.
pub record LeavesPinsOf (a : ℕ) (strand : Strand) (s t : CoreState) : Type 0 where
  pub taken : (b : ℕ) → (b ≡ a → ⊥) → t.taken b ≡ s.taken b
  pub flags : ((h : ℕ) → strand ≡ of_pin h → ⊥) → t.has_pinned ≡ s.has_pinned
  pub others : (h : ℕ) → (strand ≡ of_pin h → ⊥) → (strand ≡ of_handle h → ⊥) → KeepsPin h s t
  pub unheld : (h : ℕ) → (strand ≡ of_pin h → s.handle h ≡ unmade → ⊥) → (IsHeldBy (s.handle h) a → ⊥) → (IsGivenTo (s.handle h) a → ⊥) → KeepsPin h s t
  pub held_then : (h b : ℕ) → (b ≡ a → ⊥) → IsHeldBy (t.handle h) b → KeepsPin h s t

-- no pin is changed
same_pins : (a : ℕ) (strand : Strand) (s t : CoreState) → t.handle ≡ s.handle → t.pinned ≡ s.pinned → t.taken ≡ s.taken → t.has_pinned ≡ s.has_pinned → LeavesPinsOf a strand s t
same_pins a strand s t handle pinned taken flags =
    let kept : (h : ℕ) → KeepsPin h s t = λ h. record { handle = ap (λ (f : ℕ → Handle). f h) handle; pinned = ap (λ (f : ℕ → List ℕ). f h) pinned } in
    record {
      taken = λ b other. ap (λ (f : ℕ → List Taken). f b) taken;
      flags = λ none. flags;
      others = λ h no_pin no_handle. kept h;
      unheld = λ h making holding taking. kept h;
      held_then = λ h b other is. kept h;
    }

-- one handle is changed, and what the actor has taken, where that was the actor's to do
changed_pin : (a h : ℕ) (strand : Strand) (s t : CoreState) → t.has_pinned ≡ s.has_pinned → ((b : ℕ) → (b ≡ a → ⊥) → t.taken b ≡ s.taken b) → ((k : ℕ) → (k ≡ h → ⊥) → KeepsPin k s t) → (strand ≡ of_pin h) ⊎ (strand ≡ of_handle h) → ((strand ≡ of_pin h → s.handle h ≡ unmade → ⊥) → (IsHeldBy (s.handle h) a → ⊥) → (IsGivenTo (s.handle h) a → ⊥) → ⊥) → ((b : ℕ) → (b ≡ a → ⊥) → IsHeldBy (t.handle h) b → ⊥) → LeavesPinsOf a strand s t
changed_pin a h strand s t flags taken apart_kept about allowed held_on =
    record {
      taken = taken;
      flags = λ none. flags;
      others = λ k no_pin no_handle. elim (same_or_apart k h) [
        | inl same ↦ absurd (elim about [
          | inl is ↦ no_pin (is ∙ ap of_pin (sym same))
          | inr is ↦ no_handle (is ∙ ap of_handle (sym same))
        ])
        | inr other ↦ apart_kept k other
      ];
      unheld = λ k making holding taking. elim (same_or_apart k h) [
        | inl same ↦ absurd (allowed
            (λ is yet. making (is ∙ ap of_pin (sym same)) (ap s.handle same ∙ yet))
            (λ holds. holding (subst (λ (j : ℕ). IsHeldBy (s.handle j) a) (sym same) holds))
            (λ is_given. taking (subst (λ (j : ℕ). IsGivenTo (s.handle j) a) (sym same) is_given)))
        | inr other ↦ apart_kept k other
      ];
      held_then = λ k b other is. elim (same_or_apart k h) [
        | inl same ↦ absurd (held_on b other (subst (λ (j : ℕ). IsHeldBy (t.handle j) b) same is))
        | inr away ↦ apart_kept k away
      ];
    }

module _ (s : CoreState) (a : ℕ) (strand : Strand) where
  pins_making : (h : ℕ) → strand ≡ of_pin h → Can s (make_handle a h) → LeavesPinsOf a strand s (happens s (make_handle a h))
  pins_making h is can =
      let new : Handle = held a (objects_taken (s.taken a)) (writes_taken (s.taken a)) in
      changed_pin a h strand s (happens s (make_handle a h)) refl
      (λ b other. put_apart a b [] s.taken other)
      (λ k other. record { handle = put_apart h k new s.handle other; pinned = put_apart h k (taken_frames (s.taken a)) s.pinned other })
      (inl is)
      (λ making holding taking. making is can.1)
      (λ b other holds. other (sym (subst (λ (x : Handle). IsHeldBy x b) (put_same h new s.handle) holds)))

  pins_unpinning : (h f : ℕ) (left : List ℕ) → strand ≡ of_handle h → Can s (unpin_page a h f left) → LeavesPinsOf a strand s (happens s (unpin_page a h f left))
  pins_unpinning h f left is can =
      let new : Handle = elim left [ [] ↦ gone | g ∷ gs ↦ s.handle h ] in
      changed_pin a h strand s (happens s (unpin_page a h f left)) refl
      (λ b other. refl)
      (λ k other. record { handle = put_apart h k new s.handle other; pinned = put_apart h k left s.pinned other })
      (inr is)
      (λ making holding taking. holding can.0)
      (λ b other holds. other (one_holder (s.handle h) b a (still left b (subst (λ (x : Handle). IsHeldBy x b) (put_same h new s.handle) holds)) can.0))
    where
      still : (xs : List ℕ) (b : ℕ) → IsHeldBy (elim xs [ [] ↦ gone | g ∷ gs ↦ s.handle h ]) b → IsHeldBy (s.handle h) b
      still [] b holds = absurd holds
      still (x ∷ xs) b holds = holds

  pins_giving : (h to : ℕ) → strand ≡ of_handle h → Can s (give_handle a h to) → LeavesPinsOf a strand s (happens s (give_handle a h to))
  pins_giving h to is can =
      let new : Handle = given_to (s.handle h) to in
      changed_pin a h strand s (happens s (give_handle a h to)) refl
      (λ b other. refl)
      (λ k other. record { handle = put_apart h k new s.handle other; pinned = refl })
      (inr is)
      (λ making holding taking. holding can)
      (λ b other holds. subst (λ (x : Handle). IsHeldBy x b) (put_same h new s.handle) holds)

  pins_taking : (h : ℕ) → strand ≡ of_handle h → Can s (take_handle a h) → LeavesPinsOf a strand s (happens s (take_handle a h))
  pins_taking h is can =
      let new : Handle = held_by (s.handle h) a in
      changed_pin a h strand s (happens s (take_handle a h)) refl
      (λ b other. refl)
      (λ k other. record { handle = put_apart h k new s.handle other; pinned = refl })
      (inr is)
      (λ making holding taking. taking can)
      (λ b other holds. other (sym (subst (λ (x : Handle). IsHeldBy x b) (put_same h new s.handle) holds)))

  pins_pinning : (p page : ℕ) (e : Entry) (write long : Bool) → LeavesPinsOf a strand s (happens s (pin_page a p page e write long))
  pins_pinning p page e write long =
      record {
        taken = λ b other. put_apart a b (s.taken a ++ record { proc = p; page = page; frame = e.frame; object = s.object p page; write = write; long = long } ∷ []) s.taken other;
        flags = λ none. refl;
        others = λ h no_pin no_handle. record { handle = refl; pinned = refl };
        unheld = λ h making holding taking. record { handle = refl; pinned = refl };
        held_then = λ h b other is. record { handle = refl; pinned = refl };
      }

  -- it has taken these pages then
  pins_took : (p : ℕ) (now : List Taken) (t : CoreState) → t.taken ≡ put a now s.taken → t.has_pinned ≡ s.has_pinned → t.handle ≡ s.handle → t.pinned ≡ s.pinned → LeavesPinsOf a strand s t
  pins_took p now t taken flags handle pinned =
      let kept : (h : ℕ) → KeepsPin h s t = λ h. record { handle = ap (λ (f : ℕ → Handle). f h) handle; pinned = ap (λ (f : ℕ → List ℕ). f h) pinned } in
      record {
        taken = λ b other. ap (λ (f : ℕ → List Taken). f b) taken ∙ put_apart a b now s.taken other;
        flags = λ none. flags;
        others = λ h no_pin no_handle. kept h;
        unheld = λ h making holding taking. kept h;
        held_then = λ h b other is. kept h;
      }

  pins_raising : (h p : ℕ) → strand ≡ of_pin h → LeavesPinsOf a strand s (happens s (raise_flag a p))
  pins_raising h p is =
      record {
        taken = λ b other. refl;
        flags = λ none. absurd (none h is);
        others = λ k no_pin no_handle. record { handle = refl; pinned = refl };
        unheld = λ k making holding taking. record { handle = refl; pinned = refl };
        held_then = λ k b other holds. record { handle = refl; pinned = refl };
      }

  pins_event : (p c : ℕ) (e : CoreEvent) → IsTurnEvent a p c strand e → Can s e → LeavesPinsOf a strand s (happens s e)
  pins_event p c e (raising h is) can = pins_raising h p is
  pins_event p c e (pinning h is page entry write long) can = pins_pinning p page entry write long
  pins_event p c e (making h is) can = pins_making h is can
  pins_event p c e (finding_same h is write long sequence page path entry) can =
      pins_took p (s.taken a ++ record { proc = p; page = page; frame = entry.frame; object = s.object p page; write = write; long = long } ∷ []) (happens s (recheck_same a p write long sequence page path entry)) refl refl refl refl
  pins_event p c e (dropping_last h is write long sequence left last) can =
      pins_took p left (happens s (drop_last a p write long sequence left last)) refl refl refl refl
  pins_event p c e (dropping_first h is write long sequence first left) can =
      pins_took p left (happens s (drop_first a p write long sequence first left)) refl refl refl refl
  pins_event p c e (handling h is (unpinning f left)) can = pins_unpinning h f left is can
  pins_event p c e (handling h is (giving to)) can = pins_giving h to is can
  pins_event p c e (handling h is taking_over) can = pins_taking h is can
  pins_event p c e event can = same_pins a strand s (happens s e) refl refl refl refl

pins_on : (a : ℕ) (strand : Strand) (s t u : CoreState) → LeavesPinsOf a strand s t → LeavesPinsOf a strand t u → LeavesPinsOf a strand s u
pins_on a strand s t u first later =
    let both : (h : ℕ) → KeepsPin h s t → KeepsPin h t u → KeepsPin h s u = λ h one two. record { handle = two.handle ∙ one.handle; pinned = two.pinned ∙ one.pinned } in
    record {
      taken = λ b other. later.taken b other ∙ first.taken b other;
      flags = λ none. later.flags none ∙ first.flags none;
      others = λ h no_pin no_handle. both h (first.others h no_pin no_handle) (later.others h no_pin no_handle);
      unheld = λ h making holding taking.
          let one = first.unheld h making holding taking in
          both h one (later.unheld h (λ is yet. making is (sym one.handle ∙ yet))
          (λ holds. holding (subst (λ (x : Handle). IsHeldBy x a) one.handle holds))
          (λ is_given. taking (subst (λ (x : Handle). IsGivenTo x a) one.handle is_given)));
      held_then = λ h b other holds.
          let two = later.held_then h b other holds in
          both h (first.held_then h b other (subst (λ (x : Handle). IsHeldBy x b) two.handle holds)) two;
    }

pub leaves_pins : (s : CoreState) (a p c : ℕ) (strand : Strand) (es : List CoreEvent) → AreTurnEvents a p c strand es → AllCan s es → LeavesPinsOf a strand s (run s es)
leaves_pins s a p c strand [] kinds can = same_pins a strand s s refl refl refl refl
leaves_pins s a p c strand (e ∷ es) kinds can =
    pins_on a strand s (happens s e) (run s (e ∷ es)) (pins_event s a strand p c e kinds.0 can.0) (leaves_pins (happens s e) a p c strand es kinds.1 can.1)

-- references

-- Of references, a turn leaves all but the one that it gets or puts back; one that isn't got stays so, unless the turn gets it.
pub record LeavesGot (strand : Strand) (s t : CoreState) : Type 0 where
  pub kept : ((h : ℕ) → strand ≡ of_get h → ⊥) → ((h : ℕ) → strand ≡ of_put h → ⊥) → t.got ≡ s.got
  pub ungot : (h : ℕ) → (strand ≡ of_get h → ⊥) → s.got h ≡ None → t.got h ≡ None

none_put : {X : Type 0} (k h : ℕ) (f : ℕ → Option X) → f h ≡ None → put k None f h ≡ None
none_put k h f none = go (h == k)
  where
    go : (b : Bool) → (if b then None else f h) ≡ None
    go true = refl
    go false = none

module _ (s : CoreState) (a p c : ℕ) (strand : Strand) where
  got_handle : {e : CoreEvent} (h : ℕ) → IsHandleEvent a h e → (happens s e).got ≡ s.got
  got_handle h (unpinning f left) = refl
  got_handle h event = refl

  got_event : {e : CoreEvent} → IsTurnEvent a p c strand e → LeavesGot strand s (happens s e)
  got_event (getting k is page f writable) =
      record {
        kept = λ no_get no_put. absurd (no_get k is);
        ungot = λ h no_get none. put_apart k h (Some (a, f)) s.got (λ same. no_get (is ∙ ap of_get (sym same))) ∙ none;
      }
  got_event (putting_back k is f) =
      record { kept = λ no_get no_put. absurd (no_put k is); ungot = λ h no_get none. none_put k h s.got none }
  got_event (handling h is event) =
      let same = got_handle h event in
      record { kept = λ no_get no_put. same; ungot = λ k no_get none. ap (λ (f : ℕ → Option (ℕ × ℕ)). f k) same ∙ none }
  got_event event = record { kept = λ no_get no_put. refl; ungot = λ h no_get none. none }

pub leaves_got : (s : CoreState) (a p c : ℕ) (strand : Strand) (es : List CoreEvent) → AreTurnEvents a p c strand es → LeavesGot strand s (run s es)
leaves_got s a p c strand [] kinds = record { kept = λ no_get no_put. refl; ungot = λ h no_get none. none }
leaves_got s a p c strand (e ∷ es) kinds =
    let first = got_event s a p c strand kinds.0 in
    let later = leaves_got (happens s e) a p c strand es kinds.1 in
    record {
      kept = λ no_get no_put. later.kept no_get no_put ∙ first.kept no_get no_put;
      ungot = λ h no_get none. later.ungot h no_get (first.ungot h no_get none);
    }

-- What gives, takes or gives back a pin, or moves a word of one, leaves all processes, all jobs and what actors have taken.
pub record LeavesAll (s t : CoreState) : Type 0 where
  pub process : (q : ℕ) → of_process t q ≡ of_process s q
  pub job : t.job ≡ s.job
  pub taken : t.taken ≡ s.taken

handle_leaves : (s : CoreState) (a h : ℕ) {e : CoreEvent} → IsHandleEvent a h e → LeavesAll s (happens s e)
handle_leaves s a h (unpinning f left) = record { process = λ q. refl; job = refl; taken = refl }
handle_leaves s a h event = record { process = λ q. refl; job = refl; taken = refl }

pub handles_leave : (s : CoreState) (a h : ℕ) (es : List CoreEvent) → AreHandleEvents a h es → LeavesAll s (run s es)
handles_leave s a h [] kinds = record { process = λ q. refl; job = refl; taken = refl }
handles_leave s a h (e ∷ es) kinds =
    let first = handle_leaves s a h kinds.0 in
    let later = handles_leave (happens s e) a h es kinds.1 in
    record {
      process = λ q. later.process q ∙ first.process q;
      job = later.job ∙ first.job;
      taken = later.taken ∙ first.taken;
    }
