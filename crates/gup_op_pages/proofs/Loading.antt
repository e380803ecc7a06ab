-- What a load or a store makes of frames and a process is the turn's.
use Rattle.std.proofs.Common.{◌≡◌, ℕ, ◌==◌, Bool, true, false, if◌then◌else◌, is_some, List, [], ◌∷◌, ◌++◌, Option, Some, None, IsSome, Ok, Err, cond, refl, sym, ap, ◌∙◌, subst, eqb-true, arith}
use Rattle.std.proofs.lemmas.Bool.Decides.{nat_tests}
use Rattle.gup_base.specs.declared.entry.Allowed.{Allowed}
use Rattle.gup_base.specs.declared.entry.Allowed.TheVariants.{Any}
use Rattle.gup_base.specs.declared.entry.Entry.{Entry}
use Rattle.gup_base.specs.declared.entry.Rights.{Rights}
use Rattle.gup_base.specs.declared.entry.Rights.TheVariants.{R, RW}
use Rattle.gup_plain.specs.Note.{JournalValue}
use Rattle.gup_plain.specs.declared.answer.Answer.{Answer}
use Rattle.gup_plain.specs.declared.note.What.TheVariants.{Done}
use Rattle.gup_frames.specs.Frames.{FramesValue, IsFrame, free_frame, with_word}
use Rattle.gup_space.specs.Found.{found_for}
use Rattle.gup_space.specs.Space.{SpaceValue, lacking}
use Rattle.gup_space.proofs.After.{storing}
use Rattle.gup_space.specs.Counted.{IsCounted}
use Rattle.gup_space.specs.Shows.{Change, ShowsFrames, ShowsSpace}
use Rattle.gup_space.proofs.ShowsLemmas.{shows_frames, shows_space, events_lead}
use Rattle.gup_spec_events.specs.State.{CoreState}
use Rattle.gup_spec_events.specs.Event.{CoreEvent, happens, upgrade, load, store, run}
use Rattle.gup_spec_events.specs.Fault.{Fault, events_of, refusal_of, read_fault, write_fault, makes_writable, breaks, fills, fills_writable, marks}
use Rattle.gup_fault.specs.Faults.{HasEntry, IsWritable, page_word, IsFault}
use Rattle.gup_spec_turns.specs.PageTurns.{load_turn, load_fault, loads_in, store_turn, store_fault, stores_to}
use Rattle.gup_spec_turns.proofs.TurnParts.{loads_after, store_fault_by, stores_after}
use Rattle.gup_spec_turns.specs.CoreTurn.{allows_store, frame_in, frame_for}
use Rattle.gup_op_base.specs.declared.said.Head.{Head}
use Rattle.gup_op_base.specs.Said.{Tells, whats_of, answered_said, loaded_said, stored_said}
use Rattle.gup_op_base.specs.Turns.{Leads, IsTurnOf, Anywhere}
use Rattle.gup_op_base.specs.Tidy.{IsTidy}
use Rattle.gup_op_base.proofs.Leading.{ch, leads_alike, state_of, has_frames, has_space}
use Rattle.gup_op_base.proofs.Searching.{frame_agrees, free_passes}
use Rattle.gup_op_pages.specs.Alone.{AloneView, ShowsAlone}
use Rattle.gup_op_pages.proofs.Viewing.{view, before, behind, events_show}
use Rattle.gup_spec_events.proofs.Runs.{run_behind}

-- ---- what is answered

-- the same answer in other words
pub answers_so : (head : Head) (was now : JournalValue) {answer other : Answer} → other ≡ answer → Tells head was now (answered_said other) → Tells head was now (answered_said answer)
answers_so head was now {answer} {other} same h = subst (λ (x : Answer). Tells head was now (answered_said x)) same h

-- ---- which fault it is

-- a state's fault is the one that was read of frames and a process
pub read_fault_same : (F : FramesValue) (S : SpaceValue) (a p page : ℕ) (s : CoreState) → S.entry page ≡ None → ShowsFrames F s → ShowsSpace p S s
    → load_fault s a p page (s.entry p page) ≡ read_fault a p page (S.right page) (S.entry page) (found_for F S page Any)
read_fault_same F S a p page s none frames space =
    ap (λ o. load_fault s a p page o) (space.entry page ∙ none)
    ∙ ap (λ r. read_fault a p page r None (frame_for s p page Any)) (space.right page)
    ∙ ap (λ o. read_fault a p page (S.right page) None o) (frame_agrees F S p page Any s frames space)
    ∙ ap (λ o. read_fault a p page (S.right page) o (found_for F S page Any)) (sym none)

-- what a write fault reads of the frame of its entry
pub write_fault_reads : (F : FramesValue) (a p page : ℕ) (rights : Option Rights) (entry : Option Entry) (free : Option ℕ) (s : CoreState) → ShowsFrames F s
    → write_fault a p page rights entry s.mark s.count free ≡ write_fault a p page rights entry F.mark F.count free
write_fault_reads F a p page (Some RW) (Some e) free s frames =
    ap (λ m. cond e.writable (Ok []) (makes_writable a p page e m (s.count e.frame) free)) (frames.mark e.frame)
    ∙ ap (λ n. cond e.writable (Ok []) (makes_writable a p page e (F.mark e.frame) n free)) (frames.count e.frame)
write_fault_reads F a p page rights entry free s frames = refl

write_fault_same : (F : FramesValue) (S : SpaceValue) (a p page : ℕ) (s : CoreState) → allows_store (S.entry page) ≡ false → ShowsFrames F s → ShowsSpace p S s
    → store_fault s a p page (s.entry p page) ≡ write_fault a p page (S.right page) (S.entry page) F.mark F.count (found_for F S page Any)
write_fault_same F S a p page s unallowed frames space =
    ap (λ o. store_fault s a p page o) (space.entry page)
    ∙ ap (λ b. store_fault_by b s a p page (S.entry page)) unallowed
    ∙ ap (λ r. write_fault a p page r (S.entry page) s.mark s.count (frame_for s p page Any)) (space.right page)
    ∙ ap (λ o. write_fault a p page (S.right page) (S.entry page) s.mark s.count o) (frame_agrees F S p page Any s frames space)
    ∙ write_fault_reads F a p page (S.right page) (S.entry page) (found_for F S page Any) s frames

-- ---- loads

-- the entry that a state has, where the process has this one
frame_shown : (S : SpaceValue) (p page : ℕ) (s : CoreState) → ShowsSpace p S s → frame_in (s.entry p page) ≡ frame_in (S.entry page)
frame_shown S p page s space = ap frame_in (space.entry page)

word_in_frame : (F : FramesValue) (entry : Option Entry) (word : ℕ) → IsSome entry → F.word (frame_in entry) word ≡ page_word F entry word
word_in_frame F None word some = absurd (cc)
word_in_frame F (Some e) word some = refl

load_behind : (new : AloneView) (a p page word : ℕ) (es : List CoreEvent) (s : CoreState) → IsSome (new.space.entry page) → ShowsAlone p new (run s es)
    → Leads (ShowsAlone p) new s (loads_in (run s es) es a p page word (frame_in ((run s es).entry p page)))
    (whats_of (loaded_said a p page word (page_word new.frames (new.space.entry page) word)))
load_behind new a p page word es s some shown =
    let f : ℕ = frame_in ((run s es).entry p page) in
    let value : ℕ = (run s es).word f word in
    let value_is : page_word new.frames (new.space.entry page) word ≡ value =
    sym (shown.frames.word f word ∙ ap (λ g. new.frames.word g word) (frame_shown new.space p page (run s es) shown.space) ∙ word_in_frame new.frames (new.space.entry page) word some) in
    let after : run s (es ++ load a p page word f value ∷ []) ≡ run s es = run_behind s es (load a p page word f value ∷ []) in
    record {
      says = ap (λ v. whats_of (loaded_said a p page word v)) (sym value_is);
      shown = subst (λ (t : CoreState). ShowsAlone p new t) (sym after) shown;
    }

-- through the page's entry
pub load_by_entry : (F : FramesValue) (S : SpaceValue) (a p page word : ℕ) (e : Entry) → S.entry page ≡ Some e
    → IsTurnOf (ShowsAlone p) Anywhere (view F S) (view F S) (λ s. load_turn s a p page word (s.entry p page)) (whats_of (loaded_said a p page word (F.word e.frame word)))
load_by_entry F S a p page word e found s shown stands =
    let same : page_word F (S.entry page) word ≡ F.word e.frame word = ap (λ o. page_word F o word) found in
    leads_alike
    (ap (λ (x : Fault). loads_after s x a p page word) (ap (λ o. load_fault s a p page o) (shown.space.entry page ∙ found)))
    (subst (λ (v : ℕ). Leads (ShowsAlone p) (view F S) s (loads_after s (Ok []) a p page word) (whats_of (loaded_said a p page word v))) same
    (load_behind (view F S) a p page word [] s (ap is_some found) shown))

-- what a fault to load comes to
load_after : (new : AloneView) (a p page word : ℕ) (fault : Fault) (s : CoreState) → refusal_of fault ≡ None → IsSome (new.space.entry page) → ShowsAlone p new (run s (events_of fault))
    → Leads (ShowsAlone p) new s (loads_after s fault a p page word) (whats_of (loaded_said a p page word (page_word new.frames (new.space.entry page) word)))
load_after new a p page word (Ok es) s unrefused some shown = load_behind new a p page word es s some shown
load_after new a p page word (Err answer) s refused some shown = absurd (cc)

load_denied : (new : AloneView) (a p page word : ℕ) (fault : Fault) (answer : Answer) (s : CoreState) → refusal_of fault ≡ Some answer → ShowsAlone p new (run s (events_of fault))
    → Leads (ShowsAlone p) new s (loads_after s fault a p page word) (Done answer ∷ [])
load_denied new a p page word (Ok es) answer s unrefused shown = absurd (cc)
load_denied new a p page word (Err denied) answer s refused shown =
    let same : denied ≡ answer = cc in
    record { says = ap (λ (x : Answer). Done x ∷ []) same; shown = shown }

-- by the fault of a page without an entry
abbrev pub LoadFault : Change → (page : ℕ) → Option Answer → Type 0
LoadFault c page denied =
    IsFault c denied (λ a p. read_fault a p page (c.old_space.right page) (c.old_space.entry page) (found_for c.old_frames c.old_space page Any))

pub load_by_fault : (c : Change) (a p page word : ℕ) → c.old_space.entry page ≡ None → c.old_space.table ≡ None → LoadFault c page None → IsSome (c.new_space.entry page)
    → IsTurnOf (ShowsAlone p) Anywhere (before c) (behind c) (λ s. load_turn s a p page word (s.entry p page)) (whats_of (loaded_said a p page word (page_word c.new_frames (c.new_space.entry page) word)))
load_by_fault c a p page word none unlocked fault some s shown stands =
    leads_alike
    (ap (λ (x : Fault). loads_after s x a p page word) (read_fault_same c.old_frames c.old_space a p page s none shown.frames shown.space))
    (load_after (behind c) a p page word
    (read_fault a p page (c.old_space.right page) (c.old_space.entry page) (found_for c.old_frames c.old_space page Any)) s (fault.refused a p) some (events_show fault.events s a p unlocked shown))

pub load_refused : (c : Change) (a p page word : ℕ) (answer : Answer) → c.old_space.entry page ≡ None → c.old_space.table ≡ None → LoadFault c page (Some answer)
    → IsTurnOf (ShowsAlone p) Anywhere (before c) (behind c) (λ s. load_turn s a p page word (s.entry p page)) (Done answer ∷ [])
load_refused c a p page word answer none unlocked fault s shown stands =
    leads_alike
    (ap (λ (x : Fault). loads_after s x a p page word) (read_fault_same c.old_frames c.old_space a p page s none shown.frames shown.space))
    (load_denied (behind c) a p page word
    (read_fault a p page (c.old_space.right page) (c.old_space.entry page) (found_for c.old_frames c.old_space page Any)) answer s (fault.refused a p) (events_show fault.events s a p unlocked shown))

-- ---- stores

store_behind : (F F' : FramesValue) (S : SpaceValue) (a p page word value : ℕ) (es : List CoreEvent) (s : CoreState) → F' ≡ with_word (frame_in (S.entry page)) word value F → ShowsAlone p (view F S) (run s es)
    → Leads (ShowsAlone p) (view F' S) s (stores_to es a p page word value (frame_in ((run s es).entry p page))) (whats_of (stored_said a p page word value))
store_behind F F' S a p page word value es s written shown =
    let f : ℕ = frame_in ((run s es).entry p page) in
    let e : CoreEvent = store a p page word f value in
    let written_so : with_word f word value F ≡ F' = ap (λ g. with_word g word value F) (frame_shown S p page (run s es) shown.space) ∙ sym written in
    let after : run s (es ++ e ∷ []) ≡ happens (run s es) e = run_behind s es (e ∷ []) in
    record {
      says = refl;
      shown =
          subst (λ (t : CoreState). ShowsAlone p (view F' S) t) (sym after)
          (record {
            frames = subst (λ (x : FramesValue). ShowsFrames x (happens (run s es) e)) written_so (shows_frames p F (run s es) (storing a page word f value) shown.frames);
            space = shows_space p S (run s es) (storing a page word f value) shown.space;
          });
    }

-- through an entry that allows it
pub store_by_entry : (F F' : FramesValue) (S : SpaceValue) (a p page word value : ℕ) → allows_store (S.entry page) ≡ true → F' ≡ with_word (frame_in (S.entry page)) word value F
    → IsTurnOf (ShowsAlone p) Anywhere (view F S) (view F' S) (λ s. store_turn s a p page word value (s.entry p page)) (whats_of (stored_said a p page word value))
store_by_entry F F' S a p page word value allowed written s shown stands =
    leads_alike
    (ap (λ b. stores_after s (store_fault_by b s a p page (s.entry p page)) a p page word value) (ap allows_store (shown.space.entry page) ∙ allowed))
    (store_behind F F' S a p page word value [] s written shown)

-- what a fault to store comes to
store_after : (F F' : FramesValue) (S : SpaceValue) (a p page word value : ℕ) (fault : Fault) (s : CoreState) → refusal_of fault ≡ None → F' ≡ with_word (frame_in (S.entry page)) word value F → ShowsAlone p (view F S) (run s (events_of fault))
    → Leads (ShowsAlone p) (view F' S) s (stores_after s fault a p page word value) (whats_of (stored_said a p page word value))
store_after F F' S a p page word value (Ok es) s unrefused written shown = store_behind F F' S a p page word value es s written shown
store_after F F' S a p page word value (Err answer) s refused written shown = absurd (cc)

store_denied : (new : AloneView) (a p page word value : ℕ) (fault : Fault) (answer : Answer) (s : CoreState) → refusal_of fault ≡ Some answer → ShowsAlone p new (run s (events_of fault))
    → Leads (ShowsAlone p) new s (stores_after s fault a p page word value) (Done answer ∷ [])
store_denied new a p page word value (Ok es) answer s unrefused shown = absurd (cc)
store_denied new a p page word value (Err denied) answer s refused shown =
    let same : denied ≡ answer = cc in
    record { says = ap (λ (x : Answer). Done x ∷ []) same; shown = shown }

-- by the fault of a page whose entry doesn't
abbrev pub StoreFault : Change → (page : ℕ) → Option Answer → Type 0
StoreFault c page denied =
    IsFault c denied
    (λ a p. write_fault a p page (c.old_space.right page) (c.old_space.entry page) c.old_frames.mark c.old_frames.count (found_for c.old_frames c.old_space page Any))

pub store_by_fault : (F F1 F' : FramesValue) (S S' : SpaceValue) (a p page word value : ℕ) → allows_store (S.entry page) ≡ false → S.table ≡ None → StoreFault (ch F F1 S S') page None
    → F' ≡ with_word (frame_in (S'.entry page)) word value F1
    → IsTurnOf (ShowsAlone p) Anywhere (view F S) (view F' S') (λ s. store_turn s a p page word value (s.entry p page)) (whats_of (stored_said a p page word value))
store_by_fault F F1 F' S S' a p page word value unallowed unlocked fault written s shown stands =
    leads_alike
    (ap (λ (x : Fault). stores_after s x a p page word value) (write_fault_same F S a p page s unallowed shown.frames shown.space))
    (store_after F1 F' S' a p page word value
    (write_fault a p page (S.right page) (S.entry page) F.mark F.count (found_for F S page Any)) s (fault.refused a p) written (events_show fault.events s a p unlocked shown))

pub store_refused : (c : Change) (a p page word value : ℕ) (answer : Answer) → allows_store (c.old_space.entry page) ≡ false → c.old_space.table ≡ None → StoreFault c page (Some answer)
    → IsTurnOf (ShowsAlone p) Anywhere (before c) (behind c) (λ s. store_turn s a p page word value (s.entry p page)) (Done answer ∷ [])
store_refused c a p page word value answer unallowed unlocked fault s shown stands =
    leads_alike
    (ap (λ (x : Fault). stores_after s x a p page word value) (write_fault_same c.old_frames c.old_space a p page s unallowed shown.frames shown.space))
    (store_denied (behind c) a p page word value
    (write_fault a p page (c.old_space.right page) (c.old_space.entry page) c.old_frames.mark c.old_frames.count (found_for c.old_frames c.old_space page Any)) answer s (fault.refused a p) (events_show fault.events s a p unlocked shown))

-- ---- the frame that a fault leaves

-- the frame of the page's entry is marked
abbrev pub IsMarkedAt : CoreState → (p page : ℕ) → Type 0
IsMarkedAt s p page = (e : Entry) → s.entry p page ≡ Some e → s.mark e.frame ≡ true

fill_marks : (a p page : ℕ) (free : Option ℕ) (s : CoreState) → refusal_of (fills a p page free) ≡ None → IsMarkedAt (run s (events_of (fills a p page free))) p page
fill_marks a p page None s refused e found = absurd (cc)
fill_marks a p page (Some f) s done e found = grind (arith, nat_tests)

pub read_marks : (a p page : ℕ) (rights : Option Rights) (free : Option ℕ) (s : CoreState) → refusal_of (read_fault a p page rights None free) ≡ None → IsMarkedAt (run s (events_of (read_fault a p page rights None free))) p page
read_marks a p page None free s refused e found = absurd (cc)
read_marks a p page (Some rights) free s done e found = fill_marks a p page free s done e found

fill_writable_marks : (a p page : ℕ) (free : Option ℕ) (s : CoreState) → refusal_of (fills_writable a p page free) ≡ None → IsMarkedAt (run s (events_of (fills_writable a p page free))) p page
fill_writable_marks a p page None s refused e found = absurd (cc)
fill_writable_marks a p page (Some f) s done e found = grind (arith, nat_tests)

break_marks : (a p page : ℕ) (d : Entry) (free : Option ℕ) (s : CoreState) → refusal_of (breaks a p page d true free) ≡ None → ((f : ℕ) → free ≡ Some f → f ≡ d.frame → ⊥)
    → IsMarkedAt (run s (events_of (breaks a p page d true free))) p page
break_marks a p page d None s refused other e found = absurd (cc)
break_marks a p page d (Some f) s done other e found = let apart : f ≡ d.frame → ⊥ = other f refl in grind (arith, nat_tests)

writable_marks : (a p page : ℕ) (d : Entry) (mark : Bool) (count : ℕ) (free : Option ℕ) (s : CoreState) → s.mark d.frame ≡ mark → refusal_of (makes_writable a p page d mark count free) ≡ None
    → ((f : ℕ) → free ≡ Some f → f ≡ d.frame → ⊥) → IsMarkedAt (run s (events_of (makes_writable a p page d mark count free))) p page
writable_marks a p page d true count free s marked done other e found = grind (arith, nat_tests)
writable_marks a p page d false count free s unmarked done other e found = by_count (count == 1) done e found
  where
    fault : (alone : Bool) → Fault
    fault alone = cond alone (Ok (marks a p page d ++ upgrade a p page d.frame ∷ [])) (breaks a p page d true free)

    by_count : (alone : Bool) → refusal_of (fault alone) ≡ None → IsMarkedAt (run s (events_of (fault alone))) p page
    by_count true ok g at = grind (arith, nat_tests)
    by_count false ok g at = break_marks a p page d free s ok other g at

pub write_marks : (a p page : ℕ) (rights : Option Rights) (entry : Option Entry) (mark : ℕ → Bool) (count : ℕ → ℕ) (free : Option ℕ) (s : CoreState) → ((f : ℕ) → s.mark f ≡ mark f)
    → refusal_of (write_fault a p page rights entry mark count free) ≡ None → allows_store entry ≡ false → ((f : ℕ) (d : Entry) → free ≡ Some f → entry ≡ Some d → f ≡ d.frame → ⊥)
    → IsMarkedAt (run s (events_of (write_fault a p page rights entry mark count free))) p page
write_marks a p page None entry mark count free s marks_are refused unallowed other e found = absurd (cc)
write_marks a p page (Some R) entry mark count free s marks_are refused unallowed other e found = absurd (cc)
write_marks a p page (Some RW) None mark count free s marks_are done unallowed other e found = fill_writable_marks a p page free s done e found
write_marks a p page (Some RW) (Some d) mark count free s marks_are done unallowed other e found = by_entry d.writable unallowed done e found
  where
    fault : (writable : Bool) → Fault
    fault writable = cond writable (Ok []) (makes_writable a p page d (mark d.frame) (count d.frame) free)

    by_entry : (writable : Bool) → writable ≡ false → refusal_of (fault writable) ≡ None → IsMarkedAt (run s (events_of (fault writable))) p page
    by_entry true is ok g at = absurd (cc)
    by_entry false is ok g at =
        writable_marks a p page d (mark d.frame) (count d.frame) free s (marks_are d.frame) ok (λ f free_is. other f d free_is refl) g at

-- so the frame is there, where each marked one is
entry_there : (F : FramesValue) (S : SpaceValue) (p page : ℕ) (s : CoreState) → ShowsFrames F s → ShowsSpace p S s → IsMarkedAt s p page → ((f : ℕ) → F.mark f ≡ true → IsFrame F f) → IsSome (S.entry page)
    → HasEntry (S.entry page) (λ e. IsFrame F e.frame)
entry_there F S p page s frames space marked there some = go (S.entry page) refl some
  where
    go : (entry : Option Entry) → S.entry page ≡ entry → IsSome entry → HasEntry entry (λ e. IsFrame F e.frame)
    go None is none = absurd (cc)
    go (Some e) is found = there e.frame (sym (frames.mark e.frame) ∙ marked e (space.entry page ∙ is))

pub read_there : (c : Change) (page : ℕ) → c.old_space.entry page ≡ None → c.old_space.table ≡ None → LoadFault c page None → ((f : ℕ) → c.new_frames.mark f ≡ true → IsFrame c.new_frames f) → IsSome (c.new_space.entry page)
    → HasEntry (c.new_space.entry page) (λ e. IsFrame c.new_frames e.frame)
read_there c page none unlocked fault there some =
    let s : CoreState = state_of c.old_frames c.old_space in
    let rights : Option Rights = c.old_space.right page in
    let free : Option ℕ = found_for c.old_frames c.old_space page Any in
    let behind = events_lead fault.events s 0 0 (has_frames c.old_frames c.old_space) (has_space c.old_frames c.old_space 0) unlocked in
    let P : Option Entry → Type 0 = λ o. refusal_of (read_fault 0 0 page rights o free) ≡ None → IsMarkedAt (run s (events_of (read_fault 0 0 page rights o free))) 0 page in
    let marked : P (c.old_space.entry page) = subst P (sym none) (read_marks 0 0 page rights free s) in
    entry_there c.new_frames c.new_space 0 page (run s (events_of (read_fault 0 0 page rights (c.old_space.entry page) free)))
    behind.0 behind.1 (marked (fault.refused 0 0)) there some

-- what is found for a page is the free frame
found_is_free : (F : FramesValue) (S : SpaceValue) (page : ℕ) (allowed : Allowed) (f : ℕ) → found_for F S page allowed ≡ Some f → free_frame F allowed ≡ Some f
found_is_free F S page allowed f is = go (lacking S page == 0) is
  where
    go : (none : Bool) → (if none then free_frame F allowed else None) ≡ Some f → free_frame F allowed ≡ Some f
    go true found = found
    go false found = absurd (cc)

-- the free frame is no entry's
pub free_apart : (F : FramesValue) (S : SpaceValue) (allowed : Allowed) (page f : ℕ) (d : Entry) → IsTidy F S → free_frame F allowed ≡ Some f → S.entry page ≡ Some d → f ≡ d.frame → ⊥
free_apart F S allowed page f d tidy free found same =
    let none : (F.count f == 0) ≡ true = free_passes F allowed f free in
    tidy.counted page d found (ap F.count (sym same) ∙ eqb-true (F.count f) 0 none)

pub write_there : (c : Change) (page : ℕ) → IsTidy c.old_frames c.old_space → allows_store (c.old_space.entry page) ≡ false → c.old_space.table ≡ None → StoreFault c page None
    → ((f : ℕ) → c.new_frames.mark f ≡ true → IsFrame c.new_frames f) → IsSome (c.new_space.entry page)
    → HasEntry (c.new_space.entry page) (λ e. IsFrame c.new_frames e.frame)
write_there c page tidy unallowed unlocked fault there some =
    let s : CoreState = state_of c.old_frames c.old_space in
    let free : Option ℕ = found_for c.old_frames c.old_space page Any in
    let behind = events_lead fault.events s 0 0 (has_frames c.old_frames c.old_space) (has_space c.old_frames c.old_space 0) unlocked in
    entry_there c.new_frames c.new_space 0 page
    (run s (events_of (write_fault 0 0 page (c.old_space.right page) (c.old_space.entry page) c.old_frames.mark c.old_frames.count free)))
    behind.0 behind.1
    (write_marks 0 0 page (c.old_space.right page) (c.old_space.entry page) c.old_frames.mark c.old_frames.count free s (λ f. refl) (fault.refused 0 0) unallowed
    (λ f d free_is found. free_apart c.old_frames c.old_space Any page f d tidy (found_is_free c.old_frames c.old_space page Any f free_is) found)) there some

-- ---- entries

pub writable_some : (entry : Option Entry) → IsWritable entry → IsSome entry
writable_some None none = absurd none
writable_some (Some e) writable = refl

pub counted_at : (F : FramesValue) (S : SpaceValue) (page : ℕ) → IsTidy F S → IsCounted F S page
counted_at F S page tidy = record { mapped = tidy.mapped page; there = tidy.there page; counted = tidy.counted page }
