-- A frame that has a reference is one of the machine.
use Rattle.std.proofs.Common.{◌≡◌, ℕ, ◌+◌, ◌-◌, ◌<◌, ◌==◌, Bool, true, false, if◌then◌else◌, List, [], ◌∷◌, Some, refl, sym, ◌∙◌, subst, arith, eqb-true}
use Rattle.gup_base.specs.declared.entry.Entry.{Entry}
use Rattle.gup_spec_events.specs.State.{CoreState}
use Rattle.gup_spec_events.specs.Event.{CoreEvent, Can, entry_of, happens, run}
use Rattle.gup_spec_events.specs.Invariant.{AllCan}
use Rattle.gup_law_base.specs.Sound.{IsSound}
use Rattle.gup_law_base.proofs.Lonely.{whole_counts}
use Rattle.gup_law_turns.proofs.CalmStates.{Strand, AreTurnEvents, IsTurnEvent, IsHandleEvent, unpinning, taking, putting, pinning, handling, getting, putting_back, sharing_child, putting_child, grabbing, dropping_grab, dropping_last, dropping_first}
use Rattle.gup_law_turns.proofs.EventLists.{Law}

abbrev pub AreCountedThere : CoreState → Type 0
AreCountedThere s = (f : ℕ) → (s.count f ≡ 0 → ⊥) → f < s.movable + s.normal

-- so is one of an entry
pub entry_there : (s : CoreState) → IsSound s → AreCountedThere s → (p page : ℕ) (e : Entry) → s.entry p page ≡ Some e → e.frame < s.movable + s.normal
entry_there s (v, h) there p page e is =
    let counts = whole_counts v s h p page e (h.whole_entry p page e is) in
    let all = h.count_is e.frame in
    there e.frame (λ none. omega (arith, counts, all, none))

module _ (s : CoreState) (a p c : ℕ) (strand : Strand) (sound : IsSound s) (h : AreCountedThere s) where
  -- a frame has fewer references, or more where it is one of the machine
  fewer : (f n k : ℕ) → ((if k == f then s.count f - n else s.count k) ≡ 0 → ⊥) → k < s.movable + s.normal
  fewer f n k = go (k == f) refl
    where
      go : (t : Bool) → (k == f) ≡ t → ((if t then s.count f - n else s.count k) ≡ 0 → ⊥) → k < s.movable + s.normal
      go true same some = subst (λ (j : ℕ). j < s.movable + s.normal) (sym (eqb-true k f same)) (h f (λ none. some (omega (arith, none))))
      go false other some = h k some

  more : (f m k : ℕ) → f < s.movable + s.normal → ((if k == f then m else s.count k) ≡ 0 → ⊥) → k < s.movable + s.normal
  more f m k there = go (k == f) refl
    where
      go : (t : Bool) → (k == f) ≡ t → ((if t then m else s.count k) ≡ 0 → ⊥) → k < s.movable + s.normal
      go true same some = subst (λ (j : ℕ). j < s.movable + s.normal) (sym (eqb-true k f same)) there
      go false other some = h k some

  counted_handle : {e : CoreEvent} (k : ℕ) → IsHandleEvent a k e → AreCountedThere (happens s e)
  counted_handle k (unpinning f left) = λ g some. fewer f 1024 g some
  counted_handle k event = h

  counted_event : {e : CoreEvent} → IsTurnEvent a p c strand e → Can s e → AreCountedThere (happens s e)
  counted_event (taking f) can = λ g some. more f 1 g can.2 some
  counted_event (putting f) can = λ g some. fewer f 1 g some
  counted_event (pinning k is page e write long) can = λ g some. more e.frame (s.count e.frame + 1024) g (entry_there s sound h p page e can.4) some
  counted_event (handling k is event) can = counted_handle k event
  counted_event (getting k is page f writable) can = λ g some. more f (s.count f + 1) g (entry_there s sound h p page (entry_of f writable) can.2) some
  counted_event (putting_back k is f) can = λ g some. fewer f 1 g some
  counted_event (sharing_child done page f writable) can = λ g some. more f (s.count f + 1) g (entry_there s sound h p page (entry_of f writable) can.1) some
  counted_event (putting_child done page e ends) can = λ g some. fewer e.frame 1 g some
  counted_event (grabbing k is write long sequence page path e) can = λ g some. more e.frame (s.count e.frame + 1024) g (h e.frame can.1) some
  counted_event (dropping_grab k is write long sequence f) can = λ g some. fewer f 1024 g some
  counted_event (dropping_last k is write long sequence left last) can = λ g some. fewer last.frame 1024 g some
  counted_event (dropping_first k is write long sequence first left) can = λ g some. fewer first.frame 1024 g some
  counted_event event can = h

-- the machine has as many frames as before
sized_handle : (s : CoreState) (a k : ℕ) {e : CoreEvent} → IsHandleEvent a k e → ((happens s e).movable ≡ s.movable) × ((happens s e).normal ≡ s.normal)
sized_handle s a k (unpinning f left) = (refl, refl)
sized_handle s a k event = (refl, refl)

sized_event : (s : CoreState) (a p c : ℕ) (strand : Strand) {e : CoreEvent} → IsTurnEvent a p c strand e → ((happens s e).movable ≡ s.movable) × ((happens s e).normal ≡ s.normal)
sized_event s a p c strand (handling k is event) = sized_handle s a k event
sized_event s a p c strand event = (refl, refl)

pub stays_sized : (s : CoreState) (a p c : ℕ) (strand : Strand) (es : List CoreEvent) → AreTurnEvents a p c strand es → ((run s es).movable ≡ s.movable) × ((run s es).normal ≡ s.normal)
stays_sized s a p c strand [] kinds = (refl, refl)
stays_sized s a p c strand (e ∷ es) kinds =
    let first = sized_event s a p c strand kinds.0 in
    let later = stays_sized (happens s e) a p c strand es kinds.1 in
    (later.0 ∙ first.0, later.1 ∙ first.1)

-- the events of a turn keep it
pub stays_counted : Law → (s : CoreState) (a p c : ℕ) (strand : Strand) (es : List CoreEvent) → AreTurnEvents a p c strand es → IsSound s → AllCan s es → AreCountedThere s → AreCountedThere (run s es)
stays_counted law s a p c strand [] kinds sound can h = h
stays_counted law s a p c strand (e ∷ es) kinds sound can h =
    let now = law s e sound can.0 in
    stays_counted law (happens s e) a p c strand es kinds.1 now.sound can.1 (counted_event s a p c strand sound h kinds.0 can.0)
