-- The mark of a frame whose entry a mover has cleared stays, whatever other actors do.
use Rattle.std.proofs.Common.{◌≡◌, ℕ, ◌==◌, Bool, true, false, if◌then◌else◌, List, [], ◌∷◌, ◌++◌, length, slice_get, Some, None, refl, sym, ap, ◌∙◌, subst, arith}
use Rattle.std.proofs.lemmas.Bool.Decides.{nat_tests}
use Rattle.gup_base.specs.declared.entry.Allowed.{Allowed}
use Rattle.gup_base.specs.declared.entry.Entry.{Entry}
use Rattle.gup_spec_events.specs.State.{CoreState, moving, Counted, forking, lowered, Taken}
use Rattle.gup_spec_events.specs.Event.{CoreEvent, Can, entry_of, happens, run}
use Rattle.gup_spec_events.specs.Invariant.{AllCan, got_frame, page_taken, taken_frame}
use Rattle.gup_law_base.specs.Sound.{IsSound, IsSoundBy, View, Forking, moving_of, forking_of, walking_of, walk_frame, held}
use Rattle.gup_law_base.proofs.Lonely.{whole_counts, no_whole, taken_alone, grab_alone, whole_alone, once_wholes, owed_alone, owed_whole, got_alone, got_whole, pin_alone, pin_whole, prepared_whole}
use Rattle.gup_law_turns.proofs.CalmStates.{Strand, IsHandleEvent, IsTurnEvent, AreTurnEvents, taking, putting, putting_back, handling, unpinning, placing_frame, sharing_mark, putting_child, filling, marking_it, breaking, placing, dropping_grab, dropping_last, dropping_first}
use Rattle.gup_law_turns.proofs.EventLists.{Law}
use Rattle.gup_law_turns.proofs.KeptParts.{leaves, apart}
use Rattle.gup_law_turns.proofs.Puts.{some_same}

-- the page's cleared entry, in the view
moved_whole : (v : View) (s : CoreState) (b q g : ℕ) (e : Entry) (allowed : Allowed) (count : Counted) → IsSoundBy v s → s.job b ≡ moving q g e allowed count → v.whole q g ≡ Some e
moved_whole v s b q g e allowed count h job =
    h.whole_moved b (record { proc = q; page = g; entry = e; count = count }) (h.moves_are b ∙ ap moving_of job)

-- its frame has a reference
pub moved_counted : (s : CoreState) (b q g : ℕ) (e : Entry) (allowed : Allowed) (count : Counted) → IsSound s → s.job b ≡ moving q g e allowed count → s.count e.frame ≡ 0 → ⊥
moved_counted s b q g e allowed count (v, h) job none =
    let counts = whole_counts v s h q g e (moved_whole v s b q g e allowed count h job) in
    let all = h.count_is e.frame in
    omega (arith, counts, all, none)

-- another frame's mark is changed
kept_mark : (f k : ℕ) (new : Bool) (mark : ℕ → Bool) → (f ≡ k → ⊥) → mark k ≡ true → (if k == f then new else mark k) ≡ true
kept_mark f k new mark other is = grind (arith, nat_tests)

-- a mark goes only with the last reference
kept_unless : (f k count n : ℕ) (mark : ℕ → Bool) → (f ≡ k → count ≡ n → ⊥) → mark k ≡ true → (if k == f then (if count == n then false else mark f) else mark k) ≡ true
kept_unless f k count n mark other is = grind (arith, nat_tests)

-- a frame that is marked too, or again
kept_more : (f k : ℕ) (mark : ℕ → Bool) → mark k ≡ true → (if k == f then true else mark k) ≡ true
kept_more f k mark is = grind (arith, nat_tests)

at_end : {X : Type 0} (left : List X) (f : X) → slice_get (left ++ f ∷ []) (length left) ≡ Some f
at_end [] f = refl
at_end (x ∷ left) f = at_end left f

-- nor that of a page that a pin has taken, which is the whole count
taken_whole : (v : View) (s : CoreState) → IsSoundBy v s → (a k q g : ℕ) (t : Taken) (e : Entry) → slice_get (s.taken a) k ≡ Some t → s.count t.frame ≡ 1024 → v.whole q g ≡ Some e → e.frame ≡ t.frame → ⊥
unfolding held
taken_whole v s h a k q g t e is all there same =
    no_whole v s h (page_taken a k) t.frame q g e (ap taken_frame is) (taken_alone v s h a k t is all).0 (omega arith) there same

-- or one that a walk has grabbed
grab_whole : (v : View) (s : CoreState) → IsSoundBy v s → (a f q g : ℕ) (e : Entry) → walk_frame (v.walks a) ≡ Some f → s.count f ≡ 1024 → v.whole q g ≡ Some e → f ≡ e.frame → ⊥
grab_whole v s h a f q g e is all there same =
    let none = (grab_alone v s h a f is all).0 in
    let some = whole_counts v s h q g e there in
    let frames = ap v.references same in
    omega (arith, none, some, frames)

module _ (s : CoreState) (a p c : ℕ) (strand : Strand) (sound : IsSound s) (b q g : ℕ) (e : Entry) (allowed : Allowed) (count : Counted) (other : b ≡ a → ⊥) (job : s.job b ≡ moving q g e allowed count) (marked : s.mark e.frame ≡ true) where
  abbrev v : View
  v = sound.0

  abbrev h : IsSoundBy v s
  h = sound.1

  there : v.whole q g ≡ Some e
  there = moved_whole v s b q g e allowed count h job

  moves : v.moves b ≡ Some (record { proc = q; page = g; entry = e; count = count })
  moves = h.moves_are b ∙ ap moving_of job

  marks_handle : {ev : CoreEvent} (k : ℕ) → IsHandleEvent a k ev → Can s ev → (happens s ev).mark e.frame ≡ true
  marks_handle k (unpinning f left) can =
      let last : slice_get (s.pinned k) (length left) ≡ Some f = subst (λ (xs : List ℕ). slice_get xs (length left) ≡ Some f) (sym can.1) (at_end left f) in
      kept_unless f e.frame (s.count f) 1024 s.mark (λ same all. pin_whole v s h k (length left) f q g e last (pin_alone v s h k (length left) f last all).0 there (sym same)) marked
  marks_handle k event can = marked

  -- a fork that shares this frame would be of this page
  unshared : (done : List ℕ) (page f : ℕ) (writable : Bool) → s.job a ≡ forking p c done (lowered page) → s.entry p page ≡ Some (entry_of f writable) → f ≡ e.frame → ⊥
  unshared done page f writable forks entry same =
      let k : Forking = record { proc = p; child = c; done = done; step = lowered page } in
      let its : v.whole p page ≡ Some (entry_of f writable) = h.whole_entry p page (entry_of f writable) entry in
      let own = h.marked_own p page (entry_of f writable) its (ap s.mark same ∙ marked) in
      let here = h.marked_own q g e there marked in
      let names = h.whole_names p page (entry_of f writable) its in
      let object : v.names q g ≡ Some (s.object p page) = sym here ∙ ap s.own (sym same) ∙ own ∙ names in
      let one = h.names_alone p page q g (s.object p page) names object in
      let locked : s.table p ≡ Some a = h.forks_table a page k (h.forks_are a ∙ ap forking_of forks) refl in
      let held : s.table q ≡ Some b = h.moves_table b (record { proc = q; page = g; entry = e; count = count }) moves in
      other (some_same (sym held ∙ ap s.table (sym one.0) ∙ locked))

  -- nor is it the entry of a child that is given back
  ungiven : (page : ℕ) (d : Entry) → s.entry c page ≡ Some d → d.frame ≡ e.frame → s.count d.frame ≡ 1 → ⊥
  ungiven page d entry same once =
      let its : v.whole c page ≡ Some d = h.whole_entry c page d entry in
      let one = once_wholes v s h c page q g d e its there same (whole_alone v s h c page d its once).0 in
      let gone : s.entry q g ≡ None = h.moved_gone b (record { proc = q; page = g; entry = e; count = count }) moves in
      let at : s.entry c page ≡ None = ap (λ (k : ℕ). s.entry k page) one.0 ∙ ap (s.entry q) one.1 ∙ gone in
      cc (sym entry ∙ at)

  marks_event : {ev : CoreEvent} → IsTurnEvent a p c strand ev → Can s ev → (happens s ev).mark e.frame ≡ true
  marks_event (taking f) can =
      kept_mark f e.frame false s.mark (λ same. moved_counted s b q g e allowed count sound job (ap s.count (sym same) ∙ can.3)) marked
  marks_event (filling page f) can = kept_more f e.frame s.mark marked
  marks_event (marking_it page f) can = kept_more f e.frame s.mark marked
  marks_event (breaking page old new was writable) can = kept_more new e.frame s.mark marked
  marks_event (placing done page to rights) can = kept_more to e.frame s.mark marked
  marks_event (putting f) can =
      kept_unless f e.frame (s.count f) 1 s.mark (λ same once. owed_whole v s h a f q g e can (owed_alone v s h a f can once).0 there (sym same)) marked
  marks_event (putting_back k is f) can =
      let got : got_frame (s.got k) ≡ Some f = ap got_frame can in
      kept_unless f e.frame (s.count f) 1 s.mark (λ same once. got_whole v s h k f q g e got (got_alone v s h k f got once).0 there (sym same)) marked
  marks_event (handling k is event) can = marks_handle k event can
  marks_event (placing_frame may page f d zones) can =
      kept_mark f e.frame (s.mark d.frame) s.mark (λ same. prepared_whole v s h a f q g e can.1 there (sym same)) marked
  marks_event (sharing_mark done page f writable) can = kept_mark f e.frame false s.mark (λ same. unshared done page f writable can.0 can.1 same) marked
  marks_event (putting_child done page d ends) can = kept_unless d.frame e.frame (s.count d.frame) 1 s.mark (λ same once. ungiven page d can.1 same once) marked
  marks_event (dropping_grab k is write long sequence f) can =
      kept_unless f e.frame (s.count f) 1024 s.mark (λ same all. grab_whole v s h a f q g e (ap walk_frame (h.walks_are a ∙ ap walking_of can)) all there same) marked
  marks_event (dropping_last k is write long sequence left last) can =
      let has : slice_get (s.taken a) (length left) ≡ Some last = subst (λ (xs : List Taken). slice_get xs (length left) ≡ Some last) (sym can.1) (at_end left last) in
      kept_unless last.frame e.frame (s.count last.frame) 1024 s.mark (λ same all. taken_whole v s h a (length left) q g last e has all there (sym same)) marked
  marks_event (dropping_first k is write long sequence first left) can =
      let has : slice_get (s.taken a) 0 ≡ Some first = ap (λ (xs : List Taken). slice_get xs 0) can.1 in
      kept_unless first.frame e.frame (s.count first.frame) 1024 s.mark (λ same all. taken_whole v s h a 0 q g first e has all there (sym same)) marked
  marks_event event can = marked

pub stays_marked : Law → (s : CoreState) (a p c : ℕ) (strand : Strand) (es : List CoreEvent) → AreTurnEvents a p c strand es → IsSound s → AllCan s es → (b q g : ℕ) (e : Entry) (allowed : Allowed) (count : Counted) → (b ≡ a → ⊥) → s.job b ≡ moving q g e allowed count → s.mark e.frame ≡ true → (run s es).mark e.frame ≡ true
stays_marked law s a p c strand [] kinds sound can b q g e allowed count other job marked = marked
stays_marked law s a p c strand (ev ∷ es) kinds sound can b q g e allowed count other job marked =
    let now = law s ev sound can.0 in
    let still = (leaves s a p c strand (ev ∷ []) (kinds.0, tt)).job b (apart b a other) ∙ job in
    stays_marked law (happens s ev) a p c strand es kinds.1 now.sound can.1 b q g e allowed count other still
    (marks_event s a p c strand sound b q g e allowed count other job marked kinds.0 can.0)
