-- What a get or a put makes of frames, a process and handles is the turn's.
use Rattle.std.proofs.Common.{◌≡◌, ℕ, ◌≤◌, ◌==◌, Bool, true, false, cond, IsSome, List, [], ◌∷◌, ◌++◌, Option, Some, None, Ok, Err, refl, sym, ap, ◌∙◌, subst, eqb-true, arith}
use Rattle.std.proofs.lemmas.Bool.Decides.{nat_tests}
use Rattle.gup_base.specs.declared.entry.Allowed.TheVariants.{Any}
use Rattle.gup_base.specs.declared.entry.Entry.{Entry}
use Rattle.gup_base.specs.declared.entry.Rights.{Rights}
use Rattle.gup_plain.specs.Put.{put}
use Rattle.gup_plain.specs.State as plain
use Rattle.gup_plain.specs.declared.answer.Answer.{Answer}
use Rattle.gup_plain.specs.declared.answer.Answer.TheVariants as answers
use Rattle.gup_plain.specs.declared.note.What.TheVariants.{Done}
use Rattle.gup_frames.specs.Frames.{FramesValue, IsFrame, with_references, without_references}
use Rattle.gup_space.specs.Space.{SpaceValue}
use Rattle.gup_space.specs.Found.{found_for}
use Rattle.gup_space.specs.Shows.{ShowsFrames, ShowsSpace}
use Rattle.gup_space.proofs.After.{getting, putting_back}
use Rattle.gup_space.proofs.ShowsLemmas.{shows_frames, shows_space, events_lead}
use Rattle.gup_handles.specs.Handles.{HandleValue, HandlesValue, unmade, held, given, got, gone, IsGotBy, without_last, HasLast}
use Rattle.gup_handles.specs.Shows.{IsShown, ShowsHandles}
use Rattle.gup_spec_events.specs.State.{CoreState, Taken as TakenPage}
use Rattle.gup_spec_events.specs.Event.{CoreEvent, happens, get_reference, put_reference, taken_frames as frames_taken, run}
use Rattle.gup_spec_events.specs.Invariant.{frame_of}
use Rattle.gup_spec_events.specs.Fault.{Fault, events_of, refusal_of, read_fault}
use Rattle.gup_fault.specs.Faults.{IsFault}
use Rattle.gup_spec_journal.specs.Denial.{has_reference}
use Rattle.gup_spec_turns.specs.CoreTurn.{entry_in, frame_for}
use Rattle.gup_spec_turns.specs.JobPlace.{place_in, unbegun}
use Rattle.gup_spec_turns.specs.PageTurns.{load_fault}
use Rattle.gup_spec_turns.specs.PinTurns.{gets, get_turn, got_by, got_frame, put_turn}
use Rattle.gup_spec_turns.proofs.TurnParts.{gets_after, put_turn_by}
use Rattle.gup_op_base.specs.Tidy.{IsTidy}
use Rattle.gup_op_base.specs.Turns.{Leads, IsTurnOf, Anywhere}
use Rattle.gup_op_base.proofs.Leading.{ch, leads_alike}
use Rattle.gup_op_base.proofs.Searching.{frame_agrees}
use Rattle.gup_op_pins.specs.Pins.{IsReferred, PinningView, ShowsPinning, EndAt}
use Rattle.gup_op_pins.specs.Held.{ShowsHeld}
use Rattle.gup_op_pins.proofs.Holding.{view}
use Rattle.gup_op_pins.proofs.Pinning.{shows_same, unmade_shown, frame_is, IsOver, no_last}
use Rattle.gup_op_pins.proofs.Readying.{IsLeft, fault_to_get, get_fault_leaves, get_fault_rests}
use Rattle.gup_spec_events.proofs.Runs.{run_behind}

-- ---- get

-- a state's fault is the one that was read of frames and a process
get_fault_same : (F : FramesValue) (S : SpaceValue) (a p page : ℕ) (s : CoreState) → ((e : Entry) → S.entry page ≡ Some e → IsSome (S.right page)) → ShowsFrames F s → ShowsSpace p S s
    → load_fault s a p page (s.entry p page) ≡ fault_to_get F S a p page
get_fault_same F S a p page s mapped frames space = ap (λ o. load_fault s a p page o) (space.entry page) ∙ go (S.entry page) refl
  where
    with_entry : (e : Entry) (rights : Option Rights) → IsSome rights → Ok [] ≡ read_fault a p page rights (Some e) (found_for F S page Any)
    with_entry e None none = absurd (cc)
    with_entry e (Some rights) some = refl

    go : (o : Option Entry) → S.entry page ≡ o → load_fault s a p page o ≡ read_fault a p page (S.right page) o (found_for F S page Any)
    go None is =
        ap (λ r. read_fault a p page r None (frame_for s p page Any)) (space.right page)
        ∙ ap (λ o. read_fault a p page (S.right page) None o) (frame_agrees F S p page Any s frames space)
    go (Some e) is = with_entry e (S.right page) (mapped e is)

-- the handle is of a reference of this frame
reference_shown : (H : HandlesValue) (a p page handle : ℕ) (e : Entry) (t : CoreState) → H handle ≡ unmade → ShowsHandles H t → ShowsHandles (put handle (got a e.frame) H) (happens t (get_reference a p page e.frame handle e.writable))
reference_shown H a p page handle e t yet shown k = go (k == handle) refl
  where
    none : t.handle handle ≡ plain.unmade
    none = (unmade_shown (H handle) (t.handle handle) (t.pinned handle) (t.got handle) yet (shown handle)).0

    go : (here : Bool) → (k == handle) ≡ here → IsShown (cond here (got a e.frame) (H k)) (t.handle k) (t.pinned k) (cond here (Some (a, e.frame)) (t.got k))
    go true is = (ap t.handle (eqb-true k handle is) ∙ none, refl)
    go false is = shown k

-- the reference after events that lead there
get_behind : (old new : PinningView) (F1 : FramesValue) (S1 : SpaceValue) (a p handle page frame : ℕ) (es : List CoreEvent) (s : CoreState) → frame_of (S1.entry page) ≡ Some frame
    → new.frames ≡ with_references frame 1 F1 → new.space ≡ S1 → new.pins ≡ put handle (got a frame) old.pins → new.taken ≡ old.taken → IsOver new → old.pins handle ≡ unmade
    → ShowsFrames F1 (run s es) → ShowsSpace p S1 (run s es) → ShowsHandles old.pins (run s es) → frames_taken ((run s es).taken a) ≡ old.taken → place_in (run s es) a ≡ unbegun
    → Leads (ShowsPinning a p) new s (gets s es a p handle page) (Done answers.Plain ∷ [])
get_behind old new F1 S1 a p handle page frame es s at new_frames new_space new_pins new_taken over yet frames space shown taken rests =
    let t : CoreState = run s es in
    let e : Entry = entry_in (t.entry p page) in
    let u : CoreState = happens t (get_reference a p page e.frame handle e.writable) in
    let is : e.frame ≡ frame = ap (λ o. (entry_in o).frame) (space.entry page) ∙ frame_is (S1.entry page) frame at in
    let after : run s (es ++ get_reference a p page e.frame handle e.writable ∷ []) ≡ u = run_behind s es (get_reference a p page e.frame handle e.writable ∷ []) in
    record {
      says = refl;
      shown =
          subst (λ (x : CoreState). ShowsPinning a p new x) (sym after)
          (record {
            frames =
                subst (λ (x : FramesValue). ShowsFrames x u) (ap (λ f. with_references f 1 F1) is ∙ sym new_frames)
                (shows_frames p F1 t (getting a page e.frame handle e.writable) frames);
            space =
                subst (λ (x : SpaceValue). ShowsSpace p x u) (sym new_space)
                (shows_space p S1 t (getting a page e.frame handle e.writable) space);
            pins =
                subst (λ (x : HandlesValue). ShowsHandles x u) (ap (λ f. put handle (got a f) old.pins) is ∙ sym new_pins)
                (reference_shown old.pins a p page handle e t yet shown);
            taken = taken ∙ sym new_taken;
            place = rests ∙ sym over.0;
            last = no_last new.last _ over.1;
          });
    }

-- a fault of the page of a get
abbrev pub GetFault : (F F1 : FramesValue) (S S1 : SpaceValue) (page : ℕ) → Option Answer → Type 0
GetFault F F1 S S1 page denied = IsFault (ch F F1 S S1) denied (λ b q. fault_to_get F S b q page)

get_after : (new : PinningView) (fault : Fault) (a p handle page : ℕ) (s : CoreState) → refusal_of fault ≡ None
    → ((es : List CoreEvent) → es ≡ events_of fault → Leads (ShowsPinning a p) new s (gets s es a p handle page) (Done answers.Plain ∷ []))
    → Leads (ShowsPinning a p) new s (gets_after s fault a p handle page) (Done answers.Plain ∷ [])
get_after new (Err answer) a p handle page s refused behind = absurd (cc)
get_after new (Ok es) a p handle page s unrefused behind = behind es refl

pub reference_got : (old new : PinningView) (F1 : FramesValue) (S1 : SpaceValue) (a p handle page frame : ℕ) → IsTidy old.frames old.space → old.space.table ≡ None
    → GetFault old.frames F1 old.space S1 page None → frame_of (S1.entry page) ≡ Some frame
    → new.frames ≡ with_references frame 1 F1 → new.space ≡ S1 → new.pins ≡ put handle (got a frame) old.pins → new.taken ≡ old.taken → old.place ≡ unbegun → IsOver new → old.pins handle ≡ unmade
    → IsTurnOf (ShowsPinning a p) Anywhere old new (λ s. get_turn s a p handle page (s.entry p page)) (Done answers.Plain ∷ [])
reference_got old new F1 S1 a p handle page frame tidy unlocked fault at new_frames new_space new_pins new_taken begun over yet s shown stands =
    leads_alike (ap (λ (x : Fault). gets_after s x a p handle page) (get_fault_same old.frames old.space a p page s (tidy.mapped page) shown.frames shown.space))
    (get_after new (fault_to_get old.frames old.space a p page) a p handle page s (fault.refused a p) behind)
  where
    behind : (es : List CoreEvent) → es ≡ events_of (fault_to_get old.frames old.space a p page) → Leads (ShowsPinning a p) new s (gets s es a p handle page) (Done answers.Plain ∷ [])
    behind es is =
        let shows : ShowsFrames F1 (run s es) × ShowsSpace p S1 (run s es) =
        subst (λ (xs : List CoreEvent). ShowsFrames F1 (run s xs) × ShowsSpace p S1 (run s xs)) (sym is)
        (events_lead fault.events s a p shown.frames shown.space (shown.space.table ∙ unlocked)) in
        let same : IsLeft a s (run s es) =
        subst (λ (xs : List CoreEvent). IsLeft a s (run s xs)) (sym is) (get_fault_leaves old.frames old.space a p page s) in
        get_behind old new F1 S1 a p handle page frame es s at new_frames new_space new_pins new_taken over yet shows.0 shows.1
        (shows_same old.pins s (run s es) same.handle same.pinned same.got shown.pins)
        (ap (λ (f : ℕ → List TakenPage). frames_taken (f a)) same.taken ∙ shown.taken)
        (subst (λ (xs : List CoreEvent). place_in (run s xs) a ≡ unbegun) (sym is) (get_fault_rests old.frames old.space a p page s (shown.place ∙ begun)))

get_denied : (new : PinningView) (fault : Fault) (answer : Answer) (a p handle page : ℕ) (s : CoreState) → refusal_of fault ≡ Some answer → ShowsPinning a p new s
    → Leads (ShowsPinning a p) new s (gets_after s fault a p handle page) (Done answer ∷ [])
get_denied new (Ok es) answer a p handle page s unrefused shown = absurd (cc)
get_denied new (Err denied) answer a p handle page s refused shown =
    let same : denied ≡ answer = cc in
    record { says = ap (λ (x : Answer). Done x ∷ []) same; shown = shown }

-- the page is refused
pub get_refused : (old new : PinningView) (F1 : FramesValue) (S1 : SpaceValue) (a p handle page : ℕ) (answer : Answer) → IsTidy old.frames old.space
    → GetFault old.frames F1 old.space S1 page (Some answer) → new.frames ≡ F1 → new.space ≡ S1 → new.pins ≡ old.pins → new.taken ≡ old.taken → new.place ≡ old.place → new.last ≡ old.last
    → IsTurnOf (ShowsPinning a p) Anywhere old new (λ s. get_turn s a p handle page (s.entry p page)) (Done answer ∷ [])
get_refused old new F1 S1 a p handle page answer tidy fault new_frames new_space new_pins new_taken place last s shown stands =
    leads_alike (ap (λ (x : Fault). gets_after s x a p handle page) (get_fault_same old.frames old.space a p page s (tidy.mapped page) shown.frames shown.space))
    (get_denied new (fault_to_get old.frames old.space a p page) answer a p handle page s (fault.refused a p)
    (record {
      frames = subst (λ (x : FramesValue). ShowsFrames x s) (sym (new_frames ∙ (fault.unchanged answer refl).0)) shown.frames;
      space = subst (λ (x : SpaceValue). ShowsSpace p x s) (sym (new_space ∙ (fault.unchanged answer refl).1)) shown.space;
      pins = subst (λ (x : HandlesValue). ShowsHandles x s) (sym new_pins) shown.pins;
      taken = shown.taken ∙ sym new_taken;
      place = shown.place ∙ sym place;
      last = subst (λ (x : Option ℕ). EndAt x (s.taken a)) (sym last) shown.last;
    }))

-- ---- put

-- the frame of a reference that the actor got is there, and has one
pub last_referred : (F : FramesValue) (v : HandleValue) (a frame : ℕ) → IsReferred F v → IsGotBy v a → HasLast v frame → IsFrame F frame × (1 ≤ F.count frame)
last_referred F (got by f) a frame referred is last = subst (λ (g : ℕ). IsFrame F g × (1 ≤ F.count g)) last referred
last_referred F v a frame referred none last = absurd none

pub reference_put : (F F' : FramesValue) (H H' : HandlesValue) (a h frame : ℕ) → IsGotBy (H h) a → HasLast (H h) frame → F' ≡ without_references frame 1 F → H' ≡ put h (without_last (H h)) H
    → IsTurnOf (ShowsHeld a) Anywhere (view F H) (view F' H') (λ s. put_turn s a h) (Done answers.Plain ∷ [])
reference_put F F' H H' a h frame mine last new_frames new_pins = go (H h) refl mine last new_pins
  where
    back : (s : CoreState) (by f : ℕ) → H h ≡ got by f → f ≡ frame → ShowsHandles H s → ShowsHandles (put h unmade H) (happens s (put_reference a frame h))
    back s by f is same shown k = at (k == h) refl
      where
        here : IsShown (got by f) (s.handle h) (s.pinned h) (s.got h)
        here = subst (λ (v : HandleValue). IsShown v (s.handle h) (s.pinned h) (s.got h)) is (shown h)

        at : (b : Bool) → (k == h) ≡ b → IsShown (cond b unmade (H k)) (s.handle k) (s.pinned k) (cond b None (s.got k))
        at true e = (ap s.handle (eqb-true k h e) ∙ here.0, refl)
        at false e = shown k

    go : (v : HandleValue) → H h ≡ v → IsGotBy v a → HasLast v frame → H' ≡ put h (without_last v) H
        → IsTurnOf (ShowsHeld a) Anywhere (view F H) (view F' H') (λ s. put_turn s a h) (Done answers.Plain ∷ [])
    go (got by f) is mine_so last_so new s shown stands =
        let here : IsShown (got by f) (s.handle h) (s.pinned h) (s.got h) = subst (λ (v : HandleValue). IsShown v (s.handle h) (s.pinned h) (s.got h)) is (shown.pins h) in
        let found : (by == a) ≡ true = grind (arith, nat_tests) in
        let has : has_reference (got_by (s.got h)) a ≡ true = ap (λ (r : Option (ℕ × ℕ)). has_reference (got_by r) a) here.1 ∙ found in
        let frame_so : got_frame (s.got h) ≡ frame = ap got_frame here.1 ∙ last_so in
        let t : CoreState = happens s (put_reference a frame h) in
        leads_alike (ap (λ b. put_turn_by b a h (got_frame (s.got h))) has ∙ ap (λ g. put_turn_by true a h g) frame_so)
        (record {
          says = refl;
          shown = record {
            frames = subst (λ (x : FramesValue). ShowsFrames x t) (sym new_frames) (shows_frames 0 F s (putting_back a frame h) shown.frames);
            pins = subst (λ (x : HandlesValue). ShowsHandles x t) (sym new) (back s by f is last_so shown.pins);
            store = tt;
          };
        })
    go v is none last_so new s shown stands = absurd none

-- whoever didn't get it, or has put it back, has none
unreferenced : (v : HandleValue) (handle : plain.Handle) (pinned : List ℕ) (reference : Option (ℕ × ℕ)) (a : ℕ) → (IsGotBy v a → ⊥) → IsShown v handle pinned reference → has_reference (got_by reference) a ≡ false
unreferenced (got by f) handle pinned reference a other shown = ap (λ (r : Option (ℕ × ℕ)). has_reference (got_by r) a) shown.1 ∙ lacks (by == a) refl
  where
    lacks : (b : Bool) → (by == a) ≡ b → b ≡ false
    lacks true is = absurd (other (eqb-true by a is))
    lacks false is = refl
unreferenced unmade handle pinned reference a other shown = ap (λ (r : Option (ℕ × ℕ)). has_reference (got_by r) a) shown.1
unreferenced (held by frames write) handle pinned reference a other shown = ap (λ (r : Option (ℕ × ℕ)). has_reference (got_by r) a) shown.2
unreferenced (given to frames write) handle pinned reference a other shown = ap (λ (r : Option (ℕ × ℕ)). has_reference (got_by r) a) shown.2
unreferenced gone handle pinned reference a other shown = ap (λ (r : Option (ℕ × ℕ)). has_reference (got_by r) a) shown.1

pub put_refused : (F : FramesValue) (H : HandlesValue) (a h : ℕ) → (IsGotBy (H h) a → ⊥) → IsTurnOf (ShowsHeld a) Anywhere (view F H) (view F H) (λ s. put_turn s a h) (Done answers.NotHeld ∷ [])
put_refused F H a h other s shown stands =
    leads_alike
    (ap (λ b. put_turn_by b a h (got_frame (s.got h))) (unreferenced (H h) (s.handle h) (s.pinned h) (s.got h) a other (shown.pins h)))
    (record { says = refl; shown = shown })
