-- What an unpin, a give or a take makes of frames and pins is the turn's.
use Rattle.std.proofs.Common.{◌≡◌, ℕ, ◌-◌, ◌≤◌, ◌==◌, Bool, true, false, cond, List, [], ◌∷◌, ◌++◌, length, slice_get, slice_index, Option, Some, None, Result, Ok, Err, IsOk, OnOk, is_err, is_ok, refl, sym, ap, ◌∙◌, subst, eqb-true, length-append, arith}
use Rattle.std.proofs.Math.Seq.{get_or-append_seam}
use Rattle.std.proofs.lemmas.Bool.Decides.{nat_tests}
use Rattle.gup_plain.specs.Denial.{is_held_by}
use Rattle.gup_plain.specs.Event.{given_to as given_in_state, held_by as held_in_state}
use Rattle.gup_plain.specs.Put.{put}
use Rattle.gup_plain.specs.State as plain
use Rattle.gup_plain.specs.declared.answer.Answer.TheVariants as answers
use Rattle.gup_plain.specs.declared.event.PlainEvent.TheVariants as events
use Rattle.gup_plain.specs.declared.note.What.{What}
use Rattle.gup_plain.specs.declared.note.What.TheVariants.{Silent, Event, Done}
use Rattle.gup_frames.specs.Frames.{FramesValue, IsFrame, without_references}
use Rattle.gup_space.proofs.After.{unpinning, giving, taking_over}
use Rattle.gup_space.specs.Shows.{ShowsFrames}
use Rattle.gup_space.proofs.ShowsLemmas.{shows_frames}
use Rattle.gup_handles.specs.Handles.{HandleValue, HandlesValue, held, given, gone, IsPinOf, IsGivenTo, given_to, taken_by, but_last, held_or_gone, without_last, HasLast}
use Rattle.gup_spec_events.specs.State.{CoreState}
use Rattle.gup_spec_events.specs.Event.{happens, unpin_page, give_handle, take_handle}
use Rattle.gup_spec_turns.specs.PinTurns.{last_of, unpinned, unpin_turn, give_turn, take_turn}
use Rattle.gup_spec_turns.proofs.TurnParts.{unpin_turn_by, give_turn_by}
use Rattle.gup_op_base.specs.Turns.{IsTurnOf, Anywhere}
use Rattle.gup_op_base.proofs.Leading.{leads_alike}
use Rattle.gup_handles.specs.Shows.{IsShown, ShowsHandles}
use Rattle.gup_op_pins.specs.Pins.{IsWeighed}
use Rattle.gup_op_base.specs.Said.{silent_said, done_said}
use Rattle.gup_op_pins.specs.Held.{HeldView, ShowsHeld, unpin_said}

abbrev pub view : FramesValue → HandlesValue → HeldView
view F H = record { frames = F; pins = H; store = None }

pub on_ok : {E : Type 0} {P : Type 0} (r : Result (Unit {0}) E) → is_err r ≡ false → OnOk r P → P
on_ok (Ok ok) is h = h
on_ok (Err e) is h = absurd (cc)

pub passed : {A E : Type 0} (r : Result A E) → is_err r ≡ false → IsOk r
passed (Ok value) is = refl
passed (Err e) is = absurd (cc)

pub failed : {A E : Type 0} (r : Result A E) → is_ok r ≡ false → IsOk r → ⊥
failed (Ok value) is ok = absurd (cc)
failed (Err e) is ok = absurd (cc)

-- one handle changes
pins_changed : (H : HandlesValue) (h : ℕ) (v : HandleValue) (handle : plain.Handle) (pages : ℕ → List ℕ) (s : CoreState) → IsShown v handle (pages h) (s.got h)
    → ((k : ℕ) → (k ≡ h → ⊥) → pages k ≡ s.pinned k) → ShowsHandles H s → (k : ℕ) → IsShown (put h v H k) (put h handle s.handle k) (pages k) (s.got k)
pins_changed H h v handle pages s pin others shown k = go (k == h) refl
  where
    go : (here : Bool) → (k == h) ≡ here → IsShown (cond here v (H k)) (cond here handle (s.handle k)) (pages k) (s.got k)
    go true is = subst (λ j. IsShown v handle (pages j) (s.got j)) (sym (eqb-true k h is)) pin
    go false is =
        let apart : k ≡ h → ⊥ = λ same. grind (arith, nat_tests) in
        subst (λ (ps : List ℕ). IsShown (H k) (s.handle k) ps (s.got k)) (sym (others k apart)) (shown k)

-- a pin that an actor holds is held in the state
held_there : (v : HandleValue) (handle : plain.Handle) (pinned : List ℕ) (reference : Option (ℕ × ℕ)) (a : ℕ) → IsPinOf v a → IsShown v handle pinned reference → is_held_by handle a ≡ true
held_there (held by frames write) handle pinned reference a is pin =
    let same : (by == a) ≡ true = grind (arith, nat_tests) in ap (λ h. is_held_by h a) pin.0.1 ∙ same
held_there v handle pinned reference a none pin = absurd none

-- ---- give

given_shown : (v : HandleValue) (handle : plain.Handle) (pinned : List ℕ) (reference : Option (ℕ × ℕ)) (a to : ℕ) → IsPinOf v a → IsShown v handle pinned reference → IsShown (given_to to v) (given_in_state handle to) pinned reference
given_shown (held by frames write) handle pinned reference a to is pin = ((pin.0.0, ap (λ h. given_in_state h to) pin.0.1), pin.1, pin.2)
given_shown v handle pinned reference a to none pin = absurd none

abbrev pub given_whats : (a handle to : ℕ) → List What
given_whats a handle to = Event (events.Give a handle to) ∷ Done answers.Plain ∷ []

pub pin_given : (F : FramesValue) (H H' : HandlesValue) (a h to : ℕ) → IsPinOf (H h) a → H' ≡ put h (given_to to (H h)) H
    → IsTurnOf (ShowsHeld a) Anywhere (view F H) (view F H') (λ s. give_turn s a h to) (given_whats a h to)
pin_given F H H' a h to is new_pins s shown stands =
    let t : CoreState = happens s (give_handle a h to) in
    leads_alike (ap (λ b. give_turn_by b a h to) (held_there (H h) (s.handle h) (s.pinned h) (s.got h) a is (shown.pins h)))
    (record {
      says = refl;
      shown = record {
        frames = shows_frames 0 F s (giving a h to) shown.frames;
        pins =
            subst (λ (x : HandlesValue). ShowsHandles x t) (sym new_pins)
            (pins_changed H h (given_to to (H h)) (given_in_state (s.handle h) to) s.pinned s (given_shown (H h) (s.handle h) (s.pinned h) (s.got h) a to is (shown.pins h)) (λ k apart. refl) shown.pins);
        store = tt;
      };
    })

-- ---- take

taken_shown : (v : HandleValue) (handle : plain.Handle) (pinned : List ℕ) (reference : Option (ℕ × ℕ)) (a : ℕ) → IsGivenTo v a → IsShown v handle pinned reference → IsShown (taken_by a v) (held_in_state handle a) pinned reference
taken_shown (given to frames write) handle pinned reference a is pin = ((pin.0.0, ap (λ h. held_in_state h a) pin.0.1), pin.1, pin.2)
taken_shown v handle pinned reference a none pin = absurd none

abbrev pub taken_whats : (a handle : ℕ) → List What
taken_whats a handle = Event (events.Take a handle) ∷ Done answers.Plain ∷ []

pub pin_taken : (F : FramesValue) (H H' : HandlesValue) (a h : ℕ) (took : Bool) → IsGivenTo (H h) a → took ≡ true → H' ≡ cond took (put h (taken_by a (H h)) H) H
    → IsTurnOf (ShowsHeld a) Anywhere (view F H) (view F H') (λ s. take_turn a h) (taken_whats a h)
pin_taken F H H' a h true is took new_pins s shown stands =
    let t : CoreState = happens s (take_handle a h) in
    record {
      says = refl;
      shown = record {
        frames = shows_frames 0 F s (taking_over a h) shown.frames;
        pins =
            subst (λ (x : HandlesValue). ShowsHandles x t) (sym new_pins)
            (pins_changed H h (taken_by a (H h)) (held_in_state (s.handle h) a) s.pinned s (taken_shown (H h) (s.handle h) (s.pinned h) (s.got h) a is (shown.pins h)) (λ k apart. refl) shown.pins);
        store = tt;
      };
    }
pin_taken F H H' a h false is took new_pins s shown stands = absurd (cc)

-- ---- unpin

last_there : (front : List ℕ) (f : ℕ) → slice_get (front ++ f ∷ []) (length front) ≡ Some f
last_there [] f = refl
last_there (g ∷ front) f = last_there front f

last_is : (front : List ℕ) (f : ℕ) → last_of (front ++ f ∷ []) ≡ f
last_is front f =
    let at : length (front ++ f ∷ []) - 1 ≡ length front = omega (arith, length-append front (f ∷ [])) in
    ap (λ k. slice_index (front ++ f ∷ []) k) at ∙ get_or-append_seam front f [] 0

-- the frame of the last page is there, and has the weight of a pin
pub last_weighed : (F : FramesValue) (v : HandleValue) (a frame : ℕ) → IsWeighed F v → IsPinOf v a → HasLast v frame → IsFrame F frame × (1024 ≤ F.count frame)
last_weighed F (held by frames write) a frame weighed is last =
    weighed (length (but_last frames)) frame (ap (λ (l : List ℕ). slice_get l (length (but_last frames))) last ∙ last_there (but_last frames) frame)
last_weighed F v a frame weighed none last = absurd none

-- what an unpin says that leaves pages, and one that leaves none
abbrev pub unpinned_whats : (left : Bool) → (a handle : ℕ) → List What
unpinned_whats true a handle = Silent ∷ []
unpinned_whats false a handle = Event (events.Unpin a handle) ∷ Done answers.Plain ∷ []

unpin_says : (by a h : ℕ) (left : List ℕ) (write still : Bool) → by ≡ a → (still ≡ true → IsPinOf (held_or_gone by left write) a) → (still ≡ false → IsPinOf (held_or_gone by left write) a → ⊥)
    → unpinned left a h ≡ unpinned_whats still a h
unpin_says by a h [] write true is some none = absurd (some refl)
unpin_says by a h [] write false is some none = refl
unpin_says by a h (f ∷ left) write true is some none = refl
unpin_says by a h (f ∷ left) write false is some none = absurd (none refl is)

unpinned_shown : (by : ℕ) (frames left : List ℕ) (write : Bool) (handle : plain.Handle) (pinned : List ℕ) (reference : Option (ℕ × ℕ)) → IsShown (held by frames write) handle pinned reference
    → IsShown (held_or_gone by left write) (elim left [ [] ↦ plain.gone | g ∷ gs ↦ handle ]) left reference
unpinned_shown by frames [] write handle pinned reference pin = (refl, pin.2)
unpinned_shown by frames (f ∷ left) write handle pinned reference pin = (pin.0, refl, pin.2)

unpin_by : (F F' : FramesValue) (H H' : HandlesValue) (by a h frame : ℕ) (frames : List ℕ) (write still : Bool) → H h ≡ held by frames write → by ≡ a → frames ≡ but_last frames ++ frame ∷ []
    → F' ≡ without_references frame 1024 F → H' ≡ put h (held_or_gone by (but_last frames) write) H
    → (still ≡ true → IsPinOf (held_or_gone by (but_last frames) write) a) → (still ≡ false → IsPinOf (held_or_gone by (but_last frames) write) a → ⊥)
    → IsTurnOf (ShowsHeld a) Anywhere (view F H) (view F' H') (λ s. unpin_turn s a h) (unpinned_whats still a h)
unpin_by F F' H H' by a h frame frames write still is mine last new_frames new_pins some none s shown stands =
    let left : List ℕ = but_last frames in
    let pin : IsShown (held by frames write) (s.handle h) (s.pinned h) (s.got h) = subst (λ (v : HandleValue). IsShown v (s.handle h) (s.pinned h) (s.got h)) is (shown.pins h) in
    let held_so : is_held_by (s.handle h) a ≡ true = held_there (held by frames write) (s.handle h) (s.pinned h) (s.got h) a mine pin in
    let f_is : last_of frames ≡ frame = ap last_of last ∙ last_is left frame in
    let t : CoreState = happens s (unpin_page a h (last_of frames) left) in
    leads_alike (ap (λ b. unpin_turn_by b a h (s.pinned h)) held_so ∙ ap (λ (ps : List ℕ). unpin_turn_by true a h ps) pin.1)
    (record {
      says = unpin_says by a h left write still mine some none;
      shown = record {
        frames =
            subst (λ (x : FramesValue). ShowsFrames x t) (ap (λ f. without_references f 1024 F) f_is ∙ sym new_frames)
            (shows_frames 0 F s (unpinning a h (last_of frames) left) shown.frames);
        pins =
            subst (λ (x : HandlesValue). ShowsHandles x t) (sym new_pins)
            (pins_changed H h (held_or_gone by left write) (elim left [ [] ↦ plain.gone | g ∷ gs ↦ s.handle h ]) (put h left s.pinned) s
            (subst (λ (ps : List ℕ). IsShown (held_or_gone by left write) (elim left [ [] ↦ plain.gone | g ∷ gs ↦ s.handle h ]) ps (s.got h)) (sym (here s))
            (unpinned_shown by frames left write (s.handle h) (s.pinned h) (s.got h) pin))
            (λ k apart. others s k apart) shown.pins);
        store = tt;
      };
    })
  where
    here : (s : CoreState) → put h (but_last frames) s.pinned h ≡ but_last frames
    here s = grind (arith, nat_tests)

    others : (s : CoreState) (k : ℕ) → (k ≡ h → ⊥) → put h (but_last frames) s.pinned k ≡ s.pinned k
    others s k apart = grind (arith, nat_tests)

pub put_at : (h : ℕ) (v : HandleValue) (H : HandlesValue) → put h v H h ≡ v
put_at h v H = grind (arith, nat_tests)

-- a pin of one page leaves none behind, and one of more pages is still the actor's
left_held : (a frame : ℕ) (pages left : List ℕ) (write : Bool) → pages ≡ left ++ frame ∷ [] → (length pages ≡ 1 → ⊥) → IsPinOf (held_or_gone a left write) a
left_held a frame pages [] write is more = absurd (more (ap length is))
left_held a frame pages (f ∷ left) write is more = refl

none_held : (a frame : ℕ) (pages left : List ℕ) (write : Bool) → pages ≡ left ++ frame ∷ [] → length pages ≡ 1 → IsPinOf (held_or_gone a left write) a → ⊥
none_held a frame pages [] write is one holds = holds
none_held a frame pages (f ∷ left) write is one holds =
    absurd (omega (arith, ap length is, length-append left (frame ∷ []), one))

handle_now : (H H' : HandlesValue) (a h : ℕ) (pages : List ℕ) (write : Bool) → H h ≡ held a pages write → H' ≡ put h (without_last (H h)) H → H' h ≡ held_or_gone a (but_last pages) write
handle_now H H' a h pages write pin new = ap (λ (f : HandlesValue). f h) new ∙ put_at h (without_last (H h)) H ∙ ap without_last pin

pub pin_is_mine : (v : HandleValue) (a : ℕ) (pages : List ℕ) (write : Bool) → v ≡ held a pages write → IsPinOf v a
pin_is_mine v a pages write pin = subst (λ (x : HandleValue). IsPinOf x a) (sym pin) refl

pub pages_left : (H H' : HandlesValue) (a h frame : ℕ) (pages : List ℕ) (write : Bool) → H h ≡ held a pages write → HasLast (H h) frame → H' ≡ put h (without_last (H h)) H → (length pages ≡ 1 → ⊥) → IsPinOf (H' h) a
pages_left H H' a h frame pages write pin last new more =
    subst (λ (x : HandleValue). IsPinOf x a) (sym (handle_now H H' a h pages write pin new))
    (left_held a frame pages (but_last pages) write (subst (λ (x : HandleValue). HasLast x frame) pin last) more)

pub none_left_of : (H H' : HandlesValue) (a h frame : ℕ) (pages : List ℕ) (write : Bool) → H h ≡ held a pages write → HasLast (H h) frame → H' ≡ put h (without_last (H h)) H → length pages ≡ 1 → IsPinOf (H' h) a → ⊥
none_left_of H H' a h frame pages write pin last new one holds =
    none_held a frame pages (but_last pages) write (subst (λ (x : HandleValue). HasLast x frame) pin last) one
    (subst (λ (x : HandleValue). IsPinOf x a) (handle_now H H' a h pages write pin new) holds)

pub page_unpinned : (F F' : FramesValue) (H H' : HandlesValue) (a h frame : ℕ) (still : Bool) → IsPinOf (H h) a → HasLast (H h) frame
    → F' ≡ without_references frame 1024 F → H' ≡ put h (without_last (H h)) H → (still ≡ true → IsPinOf (H' h) a) → (still ≡ false → IsPinOf (H' h) a → ⊥)
    → IsTurnOf (ShowsHeld a) Anywhere (view F H) (view F' H') (λ s. unpin_turn s a h) (unpinned_whats still a h)
page_unpinned F F' H H' a h frame still mine last new_frames new_pins some none = go (H h) refl mine last new_pins
  where
    now : (v : HandleValue) → H' ≡ put h v H → H' h ≡ v
    now v new = ap (λ (f : HandlesValue). f h) new ∙ put_at h v H

    go : (v : HandleValue) → H h ≡ v → IsPinOf v a → HasLast v frame → H' ≡ put h (without_last v) H
        → IsTurnOf (ShowsHeld a) Anywhere (view F H) (view F' H') (λ s. unpin_turn s a h) (unpinned_whats still a h)
    go (held by frames write) is mine_so last_so new =
        let v : HandleValue = held_or_gone by (but_last frames) write in
        unpin_by F F' H H' by a h frame frames write still is mine_so last_so new_frames new
        (λ so. subst (λ (x : HandleValue). IsPinOf x a) (now v new) (some so))
        (λ so holds. none so (subst (λ (x : HandleValue). IsPinOf x a) (sym (now v new)) holds))
    go v is none_so last_so new = absurd none_so

-- ---- what is said, whatever the other handles are

-- an unpin is silent that leaves a pin
pub still_says : (v : HandleValue) (a h : ℕ) → IsPinOf v a → unpin_said v a h ≡ silent_said
still_says (held by frames write) a h is = refl
still_says v a h none = absurd none

none_left : (by : ℕ) (left : List ℕ) (write : Bool) (a : ℕ) → by ≡ a → (IsPinOf (held_or_gone by left write) a → ⊥) → held_or_gone by left write ≡ gone
none_left by [] write a is none = refl
none_left by (f ∷ left) write a is none = absurd (none is)

pin_gone : (v : HandleValue) (a : ℕ) → IsPinOf v a → (IsPinOf (without_last v) a → ⊥) → without_last v ≡ gone
pin_gone (held by frames write) a is none = none_left by (but_last frames) write a is none
pin_gone v a none left = absurd none

-- and one that leaves none ends
pub gone_says : (H H' : HandlesValue) (a h : ℕ) → IsPinOf (H h) a → H' ≡ put h (without_last (H h)) H → (IsPinOf (H' h) a → ⊥) → unpin_said (H' h) a h ≡ done_said (events.Unpin a h) answers.Plain
gone_says H H' a h mine new none =
    let now : H' h ≡ without_last (H h) = ap (λ (f : HandlesValue). f h) new ∙ put_at h (without_last (H h)) H in
    ap (λ (v : HandleValue). unpin_said v a h)
    (now ∙ pin_gone (H h) a mine (λ holds. none (subst (λ (v : HandleValue). IsPinOf v a) (sym now) holds)))
