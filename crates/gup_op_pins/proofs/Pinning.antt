-- What a turn of a pin makes of frames, a process, pins and what was taken is the turn's.
use Rattle.std.proofs.Common.{◌≡◌, ℕ, ◌+◌, ◌<◌, ◌==◌, Bool, true, false, cond, List, [], ◌∷◌, ◌++◌, length, slice_get, Option, Some, None, Ok, Err, zero, suc, refl, sym, ap, ◌∙◌, subst, eqb-true, arith, ◌&&◌, nat_lt, not, is_none, if◌then◌else◌}
use Rattle.std.proofs.lemmas.List.{map-append}
use Rattle.std.proofs.lemmas.Bool.Decides.{nat_tests}
use Rattle.gup_base.specs.declared.entry.Allowed.{Allowed}
use Rattle.gup_base.specs.declared.entry.Allowed.TheVariants.{Any, Only}
use Rattle.gup_base.specs.declared.entry.Entry.{Entry}
use Rattle.gup_base.specs.declared.entry.Want.{Want}
use Rattle.gup_base.specs.declared.entry.Zone.TheVariants.{Normal}
use Rattle.gup_plain.specs.Put.{put}
use Rattle.gup_plain.specs.State as plain
use Rattle.gup_plain.specs.declared.answer.Answer.{Answer}
use Rattle.gup_plain.specs.declared.answer.Answer.TheVariants as answers
use Rattle.gup_plain.specs.declared.note.What.{What}
use Rattle.gup_plain.specs.declared.note.What.TheVariants.{Silent}
use Rattle.gup_frames.specs.Frames.{FramesValue, free_frame, with_references}
use Rattle.gup_space.specs.Space.{SpaceValue, with_entry}
use Rattle.gup_space.proofs.After.{flagging, pinning, making}
use Rattle.gup_space.specs.Shows.{Change, ShowsFrames, ShowsSpace}
use Rattle.gup_space.proofs.ShowsLemmas.{shows_frames, shows_space, events_lead}
use Rattle.gup_handles.specs.Handles.{HandleValue, HandlesValue, unmade, held}
use Rattle.gup_spec_events.specs.State.{CoreState, Taken as TakenPage, Job, idle, moving, walking, Counted, unread, one, more}
use Rattle.gup_spec_events.specs.Event.{CoreEvent, happens, pin_page, make_handle, writes_taken, objects_taken, taken_frames as frames_taken, run, entry_of, counted_as, take_frame, put_entry, clear_entry, count_moved, place_frame, restore_entry}
use Rattle.gup_spec_events.specs.Invariant.{frame_of}
use Rattle.gup_spec_events.specs.Fault.{Fault, events_of, refusal_of}
use Rattle.gup_fault.specs.Faults.{IsFault}
use Rattle.gup_spec_turns.specs.CoreTurn.{zones_of, entry_in}
use Rattle.gup_spec_turns.specs.PinTurns.{raises, makes_if, pins, ends_pin, pin_turn, pin_turn_by, moves_first, pins_behind, clears_behind, clears_or_pins, ends_moved, pins_moved, moved_turn, pin_turn_in, begins_or_pins}
use Rattle.gup_handles.specs.Shows.{IsShown, ShowsHandles}
use Rattle.gup_op_pins.specs.Pins.{PinningView, ShowsPinning, StandsAtPage, EndAt, raised, fault_to_pin, IsMade, IsEnded, IsTaken, tried_whats, ended_whats}
use Rattle.gup_spec_turns.specs.MoveTurns.{count_turn}
use Rattle.gup_spec_turns.specs.JobPlace.{job_place, unbegun, moving_page}
use Rattle.gup_spec_turns.specs.PinPlace.{HasTaken, HasPages, StandsAtPage as IsAtPage}
use Rattle.gup_move.specs.Moves.{with_table, AreMoveEvents, places}
use Rattle.gup_op_base.proofs.Searching.{free_agrees}
use Rattle.gup_op_base.specs.Tidy.{IsTidy}
use Rattle.gup_op_base.specs.Turns.{Leads}
use Rattle.gup_op_base.proofs.Leading.{ch, leads_alike}
use Rattle.gup_op_pins.proofs.Readying.{IsLeft, pin_fault_same, fault_raised, pin_fault_leaves}
use Rattle.gup_spec_events.proofs.Runs.{run_behind}

-- a pin that is in the middle of nothing
abbrev pub IsOver : PinningView → Type 0
IsOver view = (view.place ≡ unbegun) × (view.last ≡ None)

pub no_last : (last : Option ℕ) (taken : List TakenPage) → last ≡ None → EndAt last taken
no_last None taken none = tt
no_last (Some page) taken none = absurd (cc)

put_own : {X : Type 0} (k : ℕ) (x : X) (f : ℕ → X) → put k x f k ≡ x
put_own k x f = grind (arith, nat_tests)

-- has-pinned set before the first page
pub raised_tidy : (F : FramesValue) (S : SpaceValue) (got : ℕ) (fast : Bool) → IsTidy F S → IsTidy F (raised got fast S)
raised_tidy F S zero false tidy =
    record { numbered = tidy.numbered; mapped = tidy.mapped; there = tidy.there; counted = tidy.counted; marked = tidy.marked }
raised_tidy F S zero true tidy = tidy
raised_tidy F S (suc got) fast tidy = tidy

pub raised_unlocked : (S : SpaceValue) (got : ℕ) (fast : Bool) → S.table ≡ None → (raised got fast S).table ≡ None
raised_unlocked S zero false unlocked = unlocked
raised_unlocked S zero true unlocked = unlocked
raised_unlocked S (suc got) fast unlocked = unlocked

raise_frames : (F : FramesValue) (a p got : ℕ) (fast : Bool) (s : CoreState) → ShowsFrames F s → ShowsFrames F (run s (raises a p got fast))
raise_frames F a p zero false s h = shows_frames p F s (flagging a) h
raise_frames F a p zero true s h = h
raise_frames F a p (suc got) fast s h = h

raise_space : (S : SpaceValue) (a p got : ℕ) (fast : Bool) (s : CoreState) → ShowsSpace p S s → ShowsSpace p (raised got fast S) (run s (raises a p got fast))
raise_space S a p zero false s h = shows_space p S s (flagging a) h
raise_space S a p zero true s h = h
raise_space S a p (suc got) fast s h = h

-- a slow turn of a pin that walks is none of its first ones
raise_flags : (a p got far : ℕ) (fast : Bool) (s : CoreState) → (fast && far == 0) ≡ false → (0 < got + far → s.has_pinned p ≡ true) → (run s (raises a p got fast)).has_pinned p ≡ true
raise_flags a p zero far false s slow before = put_own p true s.has_pinned
raise_flags a p zero zero true s slow before = absurd (cc)
raise_flags a p zero (suc far) true s slow before = before (omega arith)
raise_flags a p (suc got) far fast s slow before = before (omega arith)

-- what only the flag's event changes
raise_handle : (a p got : ℕ) (fast : Bool) (s : CoreState) → (run s (raises a p got fast)).handle ≡ s.handle
raise_handle a p zero false s = refl
raise_handle a p zero true s = refl
raise_handle a p (suc got) fast s = refl

raise_pinned : (a p got : ℕ) (fast : Bool) (s : CoreState) → (run s (raises a p got fast)).pinned ≡ s.pinned
raise_pinned a p zero false s = refl
raise_pinned a p zero true s = refl
raise_pinned a p (suc got) fast s = refl

raise_got : (a p got : ℕ) (fast : Bool) (s : CoreState) → (run s (raises a p got fast)).got ≡ s.got
raise_got a p zero false s = refl
raise_got a p zero true s = refl
raise_got a p (suc got) fast s = refl

raise_taken : (a p got : ℕ) (fast : Bool) (s : CoreState) → (run s (raises a p got fast)).taken ≡ s.taken
raise_taken a p zero false s = refl
raise_taken a p zero true s = refl
raise_taken a p (suc got) fast s = refl

-- handles are shown by the same pins, pinned pages and references
pub shows_same : (H : HandlesValue) (s t : CoreState) → t.handle ≡ s.handle → t.pinned ≡ s.pinned → t.got ≡ s.got → ShowsHandles H s → ShowsHandles H t
shows_same H s t handles pages gots h k =
    subst (λ (f : ℕ → plain.Handle). IsShown (H k) (f k) (t.pinned k) (t.got k)) (sym handles)
    (subst (λ (f : ℕ → List ℕ). IsShown (H k) (s.handle k) (f k) (t.got k)) (sym pages)
    (subst (λ (f : ℕ → Option (ℕ × ℕ)). IsShown (H k) (s.handle k) (s.pinned k) (f k)) (sym gots) (h k)))

-- of a handle that is unmade the state has no pin, and no reference
pub unmade_shown : (v : HandleValue) (handle : plain.Handle) (pinned : List ℕ) (reference : Option (ℕ × ℕ)) → v ≡ unmade → IsShown v handle pinned reference → (handle ≡ plain.unmade) × (reference ≡ None)
unmade_shown v handle pinned reference is shown = subst (λ (x : HandleValue). IsShown x handle pinned reference) is shown

-- ---- a handle is made of what was taken

writes_behind : (taken : List TakenPage) (last : TakenPage) (write : Bool) → ((k : ℕ) (t : TakenPage) → slice_get taken k ≡ Some t → t.write ≡ write) → last.write ≡ write
    → writes_taken (taken ++ last ∷ []) ≡ write
writes_behind [] last write each is = is
writes_behind (t ∷ taken) last write each is = each 0 t refl

pub writes_some : (taken : List TakenPage) (write : Bool) → 0 < length taken → ((k : ℕ) (t : TakenPage) → slice_get taken k ≡ Some t → t.write ≡ write) → writes_taken taken ≡ write
writes_some [] write some each = absurd (omega arith)
writes_some (t ∷ taken) write some each = each 0 t refl

pub pins_made : (H : HandlesValue) (a h : ℕ) (frames : List ℕ) (write : Bool) (s : CoreState) → frames_taken (s.taken a) ≡ frames → writes_taken (s.taken a) ≡ write → H h ≡ unmade → ShowsHandles H s
    → ShowsHandles (put h (held a frames write) H) (happens s (make_handle a h))
pins_made H a h frames write s taken writes yet shown k = go (k == h) refl
  where
    objects : List ℕ
    objects = objects_taken (s.taken a)

    ungot : s.got h ≡ None
    ungot = (unmade_shown (H h) (s.handle h) (s.pinned h) (s.got h) yet (shown h)).1

    go : (here : Bool) → (k == h) ≡ here → IsShown (cond here (held a frames write) (H k)) (cond here (plain.held a objects (writes_taken (s.taken a))) (s.handle k)) (cond here (frames_taken (s.taken a)) (s.pinned k)) (s.got k)
    go true is = ((objects, ap (λ w. plain.held a objects w) writes), taken, ap s.got (eqb-true k h is) ∙ ungot)
    go false is = shown k

pub none_taken : (a h : ℕ) (s : CoreState) → frames_taken ((happens s (make_handle a h)).taken a) ≡ []
none_taken a h s = grind (arith, nat_tests)

-- ---- a page is taken

abbrev taken_page : CoreState → (p page : ℕ) → Entry → Want → TakenPage
taken_page s p page e want =
    record { proc = p; page = page; frame = e.frame; object = s.object p page; write = want.write; long = want.long }

page_taken : (a p page : ℕ) (e : Entry) (want : Want) (s : CoreState) → (happens s (pin_page a p page e want.write want.long)).taken a ≡ s.taken a ++ taken_page s p page e want ∷ []
page_taken a p page e want s = grind (arith, nat_tests)

frames_behind : (taken : List TakenPage) (last : TakenPage) (frames : List ℕ) → frames_taken taken ≡ frames → frames_taken (taken ++ last ∷ []) ≡ frames ++ last.frame ∷ []
frames_behind taken last frames is = map-append (λ (t : TakenPage). t.frame) taken (last ∷ []) ∙ ap (λ (fs : List ℕ). fs ++ last.frame ∷ []) is

pub frame_is : (entry : Option Entry) (frame : ℕ) → frame_of entry ≡ Some frame → (entry_in entry).frame ≡ frame
frame_is None frame is = absurd (cc)
frame_is (Some e) frame is = cc

-- has-pinned is set already
flag_again : (p : ℕ) (S : SpaceValue) (s : CoreState) → s.has_pinned p ≡ true → ShowsSpace p S s → ShowsSpace p (record S { has_pinned = true }) s
flag_again p S s flag h =
    record { right = h.right; pages = h.pages; entry = h.entry; sequence = h.sequence; has_pinned = flag; structure = h.structure; table = h.table; walks = h.walks; place = h.place; retired = h.retired }

take_page : (old new : PinningView) (F1 : FramesValue) (S2 : SpaceValue) (a p handle page frame : ℕ) (want : Want) (last : Bool) (e : Entry) (s : CoreState)
    → e.frame ≡ frame → new.frames ≡ with_references frame 1024 F1 → new.space ≡ record S2 { has_pinned = true } → IsMade last old.pins new.pins old.taken new.taken a handle frame want.write
    → ShowsFrames F1 s → ShowsSpace p S2 s → ShowsHandles old.pins s → frames_taken (s.taken a) ≡ old.taken → s.has_pinned p ≡ true
    → ((k : ℕ) (t : TakenPage) → slice_get (s.taken a) k ≡ Some t → t.write ≡ want.write) → s.job a ≡ idle → IsOver new
    → ShowsPinning a p new (run s (pin_page a p page e want.write want.long ∷ makes_if last a handle))
take_page old new F1 S2 a p handle page frame want last e s is new_frames new_space made frames space shown taken flag writes rests over = go last made
  where
    t : CoreState
    t = happens s (pin_page a p page e want.write want.long)

    frames_now : ShowsFrames new.frames t
    frames_now =
        subst (λ (x : FramesValue). ShowsFrames x t) (ap (λ f. with_references f 1024 F1) is ∙ sym new_frames)
        (shows_frames p F1 s (pinning a page e want.write want.long) frames)

    space_now : ShowsSpace p new.space t
    space_now =
        subst (λ (x : SpaceValue). ShowsSpace p x t) (sym new_space)
        (flag_again p S2 t flag (shows_space p S2 s (pinning a page e want.write want.long) space))

    pages : t.taken a ≡ s.taken a ++ taken_page s p page e want ∷ []
    pages = page_taken a p page e want s

    taken_now : frames_taken (t.taken a) ≡ old.taken ++ frame ∷ []
    taken_now =
        ap frames_taken pages ∙ frames_behind (s.taken a) (taken_page s p page e want) old.taken taken
        ∙ ap (λ f. old.taken ++ f ∷ []) is

    writes_now : writes_taken (t.taken a) ≡ want.write
    writes_now = ap writes_taken pages ∙ writes_behind (s.taken a) (taken_page s p page e want) want.write writes refl

    place_now : job_place (s.job a) (s.prepared a) ≡ new.place
    place_now = ap (λ (j : Job). job_place j (s.prepared a)) rests ∙ sym over.0

    go : (more : Bool) → IsMade more old.pins new.pins old.taken new.taken a handle frame want.write → ShowsPinning a p new (run t (makes_if more a handle))
    go true by =
        record {
          frames = shows_frames p new.frames t (making a handle) frames_now;
          space = shows_space p new.space t (making a handle) space_now;
          pins =
              subst (λ (x : HandlesValue). ShowsHandles x (happens t (make_handle a handle))) (sym by.1)
              (pins_made old.pins a handle (old.taken ++ frame ∷ []) want.write t taken_now writes_now by.0 shown);
          taken = none_taken a handle t ∙ sym by.2;
          place = place_now;
          last = no_last new.last _ over.1;
        }
    go false by =
        record {
          frames = frames_now;
          space = space_now;
          pins = subst (λ (x : HandlesValue). ShowsHandles x t) (sym by.0) shown;
          taken = taken_now ∙ sym by.1;
          place = place_now;
          last = no_last new.last _ over.1;
        }

-- the pin after events that lead there
pins_lead : (new : PinningView) (es : List CoreEvent) (a p handle page n : ℕ) (want : Want) (last : Bool) (e : Entry) (s t : CoreState) → run s es ≡ t
    → ShowsPinning a p new (run t (pin_page a p page e want.write want.long ∷ makes_if last a handle))
    → Leads (ShowsPinning a p) new s (pins_behind es a p handle page n want last e) (tried_whats last a p handle page n want.write)
pins_lead new es a p handle page n want last e s t same behind =
    let rest : List CoreEvent = pin_page a p page e want.write want.long ∷ makes_if last a handle in
    let here : ShowsPinning a p new (run (run s es) rest) = subst (λ (u : CoreState). ShowsPinning a p new (run u rest)) (sym same) behind in
    record { says = refl; shown = subst (ShowsPinning a p new) (sym (run_behind s es rest)) here }

-- ---- a page is refused

-- what is left of a pin after events that leave it in the middle of nothing
ends_lead : (old new : PinningView) (es : List CoreEvent) (a p handle n far : ℕ) (want : Want) (answer : Answer) (s t : CoreState) → run s es ≡ t
    → ShowsFrames new.frames t → ShowsSpace p new.space t → ShowsHandles old.pins t → frames_taken (t.taken a) ≡ old.taken → length (t.taken a) ≡ far
    → ((k : ℕ) (x : TakenPage) → slice_get (t.taken a) k ≡ Some x → x.write ≡ want.write) → t.job a ≡ idle → IsOver new
    → IsEnded far old.pins new.pins old.taken new.taken a handle want.write
    → Leads (ShowsPinning a p) new s (ends_pin es a handle n far answer) (ended_whats a handle n far answer)
ends_lead old new es a p handle n zero want answer s t same frames space shown taken many writes rests over ended =
    let here : ShowsPinning a p new t = record {
      frames = frames;
      space = space;
      pins = subst (λ (x : HandlesValue). ShowsHandles x t) (sym ended.0) shown;
      taken = taken ∙ sym ended.1;
      place = ap (λ (j : Job). job_place j (t.prepared a)) rests ∙ sym over.0;
      last = no_last new.last _ over.1;
    } in
    record { says = refl; shown = subst (ShowsPinning a p new) (sym same) here }
ends_lead old new es a p handle n (suc far) want answer s t same frames space shown taken many writes rests over ended =
    let made : CoreState = happens t (make_handle a handle) in
    let write : writes_taken (t.taken a) ≡ want.write = writes_some (t.taken a) want.write (omega (arith, many)) writes in
    let here : ShowsPinning a p new made = record {
      frames = shows_frames p new.frames t (making a handle) frames;
      space = shows_space p new.space t (making a handle) space;
      pins = subst (λ (x : HandlesValue). ShowsHandles x made) (sym ended.1) (pins_made old.pins a handle old.taken want.write t taken write ended.0 shown);
      taken = none_taken a handle t ∙ sym ended.2;
      place = ap (λ (j : Job). job_place j (t.prepared a)) rests ∙ sym over.0;
      last = no_last new.last _ over.1;
    } in
    record {
      says = refl;
      shown = subst (ShowsPinning a p new) (sym (run_behind s es (make_handle a handle ∷ []) ∙ ap (λ (u : CoreState). happens u (make_handle a handle)) same)) here;
    }

-- ---- where the pin stands

pub idle_job : (s : CoreState) (a p page n got : ℕ) (want : Want) (fast : Bool) (job : Job) (prepared : Option ℕ) → IsAtPage s a p page n got want fast job → job_place job prepared ≡ unbegun → job ≡ idle
idle_job s a p page n got want fast idle prepared at place = refl
idle_job s a p page n got want fast (moving q g e allowed count) prepared at place = absurd (cc)
idle_job s a p page n got want fast (walking q write long sequence step) prepared at place = absurd (cc)
idle_job s a p page n got want fast job prepared at place = absurd at

moving_job : (s : CoreState) (a p page n got g : ℕ) (want : Want) (fast : Bool) (e : Entry) (count : Counted) (job : Job) (prepared : Option ℕ) → IsAtPage s a p page n got want fast job → job_place job prepared ≡ moving_page g e count → job ≡ moving p page e (zones_of want) count
moving_job s a p page n got g want fast e count idle prepared at place = absurd (cc)
moving_job s a p page n got g want fast e count (walking q write long sequence step) prepared at place = absurd (cc)
moving_job s a p page n got g want fast e count (moving q h d allowed k) prepared at place =
    let entries : d ≡ e = cc in
    let counts : k ≡ count = cc in
    ap (λ (i : ℕ). moving i h d allowed k) at.0 ∙ ap (λ (i : ℕ). moving p i d allowed k) at.1
    ∙ ap (λ (zones : Allowed). moving p page d zones k) at.2 ∙ ap (λ (x : Entry). moving p page x (zones_of want) k) entries
    ∙ ap (λ (i : Counted). moving p page e (zones_of want) i) counts
moving_job s a p page n got g want fast e count job prepared at place = absurd at

-- the pages of a pin that doesn't walk
idle_pages : (p page got : ℕ) (want : Want) (taken : List TakenPage) (job : Job) → job ≡ idle → HasPages p page want got taken job → HasTaken p page want got taken
idle_pages p page got want taken job is pages = subst (HasPages p page want got taken) is pages

moving_pages : (p page got q g : ℕ) (want : Want) (e : Entry) (zones : Allowed) (count : Counted) (taken : List TakenPage) (job : Job) → job ≡ moving q g e zones count → HasPages p page want got taken job → HasTaken p page want got taken
moving_pages p page got q g want e zones count taken job is pages = subst (HasPages p page want got taken) is pages

-- a fault of a page of a pin that stands at this one
abbrev pub PinFault : (F F1 : FramesValue) (S S2 : SpaceValue) (page got : ℕ) → (fast : Bool) → Want → Option Answer → Type 0
PinFault F F1 S S2 page got fast want denied =
    IsFault (ch F F1 (raised got fast S) S2) denied (λ b q. fault_to_pin F (raised got fast S) b q page want.write (zones_of want))

-- as the code names the process
pub fault_at : (F F1 : FramesValue) (S S1 S2 : SpaceValue) (page got : ℕ) (fast : Bool) (want : Want) (denied : Option Answer) → S1 ≡ raised got fast S
    → IsFault (ch F F1 S1 S2) denied (λ b q. fault_to_pin F S1 b q page want.write (zones_of want)) → PinFault F F1 S S2 page got fast want denied
fault_at F F1 S S1 S2 page got fast want denied space h =
    subst (λ (x : SpaceValue). IsFault (ch F F1 x S2) denied (λ b q. fault_to_pin F x b q page want.write (zones_of want))) space h

-- the pin stands at the page after those that it has taken
turn_is : (F : FramesValue) (S : SpaceValue) (a p handle page n got far : ℕ) (want : Want) (fast : Bool) (s : CoreState) → (fast && far == 0) ≡ false → length (s.taken a) ≡ got → s.job a ≡ idle → ShowsFrames F s → ShowsSpace p S s
    → pin_turn s a p handle page n want fast far ≡ pin_turn_by (fault_to_pin F (raised got fast S) a p (page + got) want.write (zones_of want)) s a p handle (page + got) n got want fast
turn_is F S a p handle page n got far want fast s slow many job frames space =
    ap (λ (k : ℕ). pin_turn_in s a p handle page n k want fast far (s.job a)) many
    ∙ ap (pin_turn_in s a p handle page n got want fast far) job
    ∙ ap (λ (begins : Bool). begins_or_pins begins s a p handle page n got want fast) slow
    ∙ ap (λ (x : Fault). pin_turn_by x s a p handle (page + got) n got want fast)
    (pin_fault_same F S a p (page + got) want.write (zones_of want) s frames space ∙ sym (fault_raised F S a p (page + got) got fast want.write (zones_of want)))

raise_job : (a p got : ℕ) (fast : Bool) (s : CoreState) → (run s (raises a p got fast)).job ≡ s.job
raise_job a p zero false s = refl
raise_job a p zero true s = refl
raise_job a p (suc got) fast s = refl

-- ---- the first turn of a page

by_fault : (fault : Fault) (a p handle page n got : ℕ) (want : Want) (fast : Bool) (s : CoreState) (new : PinningView) (whats : List What) → refusal_of fault ≡ None
    → Leads (ShowsPinning a p) new s (pins s (raises a p got fast ++ events_of fault) a p handle page n want (got + 1 == n)) whats
    → Leads (ShowsPinning a p) new s (pin_turn_by fault s a p handle page n got want fast) whats
by_fault (Err answer) a p handle page n got want fast s new whats refused h = absurd (cc)
by_fault (Ok before) a p handle page n got want fast s new whats refused h = h

module _ (old new : PinningView) (F1 : FramesValue) (S2 : SpaceValue) (a p handle page n got far g : ℕ) (here : g ≡ page + got) (want : Want) (fast : Bool) (slow : (fast && far == 0) ≡ false) (unlocked : old.space.table ≡ None) (begun : old.place ≡ unbegun) (s : CoreState) (shown : ShowsPinning a p old s) (stands : StandsAtPage a p handle page n want fast got far s) where
  abbrev F : FramesValue
  F = old.frames

  abbrev S : SpaceValue
  S = old.space

  abbrev fault : Fault
  fault = fault_to_pin F (raised got fast S) a p g want.write (zones_of want)

  abbrev t0 : CoreState
  t0 = run s (raises a p got fast)

  abbrev t1 : CoreState
  t1 = run t0 (events_of fault)

  job_here : s.job a ≡ idle
  job_here = idle_job s a p (page + got) n got want fast (s.job a) (s.prepared a) stands.at.at (shown.place ∙ begun)

  pages_here : HasTaken p page want got (s.taken a)
  pages_here = idle_pages p page got want (s.taken a) (s.job a) job_here stands.at.taken

  turn_here : pin_turn s a p handle page n want fast far ≡ pin_turn_by fault s a p handle g n got want fast
  turn_here =
      subst (λ (k : ℕ). pin_turn s a p handle page n want fast far ≡ pin_turn_by (fault_to_pin F (raised got fast S) a p k want.write (zones_of want)) s a p handle k n got want fast) (sym here)
      (turn_is F S a p handle page n got far want fast s slow pages_here.many job_here shown.frames shown.space)

  -- after the events of the fault
  module _ (faults : PinFault F F1 S S2 g got fast want None) where
    same_run : run s (raises a p got fast ++ events_of fault) ≡ t1
    same_run = run_behind s (raises a p got fast) (events_of fault)

    shows : ShowsFrames F1 t1 × ShowsSpace p S2 t1
    shows =
        events_lead faults.events t0 a p (raise_frames F a p got fast s shown.frames) (raise_space S a p got fast s shown.space)
        ((raise_space S a p got fast s shown.space).table ∙ raised_unlocked S got fast unlocked)

    left : IsLeft a t0 t1
    left = pin_fault_leaves F (raised got fast S) a p g want.write (zones_of want) t0

    taken_same : t1.taken a ≡ s.taken a
    taken_same = ap (λ (f : ℕ → List TakenPage). f a) (left.taken ∙ raise_taken a p got fast s)

    job_then : t1.job a ≡ idle
    job_then = left.idles (ap (λ (f : ℕ → Job). f a) (raise_job a p got fast s) ∙ job_here)

    pins_then : ShowsHandles old.pins t1
    pins_then = shows_same old.pins s t1 (left.handle ∙ raise_handle a p got fast s) (left.pinned ∙ raise_pinned a p got fast s) (left.got ∙ raise_got a p got fast s) shown.pins

    -- which page is to be moved first, is read of the frames
    moves_same : (m : Bool) → (want.long && nat_lt (entry_in (S2.entry g)).frame F1.movable) ≡ m → moves_first t1 want (entry_in (t1.entry p g)) ≡ m
    moves_same m is =
        ap (λ (o : Option Entry). want.long && nat_lt (entry_in o).frame t1.movable) (shows.1.entry g)
        ∙ ap (λ (k : ℕ). want.long && nat_lt (entry_in (S2.entry g)).frame k) shows.0.movable ∙ is

    goes : (whats : List What) (m : Bool) → (want.long && nat_lt (entry_in (S2.entry g)).frame F1.movable) ≡ m
        → Leads (ShowsPinning a p) new s (clears_or_pins m (raises a p got fast ++ events_of fault) a p handle g n want (got + 1 == n) (entry_in ((run s (raises a p got fast ++ events_of fault)).entry p g))) whats
        → Leads (ShowsPinning a p) new s (pin_turn s a p handle page n want fast far) whats
    goes whats m is h =
        leads_alike turn_here
        (by_fault fault a p handle g n got want fast s new whats (faults.refused a p)
        (leads_alike
        (ap (λ (b : Bool). clears_or_pins b (raises a p got fast ++ events_of fault) a p handle g n want (got + 1 == n) (entry_in ((run s (raises a p got fast ++ events_of fault)).entry p g)))
        (ap (λ (u : CoreState). moves_first u want (entry_in (u.entry p g))) same_run ∙ moves_same m is)) h))

    -- the page is pinned
    pub page_pinned : (want.long && nat_lt (entry_in (S2.entry g)).frame F1.movable) ≡ false
        → IsTaken F1 new.frames S2 new.space g (entry_in (S2.entry g)).frame
        → IsMade (got + 1 == n) old.pins new.pins old.taken new.taken a handle (entry_in (S2.entry g)).frame want.write → IsOver new
        → Leads (ShowsPinning a p) new s (pin_turn s a p handle page n want fast far) (tried_whats (got + 1 == n) a p handle g n want.write)
    page_pinned stays made handles over =
        let es : List CoreEvent = raises a p got fast ++ events_of fault in
        let at = ap (λ (u : CoreState). entry_in (u.entry p g)) same_run in
        goes (tried_whats (got + 1 == n) a p handle g n want.write) false stays
        (leads_alike (ap (pins_behind es a p handle g n want (got + 1 == n)) at)
        (pins_lead new es a p handle g n want (got + 1 == n) (entry_in (t1.entry p g)) s t1 same_run
        (take_page old new F1 S2 a p handle g (entry_in (S2.entry g)).frame want (got + 1 == n) (entry_in (t1.entry p g)) t1
        (ap (λ (o : Option Entry). (entry_in o).frame) (shows.1.entry g)) made.frames_are made.space_is handles shows.0 shows.1 pins_then
        (ap frames_taken taken_same ∙ shown.taken)
        (ap (λ (f : ℕ → Bool). f p) left.has_pinned ∙ raise_flags a p got far fast s slow stands.flagged)
        (λ k x found. (pages_here.each k x (ap (λ (l : List TakenPage). slice_get l k) (sym taken_same) ∙ found)).2) job_then over)))

    -- or its entry is cleared
    pub page_cleared : (e : Entry) (S3 : SpaceValue) → (want.long && nat_lt (entry_in (S2.entry g)).frame F1.movable) ≡ true → S2.entry g ≡ Some e
        → AreMoveEvents (with_table (Some a) (ch F1 F1 S2 S3)) (λ q. clear_entry a q g e (zones_of want) ∷ [])
        → new.frames ≡ F1 → new.space ≡ record S3 { table = Some a } → new.pins ≡ old.pins → new.taken ≡ old.taken → (new.place ≡ moving_page g e unread) × (new.last ≡ None)
        → Leads (ShowsPinning a p) new s (pin_turn s a p handle page n want fast far) (Silent ∷ [])
    page_cleared e S3 first there events frames space pins taken place =
        let es : List CoreEvent = raises a p got fast ++ events_of fault in
        let d : Entry = entry_in ((run s es).entry p g) in
        let is_e : d ≡ e = ap (λ (u : CoreState). entry_in (u.entry p g)) same_run ∙ ap entry_in (shows.1.entry g ∙ there) in
        let t2 : CoreState = happens t1 (clear_entry a p g e (zones_of want)) in
        let led = events t1 p shows.0 shows.1 in
        let job : Job = moving p g e (zones_of want) unread in
        let here : ShowsPinning a p new t2 = record {
          frames = subst (λ (x : FramesValue). ShowsFrames x t2) (sym frames) led.0;
          space = subst (λ (x : SpaceValue). ShowsSpace p x t2) (sym space) led.1;
          pins = subst (λ (x : HandlesValue). ShowsHandles x t2) (sym pins) pins_then;
          taken = ap frames_taken taken_same ∙ shown.taken ∙ sym taken;
          place = ap (λ (j : Job). job_place j (t1.prepared a)) (put_own a job t1.job) ∙ sym place.0;
          last = no_last new.last _ place.1;
        } in
        goes (Silent ∷ []) true first
        (leads_alike (ap (clears_behind es a p g want) is_e)
        (record {
          says = refl;
          shown = subst (ShowsPinning a p new) (sym (run_behind s es (clear_entry a p g e (zones_of want) ∷ []) ∙ ap (λ (u : CoreState). happens u (clear_entry a p g e (zones_of want))) same_run)) here;
        }))

  -- a page that is denied
  pub page_denied : (answer : Answer) → PinFault F F1 S S2 g got fast want (Some answer) → new.frames ≡ F1 → new.space ≡ S2
      → IsEnded got old.pins new.pins old.taken new.taken a handle want.write → IsOver new
      → Leads (ShowsPinning a p) new s (pin_turn s a p handle page n want fast far) (ended_whats a handle n got answer)
  page_denied answer faults frames space ended over = leads_alike turn_here (by_denied fault (faults.refused a p))
    where
      shown_then : Leads (ShowsPinning a p) new s (ends_pin (raises a p got fast) a handle n got answer) (ended_whats a handle n got answer)
      shown_then =
          ends_lead old new (raises a p got fast) a p handle n got want answer s t0 refl
          (subst (λ (x : FramesValue). ShowsFrames x t0) (sym (frames ∙ (faults.unchanged answer refl).0)) (raise_frames F a p got fast s shown.frames))
          (subst (λ (x : SpaceValue). ShowsSpace p x t0) (sym (space ∙ (faults.unchanged answer refl).1)) (raise_space S a p got fast s shown.space))
          (shows_same old.pins s t0 (raise_handle a p got fast s) (raise_pinned a p got fast s) (raise_got a p got fast s) shown.pins)
          (ap (λ (f : ℕ → List TakenPage). frames_taken (f a)) (raise_taken a p got fast s) ∙ shown.taken)
          (ap (λ (f : ℕ → List TakenPage). length (f a)) (raise_taken a p got fast s) ∙ pages_here.many)
          (λ k x found. (pages_here.each k x (ap (λ (f : ℕ → List TakenPage). slice_get (f a) k) (sym (raise_taken a p got fast s)) ∙ found)).2)
          (ap (λ (f : ℕ → Job). f a) (raise_job a p got fast s) ∙ job_here) over ended

      by_denied : (x : Fault) → refusal_of x ≡ Some answer → Leads (ShowsPinning a p) new s (pin_turn_by x s a p handle g n got want fast) (ended_whats a handle n got answer)
      by_denied (Ok before) refused = absurd (cc)
      by_denied (Err denied) refused =
          let same : denied ≡ answer = cc in
          leads_alike (ap (λ (y : Answer). ends_pin (raises a p got fast) a handle n got y) same) shown_then

-- ---- the turns after the first of a page that is moved

module _ (old new : PinningView) (a p handle page n got far g : ℕ) (here : g ≡ page + got) (want : Want) (fast : Bool) (e : Entry) (s : CoreState) (shown : ShowsPinning a p old s) (stands : StandsAtPage a p handle page n want fast got far s) where
  abbrev job_at : Counted → Job
  job_at count = moving p (page + got) e (zones_of want) count

  moving_here : (count : Counted) → old.place ≡ moving_page g e count → s.job a ≡ job_at count
  moving_here count at =
      moving_job s a p (page + got) n got g want fast e count (s.job a) (s.prepared a) stands.at.at (shown.place ∙ at)

  pages_taken : (count : Counted) → old.place ≡ moving_page g e count → HasTaken p page want got (s.taken a)
  pages_taken count at =
      moving_pages p page got p (page + got) want e (zones_of want) count (s.taken a) (s.job a) (moving_here count at) stands.at.taken

  later : (count : Counted) → old.place ≡ moving_page g e count → pin_turn s a p handle page n want fast far ≡ moved_turn s a p handle g n got want e count
  later count at =
      ap (λ (k : ℕ). pin_turn_in s a p handle page n k want fast far (s.job a)) (pages_taken count at).many
      ∙ ap (pin_turn_in s a p handle page n got want fast far) (moving_here count at)
      ∙ ap (λ (k : ℕ). moved_turn s a p handle k n got want e count) (sym here)

  -- the count is read
  pub page_counted : old.place ≡ moving_page g e unread → new.frames ≡ old.frames → new.space ≡ old.space → new.pins ≡ old.pins → new.taken ≡ old.taken
      → (new.place ≡ moving_page g e (counted_as (old.frames.count e.frame))) × (new.last ≡ None) → Leads (ShowsPinning a p) new s (pin_turn s a p handle page n want fast far) (Silent ∷ [])
  page_counted at frames space pins taken place =
      let t : CoreState = happens s (count_moved a p g e (zones_of want) (old.frames.count e.frame)) in
      let job : Job = moving p g e (zones_of want) (counted_as (old.frames.count e.frame)) in
      let f = shown.frames in
      let sp = shown.space in
      leads_alike (later unread at ∙ ap (count_turn a p g e (zones_of want)) (f.count e.frame))
      (record {
        says = refl;
        shown = record {
          frames = subst (λ (x : FramesValue). ShowsFrames x t) (sym frames) (record { movable = f.movable; normal = f.normal; count = f.count; mark = f.mark; word = f.word; needs_tables = f.needs_tables });
          space = subst (λ (x : SpaceValue). ShowsSpace p x t) (sym space)
              (record { right = sp.right; pages = sp.pages; entry = sp.entry; sequence = sp.sequence; has_pinned = sp.has_pinned; structure = sp.structure; table = sp.table; walks = sp.walks; place = sp.place; retired = sp.retired });
          pins = subst (λ (x : HandlesValue). ShowsHandles x t) (sym pins) shown.pins;
          taken = shown.taken ∙ sym taken;
          place = ap (λ (j : Job). job_place j (s.prepared a)) (put_own a job s.job) ∙ sym place.0;
          last = no_last new.last _ place.1;
        };
      })

  -- the entry is put back, and the page refused
  restored : (count : Counted) (answer : Answer) (S1 : SpaceValue) → old.place ≡ moving_page g e count → AreMoveEvents (with_table None (ch old.frames old.frames old.space S1)) (λ q. restore_entry a q g e (zones_of want) count ∷ [])
      → new.frames ≡ old.frames → new.space ≡ record S1 { table = None } → IsEnded got old.pins new.pins old.taken new.taken a handle want.write → IsOver new
      → Leads (ShowsPinning a p) new s (ends_moved a p handle g n got want e count answer) (ended_whats a handle n got answer)
  restored count answer S1 at events frames space ended over =
      let t : CoreState = happens s (restore_entry a p g e (zones_of want) count) in
      let led = events s p shown.frames shown.space in
      ends_lead old new (restore_entry a p g e (zones_of want) count ∷ []) a p handle n got want answer s t refl
      (subst (λ (x : FramesValue). ShowsFrames x t) (sym frames) led.0) (subst (λ (x : SpaceValue). ShowsSpace p x t) (sym space) led.1)
      shown.pins shown.taken (pages_taken count at).many (λ k x found. ((pages_taken count at).each k x found).2) (put_own a idle s.job) over ended

  pub page_restored : (count : ℕ) (S1 : SpaceValue) → old.place ≡ moving_page g e (more count) → AreMoveEvents (with_table None (ch old.frames old.frames old.space S1)) (λ q. restore_entry a q g e (zones_of want) (more count) ∷ [])
      → new.frames ≡ old.frames → new.space ≡ record S1 { table = None } → IsEnded got old.pins new.pins old.taken new.taken a handle want.write → IsOver new
      → Leads (ShowsPinning a p) new s (pin_turn s a p handle page n want fast far) (ended_whats a handle n got (answers.Unmovable count))
  page_restored count S1 at events frames space ended over =
      leads_alike (later (more count) at) (restored (more count) (answers.Unmovable count) S1 at events frames space ended over)

  one_is : (free : Option ℕ) → old.place ≡ moving_page g e one → free_frame old.frames (zones_of want) ≡ free → pin_turn s a p handle page n want fast far ≡ pins_moved a p handle g n got want e free
  one_is free at is =
      later one at
      ∙ ap (pins_moved a p handle g n got want e) (free_agrees old.frames (zones_of want) s shown.frames ∙ is)

  -- no frame is free
  pub page_unplaced : (S1 : SpaceValue) → old.place ≡ moving_page g e one → free_frame old.frames (zones_of want) ≡ None → AreMoveEvents (with_table None (ch old.frames old.frames old.space S1)) (λ q. restore_entry a q g e (zones_of want) one ∷ [])
      → new.frames ≡ old.frames → new.space ≡ record S1 { table = None } → IsEnded got old.pins new.pins old.taken new.taken a handle want.write → IsOver new
      → Leads (ShowsPinning a p) new s (pin_turn s a p handle page n want fast far) (ended_whats a handle n got answers.NoFrame)
  page_unplaced S1 at none events frames space ended over =
      leads_alike (one_is None at none) (restored one answers.NoFrame S1 at events frames space ended over)

  -- the page is placed in another frame, and pinned
  pub page_placed : (f : ℕ) (F1 : FramesValue) (S1 S2 : SpaceValue) → old.place ≡ moving_page g e one → free_frame old.frames (zones_of want) ≡ Some f → AreMoveEvents (with_table None (ch old.frames F1 old.space S1)) (λ q. take_frame a f ∷ place_frame a q g f e (zones_of want) ∷ put_entry a e.frame ∷ [])
      → S2 ≡ record S1 { table = None } → s.has_pinned p ≡ true → IsTaken F1 new.frames S2 new.space g f
      → IsMade (got + 1 == n) old.pins new.pins old.taken new.taken a handle f want.write → IsOver new
      → Leads (ShowsPinning a p) new s (pin_turn s a p handle page n want fast far) (tried_whats (got + 1 == n) a p handle g n want.write)
  page_placed f F1 S1 S2 at is events same flag made handles over =
      let es : List CoreEvent = take_frame a f ∷ place_frame a p g f e (zones_of want) ∷ put_entry a e.frame ∷ [] in
      let t : CoreState = run s es in
      let led = events s p shown.frames shown.space in
      leads_alike (one_is (Some f) at is)
      (pins_lead new es a p handle g n want (got + 1 == n) (entry_of f e.writable) s t refl
      (take_page old new F1 S2 a p handle g f want (got + 1 == n) (entry_of f e.writable) t refl made.frames_are made.space_is handles
      led.0 (subst (λ (x : SpaceValue). ShowsSpace p x t) (sym same) led.1) shown.pins shown.taken flag (λ k x found. ((pages_taken one at).each k x found).2) (put_own a idle s.job) over))

-- ---- whether a frame is free

pub zones_long : (want : Want) → want.long ≡ true → zones_of want ≡ Only Normal
zones_long want long = ap (λ (b : Bool). if b then Only Normal else Any) long

-- the events of what was placed, in the zones of a long pin
pub places_as : (F : FramesValue) (k : Change) (a g : ℕ) (e : Entry) (asked allowed : Allowed) (free : Option ℕ) → asked ≡ allowed → free_frame F allowed ≡ free
    → AreMoveEvents k (λ q. places a q g e allowed (free_frame F allowed)) → AreMoveEvents k (λ q. places a q g e asked free)
places_as F k a g e asked allowed free same is events =
    subst (λ (o : Option ℕ). AreMoveEvents k (λ q. places a q g e asked o)) is
    (subst (λ (z : Allowed). AreMoveEvents k (λ q. places a q g e z (free_frame F allowed))) (sym same) events)

pub free_one : (free : Option ℕ) (placed : Bool) → not placed ≡ is_none free → placed ≡ true → (f : ℕ) × (free ≡ Some f)
free_one None true is placed = absurd (cc)
free_one None false is placed = absurd (cc)
free_one (Some f) placed is so = (f, refl)

pub free_none : (free : Option ℕ) (placed : Bool) → not placed ≡ is_none free → placed ≡ false → free ≡ None
free_none None placed is so = refl
free_none (Some f) true is so = absurd (cc)
free_none (Some f) false is so = absurd (cc)

-- the frame that was placed is the page's
pub placed_frame : (S S1 S2 : SpaceValue) (g f : ℕ) (writable : Bool) → S1 ≡ with_entry g (Some (entry_of f writable)) S → S2 ≡ record S1 { table = None } → S2.entry g ≡ Some (entry_of f writable)
placed_frame S S1 S2 g f writable placed same =
    ap (λ (x : SpaceValue). x.entry g) (same ∙ ap (λ (x : SpaceValue). record x { table = None }) placed) ∙ put_own g (Some (entry_of f writable)) S.entry
