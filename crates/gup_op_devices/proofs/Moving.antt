-- What a word of a transfer makes of frames and a store is the turn's.
use Rattle.std.proofs.Common.{◌≡◌, ℕ, ◌+◌, ◌/◌, ◌%◌, ◌<◌, ◌==◌, Bool, true, false, cond, List, [], ◌∷◌, length, slice_get, slice_index, Option, Some, None, refl, sym, ap, ◌∙◌, subst, arith}
use Rattle.std.proofs.lemmas.Option.{get_or_from_slice_get}
use Rattle.std.proofs.lemmas.Bool.Decides.{nat_tests}
use Rattle.gup_base.specs.Parts.{Part, words_of, word_at}
use Rattle.gup_plain.specs.Denial.{is_held_by, transfer_denial, transfer_denial_by}
use Rattle.gup_plain.specs.Put.{put}
use Rattle.gup_plain.specs.State as plain
use Rattle.gup_plain.specs.declared.answer.Answer.{Answer}
use Rattle.gup_plain.specs.declared.answer.Answer.TheVariants as answers
use Rattle.gup_plain.specs.declared.event.PlainEvent.{PlainEvent}
use Rattle.gup_plain.specs.declared.note.What.{What}
use Rattle.gup_plain.specs.declared.note.What.TheVariants.{Event, Done}
use Rattle.gup_frames.specs.Frames.{FramesValue}
use Rattle.gup_device.specs.Store.{StoreValue}
use Rattle.gup_space.proofs.After.{moving_out, moving_in}
use Rattle.gup_space.specs.Shows.{ShowsFrames}
use Rattle.gup_space.proofs.ShowsLemmas.{shows_frames}
use Rattle.gup_handles.specs.Handles.{HandleValue, HandlesValue, unmade, held, given, got, gone}
use Rattle.gup_spec_events.specs.State.{CoreState}
use Rattle.gup_spec_events.specs.Event.{happens, move_out, move_in}
use Rattle.gup_spec_journal.specs.Follows.{moves_word}
use Rattle.gup_spec_turns.specs.DeviceTurns.{frame_at, moves_value, moves_from, moved_if, word_turn, transfer_turn}
use Rattle.gup_spec_turns.proofs.TurnParts.{transfer_turn_by}
use Rattle.gup_op_base.specs.Said.{Said, whats_of}
use Rattle.gup_op_base.specs.Turns.{Leads, IsTurnOf}
use Rattle.gup_op_base.proofs.Leading.{leads_alike, notes_alike}
use Rattle.gup_op_pins.specs.Pins.{frames_in}
use Rattle.gup_handles.specs.Shows.{IsShown, ShowsHandles}
use Rattle.gup_op_pins.specs.Held.{ShowsStore, HeldView, ShowsHeld, slots_in}
use Rattle.gup_dio.specs.Job.{job_of, fits_in}
use Rattle.gup_dio.proofs.Words.{slot_fits}
use Rattle.gup_op_devices.specs.Transfers.{IsWhole, HasMoved, IsMoved, IsFound, is_pin_of, writes_in, refusal_in, words_in}

abbrev pub view : FramesValue → HandlesValue → Option (List ℕ) → HeldView
view F H W = record { frames = F; pins = H; store = W }

-- ---- what refuses it

-- a state refuses a transfer as the pin that is kept does
denial_same : (v : HandleValue) (handle : plain.Handle) (pinned : List ℕ) (a : ℕ) (outward : Bool) (slots slot : ℕ) (parts : List Part) (reference : Option (ℕ × ℕ)) → IsShown v handle pinned reference
    → (is_held_by handle a ≡ true → length pinned ≡ length (plain.objects_of handle)) → transfer_denial handle a outward slots slot parts ≡ refusal_in v a outward slots slot parts
denial_same unmade handle pinned a outward slots slot parts reference pin whole = ap (λ h. transfer_denial h a outward slots slot parts) pin.0
denial_same gone handle pinned a outward slots slot parts reference pin whole = ap (λ h. transfer_denial h a outward slots slot parts) pin.0
denial_same (got by frame) handle pinned a outward slots slot parts reference pin whole = ap (λ h. transfer_denial h a outward slots slot parts) pin.0
denial_same (given to frames write) handle pinned a outward slots slot parts reference pin whole = ap (λ h. transfer_denial h a outward slots slot parts) pin.0.1
denial_same (held by frames write) handle pinned a outward slots slot parts reference pin whole =
    ap (λ h. transfer_denial h a outward slots slot parts) pin.0.1 ∙ go (by == a) refl
  where
    objects : List ℕ
    objects = pin.0.0

    many : is_held_by handle a ≡ true → length objects ≡ length frames
    many is = sym (ap (λ h. length (plain.objects_of h)) pin.0.1) ∙ sym (whole is) ∙ ap length pin.1

    go : (mine : Bool) → (by == a) ≡ mine → transfer_denial_by mine outward write (fits_in (length objects) slots (job_of slot parts)) ≡ transfer_denial_by mine outward write (fits_in (length frames) slots (job_of slot parts))
    go false is = refl
    go true is =
        ap (λ k. transfer_denial_by true outward write (fits_in k slots (job_of slot parts)))
        (many (ap (λ h. is_held_by h a) pin.0.1 ∙ is))

-- the turn by what refuses it
turn_by : (W : Option (List ℕ)) (H : HandlesValue) (a h : ℕ) (outward : Bool) (slot : ℕ) (parts : List Part) (far : ℕ) (denied : Option Answer) (s : CoreState) → refusal_in (H h) a outward (slots_in W) slot parts ≡ denied
    → ShowsHandles H s → IsWhole s a h → transfer_turn s a (slots_in W) h outward slot parts far ≡ transfer_turn_by denied s a h outward (far + 1 == words_of parts) (word_at parts far) (slot + far)
turn_by W H a h outward slot parts far denied s is shown whole =
    ap (λ d. transfer_turn_by d s a h outward (far + 1 == words_of parts) (word_at parts far) (slot + far))
    (denial_same (H h) (s.handle h) (s.pinned h) a outward (slots_in W) slot parts (s.got h) (shown h) whole ∙ is)

pub transfer_refused : (F : FramesValue) (H : HandlesValue) (W : Option (List ℕ)) (a h : ℕ) (outward : Bool) (slot : ℕ) (parts : List Part) (far : ℕ) (denied : Answer) → refusal_in (H h) a outward (slots_in W) slot parts ≡ Some denied
    → IsTurnOf (ShowsHeld a) (λ s. IsWhole s a h) (view F H W) (view F H W) (λ s. transfer_turn s a (slots_in W) h outward slot parts far) (Done denied ∷ [])
transfer_refused F H W a h outward slot parts far denied is s shown whole =
    leads_alike (turn_by W H a h outward slot parts far (Some denied) s is shown.pins whole) (record { says = refl; shown = shown })

-- ---- a word moves

abbrev pub moved_whats : (a h : ℕ) → (outward last : Bool) → (index slot value : ℕ) → List What
moved_whats a h outward last index slot value = Event (moves_word a h outward index slot value) ∷ moved_if last

-- what the turn of a word says, the last one with the answer
abbrev pub word_said : PlainEvent → (last : Bool) → Said
word_said event last = record { event = Some event; next = None; answer = cond last (Some answers.Words) None }

word_says : (event : PlainEvent) (last : Bool) → whats_of (word_said event last) ≡ Event event ∷ moved_if last
word_says event true = refl
word_says event false = refl

-- the word comes out of the frame, or from the store
value_same : (F F' : FramesValue) (W W' : List ℕ) (a f index slot value : ℕ) (outward : Bool) (s : CoreState) → slot < length W → ShowsFrames F s → ShowsStore a (Some W) s
    → HasMoved outward F F' W W' f (index % 512) slot value → moves_value s a outward index slot f ≡ value
value_same F F' W W' a f index slot value true s within frames store moved = frames.word f (index % 512) ∙ sym moved.0
value_same F F' W W' a f index slot value false s within frames store moved = store slot within ∙ sym moved.0

stored : (a slot value : ℕ) (W : List ℕ) (store : ℕ → ℕ → ℕ) → ((k : ℕ) → k < length W → store a k ≡ slice_index W k) → (k : ℕ) → k < length W
    → put a (put slot value (store a)) store a k ≡ put slot value (slice_index W) k
stored a slot value W store shown k within = grind (arith, nat_tests, shown k within)

leads_word : (F F' : FramesValue) (H : HandlesValue) (W W' : List ℕ) (a h f index slot value : ℕ) (outward last : Bool) (s : CoreState) → HasMoved outward F F' W W' f (index % 512) slot value
    → ShowsHeld a (view F H (Some W)) s
    → Leads (ShowsHeld a) (view F' H (Some W')) s (word_turn a h outward last index slot f value) (moved_whats a h outward last index slot value)
leads_word F F' H W W' a h f index slot value true last s moved shown =
    let t : CoreState = happens s (move_out a h index slot f value) in
    let many : length W' ≡ length W = ap (λ (x : StoreValue). x.words) moved.2 in
    record {
      says = refl;
      shown = record {
        frames =
            subst (λ (x : FramesValue). ShowsFrames x t) (sym moved.1) (shows_frames 0 F s (moving_out a h index slot f value) shown.frames);
        pins = shown.pins;
        store = λ k within.
            stored a slot value W s.store shown.store k (subst (λ n. k < n) many within)
            ∙ sym (ap (λ (x : StoreValue). x.word k) moved.2);
      };
    }
leads_word F F' H W W' a h f index slot value false last s moved shown =
    let t : CoreState = happens s (move_in a h index slot f value) in
    let many : length W' ≡ length W = ap (λ (x : StoreValue). x.words) moved.2 in
    record {
      says = refl;
      shown = record {
        frames =
            subst (λ (x : FramesValue). ShowsFrames x t) (sym moved.1) (shows_frames 0 F s (moving_in a h index slot f value) shown.frames);
        pins = shown.pins;
        store = λ k within. shown.store k (subst (λ n. k < n) many within) ∙ sym (ap (λ (x : StoreValue). x.word k) moved.2);
      };
    }

-- what is kept of a pin with pages that the state has
pages_same : (v : HandleValue) (handle : plain.Handle) (pinned : List ℕ) (k f : ℕ) (reference : Option (ℕ × ℕ)) → slice_get (frames_in v) k ≡ Some f → IsShown v handle pinned reference → pinned ≡ frames_in v
pages_same (held by frames write) handle pinned k f reference at pin = pin.1
pages_same (given to frames write) handle pinned k f reference at pin = pin.1
pages_same (got by frame) handle pinned k f reference none pin = absurd (cc)
pages_same unmade handle pinned k f reference none pin = absurd (cc)
pages_same gone handle pinned k f reference none pin = absurd (cc)

word_moved : (F F' : FramesValue) (H : HandlesValue) (W W' : List ℕ) (a h f slot : ℕ) (parts : List Part) (far value : ℕ) (outward : Bool)
    → refusal_in (H h) a outward (length W) slot parts ≡ None → slice_get (frames_in (H h)) (word_at parts far / 512) ≡ Some f → slot + far < length W
    → HasMoved outward F F' W W' f (word_at parts far % 512) (slot + far) value
    → IsTurnOf (ShowsHeld a) (λ s. IsWhole s a h) (view F H (Some W)) (view F' H (Some W')) (λ s. transfer_turn s a (length W) h outward slot parts far)
    (moved_whats a h outward (far + 1 == words_of parts) (word_at parts far) (slot + far) value)
word_moved F F' H W W' a h f slot parts far value outward unrefused at within moved s shown whole =
    let i : ℕ = word_at parts far in
    let j : ℕ = slot + far in
    let last : Bool = far + 1 == words_of parts in
    let pages_is : s.pinned h ≡ frames_in (H h) = pages_same (H h) (s.handle h) (s.pinned h) (i / 512) f (s.got h) at (shown.pins h) in
    let f_is : frame_at (s.pinned h) i ≡ f = ap (λ ps. frame_at ps i) pages_is ∙ get_or_from_slice_get (frames_in (H h)) (i / 512) f 0 at in
    leads_alike
    (turn_by (Some W) H a h outward slot parts far None s unrefused shown.pins whole
    ∙ ap (λ g. moves_from s a h outward last i j g) f_is
    ∙ ap (λ v. word_turn a h outward last i j f v) (value_same F F' W W' a f i j value outward s within shown.frames shown.store moved))
    (leads_word F F' H W W' a h f i j value outward last s moved shown)

-- ---- what isn't refused

unrefused_fits : (holds outward may fits : Bool) → transfer_denial_by holds outward may fits ≡ None → fits ≡ true
unrefused_fits false outward may fits refused = absurd (cc)
unrefused_fits true true may true unrefused = refl
unrefused_fits true true may false refused = absurd (cc)
unrefused_fits true false true true unrefused = refl
unrefused_fits true false true false refused = absurd (cc)
unrefused_fits true false false fits refused = absurd (cc)

-- what isn't refused fits
fits_unrefused : (v : HandleValue) (a : ℕ) (outward : Bool) (slots slot : ℕ) (parts : List Part) → refusal_in v a outward slots slot parts ≡ None → fits_in (length (frames_in v)) slots (job_of slot parts) ≡ true
fits_unrefused v a outward slots slot parts unrefused =
    unrefused_fits (is_pin_of v a) outward (writes_in v) (fits_in (length (frames_in v)) slots (job_of slot parts)) unrefused

pub slot_within : (v : HandleValue) (a : ℕ) (outward : Bool) (slots slot : ℕ) (parts : List Part) (far : ℕ) → refusal_in v a outward slots slot parts ≡ None → far < words_of parts → slot + far < slots
slot_within v a outward slots slot parts far unrefused within =
    slot_fits (length (frames_in v)) slots (job_of slot parts) far (fits_unrefused v a outward slots slot parts unrefused) within

-- ---- the word that was found moves

-- its event by the parts
event_is : (a h first_slot far index slot f value : ℕ) (v : HandleValue) (parts : List Part) (outward last : Bool) → IsFound v first_slot parts far index slot f last
    → moves_word a h outward index slot value ≡ moves_word a h outward (word_at parts far) (first_slot + far) value
event_is a h first_slot far index slot f value v parts outward last found =
    ap (λ i. moves_word a h outward i slot value) found.word ∙ ap (λ j. moves_word a h outward (word_at parts far) j value) found.goes

-- and what it says
said_is : (a h first_slot far index slot f value : ℕ) (v : HandleValue) (parts : List Part) (outward last : Bool) → IsFound v first_slot parts far index slot f last
    → word_said (moves_word a h outward index slot value) last ≡ word_said (moves_word a h outward (word_at parts far) (first_slot + far) value) (far + 1 == words_of parts)
said_is a h first_slot far index slot f value v parts outward last found =
    ap (λ (e : PlainEvent). word_said e last) (event_is a h first_slot far index slot f value v parts outward last found)
    ∙ ap (λ (b : Bool). word_said (moves_word a h outward (word_at parts far) (first_slot + far) value) b) found.ends

moved_at : (F F' : FramesValue) (W W' : List ℕ) (v : HandleValue) (f first_slot : ℕ) (parts : List Part) (far index slot value : ℕ) (outward last : Bool)
    → IsFound v first_slot parts far index slot f last → HasMoved outward F F' W W' f (index % 512) slot value → HasMoved outward F F' W W' f (word_at parts far % 512) (first_slot + far) value
moved_at F F' W W' v f first_slot parts far index slot value outward last found moved =
    subst (λ k. HasMoved outward F F' W W' f k (first_slot + far) value) (ap (λ i. i % 512) found.word)
    (subst (λ k. HasMoved outward F F' W W' f (index % 512) k value) found.goes moved)

page_at : (v : HandleValue) (f first_slot : ℕ) (parts : List Part) (far index slot : ℕ) (last : Bool) → IsFound v first_slot parts far index slot f last → slice_get (frames_in v) (word_at parts far / 512) ≡ Some f
page_at v f first_slot parts far index slot last found =
    ap (λ i. slice_get (frames_in v) (i / 512)) (sym found.word) ∙ found.page

pub found_turn : (F F' : FramesValue) (H : HandlesValue) (store : Option (List ℕ)) (W W' : List ℕ) (a h f first_slot : ℕ) (parts : List Part) (far index slot value : ℕ) (outward last : Bool)
    → store ≡ Some W → refusal_in (H h) a outward (slots_in store) first_slot parts ≡ None → far < words_of parts
    → IsFound (H h) first_slot parts far index slot f last → HasMoved outward F F' W W' f (index % 512) slot value
    → IsTurnOf (ShowsHeld a) (λ s. IsWhole s a h) (view F H store) (view F' H (Some W')) (λ s. transfer_turn s a (slots_in store) h outward first_slot parts far)
    (whats_of (word_said (moves_word a h outward index slot value) last))
found_turn F F' H store W W' a h f first_slot parts far index slot value outward last is unrefused less found moved =
    let at : ℕ = word_at parts far in
    let final : Bool = far + 1 == words_of parts in
    let unrefused_so : refusal_in (H h) a outward (length W) first_slot parts ≡ None = ap (λ k. refusal_in (H h) a outward k first_slot parts) (sym (ap slots_in is)) ∙ unrefused in
    let says : whats_of (word_said (moves_word a h outward index slot value) last) ≡ moved_whats a h outward final at (first_slot + far) value =
    ap whats_of (said_is a h first_slot far index slot f value (H h) parts outward last found)
    ∙ word_says (moves_word a h outward at (first_slot + far) value) final in
    let P : Option (List ℕ) → Type 0 = λ w. IsTurnOf (ShowsHeld a) (λ s. IsWhole s a h) (view F H w) (view F' H (Some W')) (λ s. transfer_turn s a (slots_in w) h outward first_slot parts far) (moved_whats a h outward final at (first_slot + far) value) in
    notes_alike says
    (subst P (sym is)
    (word_moved F F' H W W' a h f first_slot parts far value outward unrefused_so (page_at (H h) f first_slot parts far index slot last found)
    (slot_within (H h) a outward (length W) first_slot parts far unrefused_so less)
    (moved_at F F' W W' (H h) f first_slot parts far index slot value outward last found moved)))

-- ---- whatever the other handles are

pub found_moved : (F F' : FramesValue) (H : HandlesValue) (store : Option (List ℕ)) (W W' : List ℕ) (a h f first_slot : ℕ) (parts : List Part) (far index slot value : ℕ) (outward last : Bool)
    → store ≡ Some W → IsFound (H h) first_slot parts far index slot f last → HasMoved outward F F' W W' f (index % 512) slot value
    → IsMoved (view F H store) (view F' H (Some W')) a h outward (word_at parts far) (first_slot + far) (far + 1 == words_of parts) (word_said (moves_word a h outward index slot value) last)
found_moved F F' H store W W' a h f first_slot parts far index slot value outward last is found moved = (
  f,
  value,
  page_at (H h) f first_slot parts far index slot last found,
  subst (λ (ws : List ℕ). HasMoved outward F F' ws W' f (word_at parts far % 512) (first_slot + far) value) (sym (ap words_in is))
      (moved_at F F' W W' (H h) f first_slot parts far index slot value outward last found moved),
  said_is a h first_slot far index slot f value (H h) parts outward last found,
)
