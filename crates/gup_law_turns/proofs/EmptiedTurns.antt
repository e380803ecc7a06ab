-- A turn that empties slots first is what it is without that, in a state in which no slot is filled: it can happen, it has its shape,
-- and the actor stands right after it.
use Rattle.std.proofs.Common.{◌≡◌, ℕ, ◌+◌, ◌<◌, ◌||◌, Bool, true, false, List, [], ◌∷◌, ◌++◌, Option, Some, None, IsSome, refl, sym, ap, ◌∙◌, subst, arith, ◌⊎◌, inl, inr, nat_lt, ◌≤◌}
use Rattle.gup_law_turns.specs.Standing.{CopyStands}
use Rattle.std.proofs.lemmas.Bool.Decides.{nat_tests}
use Rattle.gup_base.specs.declared.entry.Entry.{Entry}
use Rattle.gup_base.specs.declared.entry.Want.{Want}
use Rattle.gup_base.specs.declared.entry.Zone.{Zone}
use Rattle.gup_plain.specs.State.{Noted, born}
use Rattle.gup_plain.specs.declared.note.What.{What}
use Rattle.gup_plain.specs.declared.note.What.TheVariants.{Done}
use Rattle.gup_script.specs.declared.op.Op.{Op}
use Rattle.gup_script.specs.declared.op.Op.TheVariants.{Pin, Fork, Move}
use Rattle.gup_spec_events.specs.State.{CoreState, Job, idle, moving, forking, walking, Taken, between, counted, copying, WalkStep, read, plain_of}
use Rattle.gup_spec_events.specs.Event.{CoreEvent, IsUnmirrored, Can, happens, run}
use Rattle.gup_spec_events.specs.Invariant.{AllCan, frame_of}
use Rattle.gup_law_base.specs.Sound.{View, IsSound}
use Rattle.gup_spec_tables.specs.declared.place.Place.{Place as TablePlace}
use Rattle.gup_spec_journal.specs.Place.{Place, Doer, place_after}
use Rattle.gup_spec_turns.specs.CoreTurn.{CoreTurn}
use Rattle.gup_spec_turns.specs.Emptying.{PageRange, one_page, has_page, invalidated_by, invalidate, is_stale, left_in, empties, emptying}
use Rattle.gup_script.specs.Limits.{most_mirrors}
use Rattle.gup_spec_turns.specs.JobPlace.{JobPlace, IsForking, HasCounted, StandsFork, IsMoving, StandsMove, place_in}
use Rattle.gup_spec_turns.specs.PinPlace.{IsMovingPin, IsReadThere, IsWalkingPin, StandsAtPage}
use Rattle.gup_spec_turns.proofs.Unseen.{mirroring, IsButFor, run_unseen, emptying_unseen, empties_unseen}
use Rattle.gup_law_turns.proofs.CalmStates.{IsCalm, Strand, AreTurnEvents, IsTurnEvent, IsHandleEvent, emptying_slot, handling, unpinning, looking_on, filling_slot, looking, breaking, lowering, protecting, dropping, discarding, clearing, sharing_entry}
use Rattle.gup_law_turns.proofs.TurnShapes.{FitsFork, FitsMove, FitsPin, FitsAt, TurnAt, AtRest, child_of, strand_of, references_of}
use Rattle.gup_law_turns.proofs.ShownTurns.{FitsNext, MakesPin, kinds_behind, told_behind}
use Rattle.gup_law_turns.specs.Slots.{EmptiesSlots}
use Rattle.gup_law_turns.proofs.KeptParts.{FillsNone}
use Rattle.gup_law_turns.proofs.StandingStates.{IsTaken}
use Rattle.gup_law_turns.proofs.EmptiedSlots.{empties_kinds, empties_told, empties_can, empties_fill, empties_leave, empties_left, emptying_stale}
use Rattle.gup_spec_events.proofs.Runs.{can_behind, run_behind}

-- the state with all slots empty
abbrev pub calmed : CoreState → CoreState
calmed s = mirroring (λ m. None) s

pub calmed_calm : (s : CoreState) → IsCalm (calmed s)
calmed_calm s = record { unmirrored = λ m. refl }

pub calmed_sound : (s : CoreState) → IsSound s → IsSound (calmed s)
calmed_sound s sound =
    let h = sound.1 in
    let v : View = sound.0 in
    let t : CoreState = calmed s in
    let mirror_noted : (m f : ℕ) → t.mirrored m ≡ Some f → t.slot m ≡ None → ⊥ = λ m f filled. absurd (cc filled) in
    let mirror_born : (m f : ℕ) (noted : Noted) → t.mirrored m ≡ Some f → t.slot m ≡ Some noted → t.birth noted.proc ≡ born = λ m f noted filled. absurd (cc filled) in
    let mirror_entry : (m f : ℕ) (noted : Noted) → t.mirrored m ≡ Some f → t.slot m ≡ Some noted → frame_of (t.entry noted.proc noted.page) ≡ Some f = λ m f noted filled. absurd (cc filled) in
    let mirror_names : (m f : ℕ) (noted : Noted) → t.mirrored m ≡ Some f → t.slot m ≡ Some noted → v.names noted.proc noted.page ≡ Some noted.object = λ m f noted filled. absurd (cc filled) in
    (v, assumption)

-- ---- what asks neither for slots nor for page tables

-- the state with other ones
abbrev pub beside : (filled : ℕ → Option ℕ) (free : ℕ → Bool) (place : ℕ → ℕ → Option TablePlace) (retired : ℕ → List ℕ) → CoreState → CoreState
beside filled free place retired s = record s { mirrored = filled; free_table = free; place = place; retired = retired }

module _ (filled : ℕ → Option ℕ) (free : ℕ → Bool) (tables : ℕ → ℕ → Option TablePlace) (retired : ℕ → List ℕ) (s : CoreState) where
  abbrev with_slots : CoreState
  with_slots = beside filled free tables retired s

  forking_with : (a p child q c : ℕ) (done : List ℕ) → IsForking s a p child q c done → IsForking with_slots a p child q c done
  forking_with a p child q c done h = assumption

  counted_with : (a p child : ℕ) (done : List ℕ) (page : ℕ) → HasCounted s a p child done page → HasCounted with_slots a p child done page
  counted_with a p child done page h = assumption

  moving_with : (a p page : ℕ) → IsMoving s a p page → IsMoving with_slots a p page
  moving_with a p page h = assumption

  pub stands_fork : (a p child : ℕ) (job : Job) (prepared : Option ℕ) → StandsFork s a p child job prepared → StandsFork with_slots a p child job prepared
  stands_fork a p child (forking q c done between) prepared h = forking_with a p child q c done h
  stands_fork a p child (forking q c done (counted page)) prepared h = (forking_with a p child q c done h.0, counted_with a p child done page h.1)
  stands_fork a p child (forking q c done (copying page word)) prepared h =
      (forking_with a p child q c done h.0, counted_with a p child done page h.1, h.2)
  stands_fork a p child job prepared h = h

  fits_fork : (a p child : ℕ) (place : Place) (job : Job) (prepared : Option ℕ) → FitsFork s a p child place job prepared → FitsFork with_slots a p child place job prepared
  fits_fork a p child place idle prepared h = h
  fits_fork a p child place (forking q c done step) prepared h = (h.0, stands_fork a p child (forking q c done step) prepared h.1)
  fits_fork a p child place job prepared h = h

  pub stands_move : (a p page : ℕ) (zone : Zone) (job : Job) → StandsMove s a p page zone job → StandsMove with_slots a p page zone job
  stands_move a p page zone (moving q g e allowed count) h = (h.0, h.1, h.2, h.3, moving_with a p page h.4)
  stands_move a p page zone job h = h

  fits_move : (a p page : ℕ) (zone : Zone) (place : Place) (job : Job) → FitsMove s a p page zone place job → FitsMove with_slots a p page zone place job
  fits_move a p page zone place (moving q g e allowed count) h = (h.0, stands_move a p page zone (moving q g e allowed count) h.1)
  fits_move a p page zone place job h = h

  moving_pin : (a p page : ℕ) (want : Want) (e : Entry) → IsMovingPin s a p page want e → IsMovingPin with_slots a p page want e
  moving_pin a p page want e h = let moving = moving_with a p page h.moving in assumption

  read_there : (step : WalkStep) → IsReadThere s step → IsReadThere with_slots step
  read_there (read g path e) h = h
  read_there step h = h

  walking_pin : (p page n got : ℕ) (want : Want) (fast : Bool) (q : ℕ) (write long : Bool) (sequence : ℕ) (step : WalkStep) → IsWalkingPin s p page n got want fast q write long sequence step → IsWalkingPin with_slots p page n got want fast q write long sequence step
  walking_pin p page n got want fast q write long sequence step h = let there = read_there step h.there in assumption

  pub stands_at : (a p page n got : ℕ) (want : Want) (fast : Bool) (job : Job) → StandsAtPage s a p page n got want fast job → StandsAtPage with_slots a p page n got want fast job
  stands_at a p page n got want fast (moving q g e allowed count) h = (h.0, h.1, h.2, h.3, moving_pin a p page want e h.4)
  stands_at a p page n got want fast (walking q write long sequence step) h = walking_pin p page n got want fast q write long sequence step h
  stands_at a p page n got want fast job h = h

  fits_pin : (a p handle page n : ℕ) (want : Want) (fast : Bool) (place : Place) (taken : List Taken) (job : Job) → FitsPin s a p handle page n want fast place taken job → FitsPin with_slots a p handle page n want fast place taken job
  fits_pin a p handle page n want fast place taken job h = let at = stands_at a p (page + _) n _ want fast job h.at in assumption

  pub fits_beside : (who : Doer) (op : Option Op) (place : Place) → FitsAt s who op place → FitsAt with_slots who op place
  fits_beside who (Some (Pin handle page n want fast)) place h = fits_pin who.actor who.proc handle page n want fast place (s.taken who.actor) (s.job who.actor) h
  fits_beside who (Some (Move proc page zone)) place h = (h.0, h.1, fits_move who.actor who.proc page zone place (s.job who.actor) h.2)
  fits_beside who (Some (Fork child)) place h = (h.0, fits_fork who.actor who.proc child place (s.job who.actor) (s.prepared who.actor) h.1)
  fits_beside who op place h = h

  pub next_beside : (who : Doer) (op : Option Op) (place : Place) (whats : List What) → FitsNext s who op place whats → FitsNext with_slots who op place whats
  next_beside who op place [] h = fits_beside who op place h
  next_beside who op place (Done answer ∷ whats) h = h
  next_beside who op place (what ∷ whats) h = next_beside who op (place_after place what) whats h

pub fits_with : (filled : ℕ → Option ℕ) (s : CoreState) (who : Doer) (op : Option Op) (place : Place) → FitsAt s who op place → FitsAt (mirroring filled s) who op place
fits_with filled s who op place h = fits_beside filled s.free_table s.place s.retired s who op place h

next_with : (filled : ℕ → Option ℕ) (s : CoreState) (who : Doer) (op : Option Op) (place : Place) (whats : List What) → FitsNext s who op place whats → FitsNext (mirroring filled s) who op place whats
next_with filled s who op place whats h = next_beside filled s.free_table s.place s.retired s who op place whats h

makes_with : (before behind : ℕ → Option ℕ) (s t : CoreState) (a : ℕ) (op : Op) → MakesPin s t a op → MakesPin (mirroring before s) (mirroring behind t) a op
makes_with before behind s t a (Pin handle page n want fast) h = h
makes_with before behind s t a op h = h

-- ---- what asks for slots

-- no slot that is filled so is of a page that the events invalidate
abbrev IsClear : (filled : ℕ → Option ℕ) → (slot : ℕ → Option Noted) → List CoreEvent → Type 0
IsClear filled slot es = (m : ℕ) (noted : Noted) → IsSome (filled m) → slot m ≡ Some noted → invalidate es noted.proc noted.page ≡ false

none_of : (x y : Bool) → (x || y) ≡ false → (x ≡ false) × (y ≡ false)
none_of false y none = (refl, none)
none_of true y none = absurd (cc none)

has_own : (p page : ℕ) → has_page (one_page p page) p page ≡ true
has_own p page = grind (arith, nat_tests)

has_each : (p page n k : ℕ) → k < n → has_page (Some (record { proc = p; page = page; n = n })) p (page + k) ≡ true
has_each p page n k less = grind (arith, nat_tests, less)

-- so no mirror of an invalidated page is filled
unmirrored : (filled : ℕ → Option ℕ) (s : CoreState) (range : Option PageRange) → ((m : ℕ) (noted : Noted) → IsSome (filled m) → s.slot m ≡ Some noted → has_page range noted.proc noted.page ≡ false) → (p page : ℕ) → has_page range p page ≡ true → IsUnmirrored (mirroring filled s) p page
unmirrored filled s range clear p page has m noted some slot proc of_page =
    let none : has_page range noted.proc noted.page ≡ false = clear m noted some slot in
    let same : has_page range noted.proc noted.page ≡ has_page range p page = ap (λ (q : ℕ). has_page range q noted.page) proc ∙ ap (has_page range p) of_page in
    absurd (cc (sym has ∙ sym same ∙ none))

module _ (filled : ℕ → Option ℕ) (s : CoreState) (a p c : ℕ) (strand : Strand) (fills_none : FillsNone strand) where
  handle_can : (h : ℕ) {e : CoreEvent} → IsHandleEvent a h e → Can (calmed s) e → Can (mirroring filled s) e
  handle_can h (unpinning f left) can = can
  handle_can h (looking_on m word f value) can = absurd (cc can.0)
  handle_can h event can = can

  event_can : {e : CoreEvent} → IsTurnEvent a p c strand e → ((m : ℕ) (noted : Noted) → IsSome (filled m) → s.slot m ≡ Some noted → has_page (invalidated_by e) noted.proc noted.page ≡ false) → Can (calmed s) e → Can (mirroring filled s) e
  event_can (handling h is event) clear can = handle_can h event can
  event_can (emptying_slot m) clear can = absurd (cc can)
  event_can (looking m word f value) clear can = absurd (cc can.0)
  event_can (breaking page old new was writable) clear can =
      (can.0, can.1, can.2, can.3, can.4, can.5, can.6, can.7, unmirrored filled s (one_page p page) clear p page (has_own p page))
  event_can (lowering page f) clear can = (can.0, can.1, can.2, unmirrored filled s (one_page p page) clear p page (has_own p page))
  event_can (protecting page n rights) clear can =
      (can.0, can.1, can.2, can.3, (λ k less. unmirrored filled s (Some (record { proc = p; page = page; n = n })) clear p (page + k) (has_each p page n k less)))
  event_can (dropping page was) clear can = (can.0, can.1, can.2, can.3, can.4, can.5, unmirrored filled s (one_page p page) clear p page (has_own p page))
  event_can (discarding page was) clear can = (can.0, can.1, can.2, can.3, can.4, can.5, unmirrored filled s (one_page p page) clear p page (has_own p page))
  event_can (clearing is page e allowed) clear can = (can.0, can.1, can.2, can.3, can.4, unmirrored filled s (one_page p page) clear p page (has_own p page))
  event_can (sharing_entry done page f writable) clear can = (can.0, can.1, unmirrored filled s (one_page p page) clear p page (has_own p page))
  event_can event clear can = can

  handle_keeps : (h : ℕ) {e : CoreEvent} → IsHandleEvent a h e → happens (mirroring filled s) e ≡ mirroring filled (happens s e)
  handle_keeps h (unpinning f left) = refl
  handle_keeps h event = refl

  -- any event but the emptying and the filling of a slot leaves them filled so
  event_keeps : {e : CoreEvent} → IsTurnEvent a p c strand e → Can (calmed s) e → happens (mirroring filled s) e ≡ mirroring filled (happens s e)
  event_keeps (handling h is event) can = handle_keeps h event
  event_keeps (emptying_slot m) can = absurd (cc can)
  event_keeps (filling_slot m is less page f writable) can = absurd (fills_none m is)
  event_keeps event can = refl

  handle_notes : (h : ℕ) {e : CoreEvent} → IsHandleEvent a h e → (happens s e).slot ≡ s.slot
  handle_notes h (unpinning f left) = refl
  handle_notes h event = refl

  event_notes : {e : CoreEvent} → IsTurnEvent a p c strand e → (happens s e).slot ≡ s.slot
  event_notes (handling h is event) = handle_notes h event
  event_notes (filling_slot m is less page f writable) = absurd (fills_none m is)
  event_notes event = refl

all_can : (filled : ℕ → Option ℕ) (s : CoreState) (a p c : ℕ) (strand : Strand) (es : List CoreEvent) → FillsNone strand → AreTurnEvents a p c strand es → IsClear filled s.slot es → AllCan (calmed s) es → AllCan (mirroring filled s) es
all_can filled s a p c strand [] fills kinds clear can = tt
all_can filled s a p c strand (e ∷ es) fills kinds clear can =
    let split : (m : ℕ) (noted : Noted) → IsSome (filled m) → s.slot m ≡ Some noted → (has_page (invalidated_by e) noted.proc noted.page ≡ false) × (invalidate es noted.proc noted.page ≡ false) =
    λ m noted some slot. none_of (has_page (invalidated_by e) noted.proc noted.page) (invalidate es noted.proc noted.page) (clear m noted some slot) in
    let next : CoreState = happens s e in
    let notes : next.slot ≡ s.slot = event_notes filled s a p c strand fills kinds.0 in
    let none : happens (calmed s) e ≡ calmed next = event_keeps (λ m. None) s a p c strand fills kinds.0 can.0 in
    let later : AllCan (mirroring filled next) es =
    all_can filled next a p c strand es fills kinds.1
    (λ m noted some slot. (split m noted some (ap (λ (f : ℕ → Option Noted). f m) (sym notes) ∙ slot)).1)
    (subst (λ (t : CoreState). AllCan t es) none can.1) in (
      event_can filled s a p c strand fills kinds.0 (λ m noted some slot. (split m noted some slot).0) can.0,
      subst (λ (t : CoreState). AllCan t es) (sym (event_keeps filled s a p c strand fills kinds.0 can.0)) later,
    )

-- so the slots are after the events what they were before
all_keep : (filled : ℕ → Option ℕ) (s : CoreState) (a p c : ℕ) (strand : Strand) (es : List CoreEvent) → FillsNone strand → AreTurnEvents a p c strand es → AllCan (calmed s) es → (run (mirroring filled s) es ≡ mirroring filled (run s es)) × ((run s es).slot ≡ s.slot)
all_keep filled s a p c strand [] fills kinds can = (refl, refl)
all_keep filled s a p c strand (e ∷ es) fills kinds can =
    let next : CoreState = happens s e in
    let none : happens (calmed s) e ≡ calmed next = event_keeps (λ m. None) s a p c strand fills kinds.0 can.0 in
    let later = all_keep filled next a p c strand es fills kinds.1 (subst (λ (t : CoreState). AllCan t es) none can.1) in
    (ap (λ (t : CoreState). run t es) (event_keeps filled s a p c strand fills kinds.0 can.0) ∙ later.0, later.1 ∙ event_notes filled s a p c strand fills kinds.0)

-- a turn without events leaves all slots
pub silent_slots : (s : CoreState) (op : Option Op) (whats : List What) → EmptiesSlots s op (record { events = []; whats = whats })
silent_slots s op whats = record { left = λ m other. go (s.mirrored m) (s.slot m); notes = λ m other. refl }
  where
    go : (frame : Option ℕ) (noted : Option Noted) → frame ≡ left_in [] frame noted
    go None noted = refl
    go (Some f) None = refl
    go (Some f) (Some noted) = refl

-- ---- the whole turn

module _ (s : CoreState) (who : Doer) (place : Place) (op : Op) (turn : CoreTurn) (fills_none : FillsNone (strand_of (Some op))) (within : (m f : ℕ) → s.mirrored m ≡ Some f → m < most_mirrors) (h : IsTaken (calmed s) who place (Some op) None turn) where
  abbrev es : List CoreEvent
  es = turn.events

  abbrev before : List CoreEvent
  before = empties s who.actor es 0 most_mirrors

  abbrev front : CoreState
  front = run s before

  -- what is left filled is of no page that the turn invalidates
  is_filled : (frame : Option ℕ) → IsSome frame → (f : ℕ) × (frame ≡ Some f)
  is_filled None some = absurd (cc some)
  is_filled (Some f) some = (f, refl)

  clear : IsClear front.mirrored s.slot es
  clear m noted some slot =
      let left = is_filled (front.mirrored m) some in
      let was : s.mirrored m ≡ Some left.0 = empties_fill s s who.actor es 0 most_mirrors m left.0 left.1 in
      let fresh : is_stale es (s.mirrored m) (s.slot m) ≡ false = empties_leave s s who.actor es 0 most_mirrors m left.0 (omega arith) (within m left.0 was) left.1 in
      ap (is_stale es (Some left.0)) (sym slot) ∙ ap (λ (frame : Option ℕ). is_stale es frame (s.slot m)) (sym was) ∙ fresh

  at_front : IsButFor s front
  at_front = empties_unseen s s who.actor es 0 most_mirrors

  can : AllCan s (before ++ es)
  can =
      can_behind s before es (empties_can s s who.actor es 0 most_mirrors (λ k least. refl))
      (subst (λ (t : CoreState). AllCan t es) (sym at_front)
      (all_can front.mirrored s who.actor who.proc (child_of who.proc (Some op)) (strand_of (Some op)) es fills_none h.done.kinds clear h.done.can))

  abbrev bare : CoreState
  bare = run (calmed s) es

  abbrev behind : CoreState
  behind = run s (before ++ es)

  -- the state after it is the one after the turn by itself, but for slots
  same : behind ≡ mirroring behind.mirrored bare
  same = emptying_unseen s who.actor turn ∙ ap (mirroring behind.mirrored) (sym (run_unseen (λ m. None) s es))

  same_place : place_in behind who.actor ≡ place_in bare who.actor
  same_place = ap (λ (t : CoreState). place_in t who.actor) same

  pub emptied_taken : IsTaken s who place (Some op) None (emptying s who.actor turn)
  emptied_taken =
      record {
        done = record {
          kinds = kinds_behind who.actor who.proc (child_of who.proc (Some op)) (strand_of (Some op)) before es
              (empties_kinds s who.actor who.proc (child_of who.proc (Some op)) (strand_of (Some op)) es 0 most_mirrors) h.done.kinds;
          can = can;
          rest = subst (λ (t : CoreState). AtRest t who.actor) (sym same) (record { prepared = h.done.rest.prepared; owed = h.done.rest.owed });
          told = told_behind before es (empties_told s who.actor es 0 most_mirrors) ∙ h.done.told;
        };
        shape = subst (λ (at : JobPlace). TurnAt (plain_of s) (references_of s) who place (Some op) None (place_in s who.actor) turn.whats at) (sym same_place) h.shape;
        next = subst (λ (t : CoreState). FitsNext t who (Some op) place turn.whats) (sym same) (next_with behind.mirrored bare who (Some op) place turn.whats h.next);
        pin = λ o is none birth. subst (λ (t : CoreState). MakesPin s t who.actor o) (sym same) (makes_with s.mirrored behind.mirrored (calmed s) bare who.actor o (h.pin o is none birth));
        copies = subst (λ (t : CoreState). CopyStands t who.actor) (sym same) h.copies;
        emptied = λ child page is lost.
            ap (λ (t : CoreState). t.entry child page) same ∙ h.emptied child page is (sym (ap (λ (t : CoreState). t.birth child) same) ∙ lost);
      }

  front_slot : front.slot ≡ s.slot
  front_slot = ap (λ (t : CoreState). t.slot) at_front

  is_left : (m : ℕ) → (m < most_mirrors) ⊎ (most_mirrors ≤ m) → front.mirrored m ≡ left_in es (s.mirrored m) (s.slot m)
  is_left m (inl less) = empties_left s s who.actor es 0 most_mirrors m (omega arith) less (λ j least. refl)
  is_left m (inr past) = by_none (front.mirrored m) (s.mirrored m) refl refl
    where
      by_none : (now was : Option ℕ) → front.mirrored m ≡ now → s.mirrored m ≡ was → now ≡ left_in es was (s.slot m)
      by_none None None now_is was_is = refl
      by_none (Some f) was now_is was_is =
          let less = within m f (empties_fill s s who.actor es 0 most_mirrors m f now_is) in
          absurd (omega (arith, less, past))
      by_none None (Some f) now_is was_is = absurd (let less = within m f was_is in omega (arith, less, past))

  pub emptied_slots : EmptiesSlots s (Some op) (emptying s who.actor turn)
  emptied_slots =
      let kept = all_keep front.mirrored s who.actor who.proc (child_of who.proc (Some op)) (strand_of (Some op)) es fills_none h.done.kinds h.done.can in
      let ran : behind ≡ mirroring front.mirrored (run s es) = run_behind s before es ∙ ap (λ (t : CoreState). run t es) at_front ∙ kept.0 in
      record {
        left = λ m other. ap (λ (t : CoreState). t.mirrored m) ran ∙ is_left m (le_or_lt m most_mirrors) ∙ sym (emptying_stale s who.actor turn (s.mirrored m) (s.slot m));
        notes = λ m other. ap (λ (t : CoreState). t.slot m) ran ∙ ap (λ (f : ℕ → Option Noted). f m) kept.1;
      }
    where
      le_or_lt : (m n : ℕ) → (m < n) ⊎ (n ≤ m)
      le_or_lt m n = go (nat_lt m n) refl
        where
          go : (b : Bool) → nat_lt m n ≡ b → (m < n) ⊎ (n ≤ m)
          go true is = inl (grind (arith, nat_tests, is))
          go false is = inr (grind (arith, nat_tests, is))
