-- A turn of an operation among all parts: of one process, of a pin or a get, of an operation on a pin or a reference, and of
-- a fork.
use Rattle.std.proofs.Common.{◌≡◌, ℕ, ◌+◌, ◌<◌, ◌==◌, Bool, true, false, List, length, slice_get, Option, Some, None, refl, sym, ap, ◌∙◌, subst, inl, inr, eqb-true, arith}
use Rattle.std.proofs.lemmas.Bool.Decides.{nat_tests}
use Rattle.std.proofs.lemmas.Option.{slice_get_cases}
use Rattle.arrayvec.specs.ArrayVec.{ArrayVec}
use Rattle.gup_base.specs.declared.entry.Want.{Want}
use Rattle.gup_plain.specs.State.{Birth as CoreBirth}
use Rattle.gup_plain.specs.declared.note.What.{What}
use Rattle.gup_script.specs.declared.op.Op.{Op}
use Rattle.gup_script.specs.declared.op.Op.TheVariants.{Pin, Get, Fork}
use Rattle.gup_frames.specs.Frames.{FrameLists, frames_of}
use Rattle.gup_space.specs.Space.{SpaceParts, space_of}
use Rattle.gup_space.proofs.After.{AreOf}
use Rattle.gup_space.specs.Shows.{ShowsFrames, ShowsSpace}
use Rattle.gup_space.proofs.ShowsLemmas.{leave_other}
use Rattle.gup_handles.specs.Handles.{handles_of}
use Rattle.gup_spec_events.specs.State.{CoreState, Taken as TakenPage}
use Rattle.gup_spec_events.specs.Event.{CoreEvent, taken_frames as frames_taken, run}
use Rattle.gup_spec_turns.specs.CoreTurn.{CoreTurn}
use Rattle.gup_spec_turns.specs.Turn.{op_turn, own_turn, turn_of}
use Rattle.gup_spec_turns.specs.ForkTurns.{fork_turn}
use Rattle.gup_spec_turns.specs.PinTurns.{pin_turn, get_turn}
use Rattle.gup_spec_turns.specs.JobPlace.{JobPlace as Place, KeepsNoJob, job_place, place_in, unbegun}
use Rattle.gup_op_base.specs.declared.jobs.JobPlace.{JobPlace}
use Rattle.gup_op_base.specs.declared.jobs.JobPlace.TheVariants.{Unbegun}
use Rattle.gup_op_pages.specs.Alone.{IsAlone, ShowsAlone, alone_view}
use Rattle.gup_op_base.specs.Far.{far_in}
use Rattle.gup_op_base.specs.Jobs.{place_of}
use Rattle.gup_op_fork.specs.declared.forks.Forked.{Forked}
use Rattle.gup_op_fork.specs.declared.forks.Forked.TheVariants.{Goes, Born, Failed}
use Rattle.gup_op_fork.specs.Forked.{place_after, birth_after, ShowsForking, StandsAsFork, forking_view}
use Rattle.gup_handles.specs.Shows.{IsShown, ShowsHandles}
use Rattle.gup_op_pins.specs.Pins.{ShowsPinning, IsPinTurn as IsTurnBehind, pinning_view}
use Rattle.gup_op_pins.specs.declared.pins.PinCall.{PinCall}
use Rattle.gup_op_pins.specs.Held.{ShowsStore, ShowsHeld, held_view}
use Rattle.gup_op_base.specs.Turns.{Leads, IsTurnOf, Anywhere}
use Rattle.gup_spec_journal.specs.Place.{Doer}
use Rattle.gup_op_waits.specs.declared.births.Birth.{Birth}
use Rattle.gup_op_waits.specs.Births.{birth_by}
use Rattle.gup_op_waits.specs.declared.parts.Parts.{Parts}
use Rattle.gup_op_waits.specs.Stands.{StandsAt}
use Rattle.gup_tables.specs.Pool.{PoolValue}
use Rattle.gup_op_turns.specs.Goes.{ShowsAll, ShowsWhole, StandsFree, StandsWith, all_view, whole_view, EndsAt, HasSlots}
use Rattle.gup_notify.specs.Mirrors.{MirrorsValue}
use Rattle.gup_op_waits.specs.Doers.{IsProcessOf}
use Rattle.gup_op_waits.specs.Parts.{ShowsSpaces, IsBirth, ShowsBirths, ShowsTaken, ShowsStores, ShowsParts}
use Rattle.gup_op_turns.proofs.Owning.{AreOwn, are_of, turn_is_own, births_stay, IsUnforked, forks_stay, Pins, pins_of, own_leave_pins}
use Rattle.gup_op_turns.proofs.Forking.{AreForking, fork_is_own, fork_leave_pins, fork_leaves_others, fork_births_stay, fork_places_stay}
use Rattle.gup_op_turns.proofs.Pinning.{ArePinning, pin_is_pinning, get_is_pinning, pinnings_births, pinnings_stores, pinnings_taken, AreHandling, Rest, rest_of, handling_leave, handlings_of, handlings_stores, length_frames, pinnings_leave, pinnings_places}
use Rattle.gup_spec_turns.specs.PinPlace.{StandsPin}

-- ---- turns that are stated more than once

-- the operation's turn, from these parts and this place of its job to those, wherever the jobs of others stand
abbrev pub IsTurnAmong : (old new : Parts) → (a p slots far : ℕ) → Op → (place : JobPlace) → List What → (next : JobPlace) → Type 0
IsTurnAmong old new a p slots far op place whats next =
    (k : ℕ) (others : ℕ → Place) (left : ℕ → List TakenPage) → far ≡ far_in (Some op) k
    → IsTurnOf (ShowsAll a op) (λ s. StandsAt s a p k op) (all_view old place others left) (all_view new next others left) (λ s. op_turn s a p slots k op) whats

-- the actor's turn but for page tables: the operation's own, or, where its process has failed, its refusal
abbrev pub IsTurnBy : (old new : Parts) → (a : ℕ) → (proc : Option ℕ) → (far : ℕ) → Op → (place : JobPlace) → List What → (next : JobPlace) → Type 0
IsTurnBy old new a proc far op place whats next =
    (who : Doer) (k : ℕ) (others : ℕ → Place) (left : ℕ → List TakenPage) → who.actor ≡ a → IsProcessOf who proc → HasSlots old a who.slots → far ≡ far_in (Some op) k
    → IsTurnOf (ShowsAll a op) (StandsFree a who k op) (all_view old place others left) (all_view new next others left) (λ s. own_turn s who k op) whats

-- the same from states that have these mirror slots
abbrev pub IsTurnWith : MirrorsValue → (old new : Parts) → (a : ℕ) → (proc : Option ℕ) → (far : ℕ) → Op → (place : JobPlace) → List What → (next : JobPlace) → Type 0
IsTurnWith mirrors old new a proc far op place whats next =
    (who : Doer) (k : ℕ) (others : ℕ → Place) (left : ℕ → List TakenPage) → who.actor ≡ a → IsProcessOf who proc → HasSlots old a who.slots → far ≡ far_in (Some op) k
    → IsTurnOf (ShowsAll a op) (StandsWith mirrors a who k op) (all_view old place others left) (all_view new next others left) (λ s. own_turn s who k op) whats

-- the actor's turn with the page tables that it changes, of which these were free and are
abbrev pub IsTurnWhole : MirrorsValue → (old new : Parts) → (was now : PoolValue) → (a : ℕ) → (proc : Option ℕ) → (far : ℕ) → Op → (place : JobPlace) → List What → (next : JobPlace) → Type 0
IsTurnWhole mirrors old new was now a proc far op place whats next =
    (who : Doer) (k : ℕ) (others : ℕ → Place) (left : ℕ → List TakenPage) → who.actor ≡ a → IsProcessOf who proc → HasSlots old a who.slots → far ≡ far_in (Some op) k
    → IsTurnOf (ShowsWhole a op) (StandsWith mirrors a who k op) (whole_view (all_view old place others left) was) (whole_view (all_view new next others left) now) (λ s. turn_of s who k op) whats

-- so is a turn that asks for no slots
pub with_mirrors : (mirrors : MirrorsValue) (old new : Parts) (a : ℕ) (proc : Option ℕ) (far : ℕ) (op : Op) (place : JobPlace) (whats : List What) (next : JobPlace) → IsTurnBy old new a proc far op place whats next → IsTurnWith mirrors old new a proc far op place whats next
with_mirrors mirrors old new a proc far op place whats next turn who k others left own of_who slots far_is s shown stands =
    turn who k others left own of_who slots far_is s shown stands.free

-- a turn of a pin, by what is kept of its process and of what it has taken
abbrev pub IsPinTurn : (old new : Parts) → (x y : SpaceParts) → (was now : ArrayVec ℕ) → (a : ℕ) → PinCall → (far : ℕ) → (place next : JobPlace) → List What → Type 0
IsPinTurn old new x y was now a call far place next whats =
    IsTurnBehind a call (length was.items) far (pinning_view old.frames x old.handles was.items place) (pinning_view new.frames y new.handles now.items next) whats

-- a turn of a get, by what is kept of its process, whatever its actor has taken
abbrev pub IsGetTurn : (old new : Parts) → (x y : SpaceParts) → (taken : List ℕ) → (a p handle page : ℕ) → List What → Type 0
IsGetTurn old new x y taken a p handle page whats =
    IsTurnOf (ShowsPinning a p) Anywhere (pinning_view old.frames x old.handles taken Unbegun) (pinning_view new.frames y new.handles taken Unbegun)
    (λ s. get_turn s a p handle page (s.entry p page)) whats

-- ---- one element of a list

pub differ : (b a : ℕ) → (b == a) ≡ false → b ≡ a → ⊥
differ b a other is = grind (arith, nat_tests)

-- what holds of the new element and of the others holds of all
pub replaced : {X : Type 0} (P : ℕ → X → Type 0) (old new : List X) (a : ℕ) (x : X) → slice_get new a ≡ Some x → ((b : ℕ) → (b ≡ a → ⊥) → slice_get new b ≡ slice_get old b)
    → P a x → ((b : ℕ) (y : X) → (b ≡ a → ⊥) → slice_get old b ≡ Some y → P b y) → (b : ℕ) (y : X) → slice_get new b ≡ Some y → P b y
replaced {X} P old new a x here others at still b y found = go (b == a) refl
  where
    at_own : b ≡ a → P b y
    at_own e =
        let is : Some x ≡ Some y = sym here ∙ ap (λ k. slice_get new k) (sym e) ∙ found in
        let same : x ≡ y = cc in
        subst (λ (k : ℕ). P k y) (sym e) (subst (λ (z : X). P a z) same at)

    go : (c : Bool) → (b == a) ≡ c → P b y
    go true e = at_own (eqb-true b a e)
    go false e = still b y (differ b a e) (sym (others b (differ b a e)) ∙ found)

-- a list has an element at each of its places
pub there : {X : Type 0} (xs : List X) (q : ℕ) → q < length xs → (x : X) × (slice_get xs q ≡ Some x)
there xs q within =
    elim (slice_get_cases xs q).1 [
      | inl found ↦ (found.0, found.2)
      | inr past ↦ absurd (omega (arith, past.0))
    ]

-- ---- parts that stay

pub births_shown : (old new : Parts) (s t : CoreState) → new.births ≡ old.births → t.birth ≡ s.birth → ShowsBirths old.births.items s → ShowsBirths new.births.items t
births_shown old new s t same stay h q birth here =
    subst (λ (f : ℕ → CoreBirth). IsBirth birth (f q)) (sym stay) (h q birth (ap (λ bs. slice_get bs.items q) (sym same) ∙ here))

pub pins_shown : (old new : Parts) (s t : CoreState) → new.handles ≡ old.handles → pins_of t ≡ pins_of s → ShowsHandles (handles_of old.handles) s → ShowsHandles (handles_of new.handles) t
pins_shown old new s t same stay h =
    subst (λ hs. ShowsHandles (handles_of hs) t) (sym same)
    (subst (λ (k : Pins). (n : ℕ) → IsShown (handles_of old.handles n) (k.0 n) (k.1 n) (k.4 n)) (sym stay) h)

pub taken_shown : (old new : Parts) (s t : CoreState) → new.taken ≡ old.taken → t.taken ≡ s.taken → ShowsTaken old.taken.items s → ShowsTaken new.taken.items t
taken_shown old new s t same stay h b pages here =
    subst (λ (f : ℕ → List TakenPage). frames_taken (f b) ≡ pages.items) (sym stay) (h b pages (ap (λ ts. slice_get ts.items b) (sym same) ∙ here))

store_shown : (b : ℕ) (store : Option (List ℕ)) (s t : CoreState) → ((slot : ℕ) → t.store b slot ≡ s.store b slot) → ShowsStore b store s → ShowsStore b store t
store_shown b None s t same h = tt
store_shown b (Some words) s t same h = λ slot within. same slot ∙ h slot within

pub stores_shown : (old new : Parts) (s t : CoreState) → new.stores ≡ old.stores → t.store ≡ s.store → ShowsStores old.stores.items s → ShowsStores new.stores.items t
stores_shown old new s t same stay h b store here =
    store_shown b store s t (λ slot. ap (λ f. f b slot) stay) (h b store (ap (λ ws. slice_get ws.items b) (sym same) ∙ here))

-- what events of one process leave of each process
spaces_behind : (s : CoreState) (p : ℕ) (es : List CoreEvent) (before behind : List SpaceParts) (new : SpaceParts) → AreOf p es
    → ShowsSpaces before s → ShowsSpace p (space_of new) (run s es) → slice_get behind p ≡ Some new
    → ((q : ℕ) → (q ≡ p → ⊥) → slice_get behind q ≡ slice_get before q)
    → ShowsSpaces behind (run s es)
spaces_behind s p es before behind new own old shown now others =
    replaced (λ q space. ShowsSpace q (space_of space) (run s es)) before behind p new now others shown
    (λ q space apart found. leave_other p q (space_of space) s es (λ is. apart (sym is)) own (old q space found))

-- ---- a turn of one process

pub alone : (old new : Parts) (a p slots far : ℕ) (op : Op) (place : JobPlace) (whats : List What)
    → IsAlone op → KeepsNoJob (Some op) → p < length old.spaces.items → length new.spaces.items ≡ length old.spaces.items
    → new.births ≡ old.births → new.handles ≡ old.handles → new.taken ≡ old.taken → new.stores ≡ old.stores
    → ((q : ℕ) → (q ≡ p → ⊥) → slice_get new.spaces.items q ≡ slice_get old.spaces.items q)
    → ((was now : SpaceParts) (k : ℕ) → slice_get old.spaces.items p ≡ Some was → slice_get new.spaces.items p ≡ Some now → far ≡ far_in (Some op) k → IsTurnOf (ShowsAlone p) Anywhere (alone_view old.frames was) (alone_view new.frames now) (λ s. op_turn s a p slots k op) whats)
    → IsTurnAmong old new a p slots far op place whats place
alone old new a p slots far op place whats by_itself single within many births handles taken stores others turn k rest left far_is s shown stands =
    let was = there old.spaces.items p within in
    let now = there new.spaces.items p (omega (arith, within, many)) in
    let es : List CoreEvent = (op_turn s a p slots k op).events in
    let own : AreOwn a p es = turn_is_own s a p slots k op by_itself in
    let none : IsUnforked (s.job a) = λ f. ap (λ job. job_place job f) (stands.idle_job single) in
    let stay : pins_of (run s es) ≡ pins_of s = own_leave_pins a p s es own in
    let led : Leads (ShowsAlone p) (alone_view new.frames now.0) s (op_turn s a p slots k op) whats =
    turn was.0 now.0 k was.1 now.1 far_is s (record { frames = shown.parts.frames; space = shown.parts.spaces p was.0 was.1 }) tt in
    let parts : ShowsParts new (run s es) =
    record {
      frames = led.shown.frames;
      spaces = spaces_behind s p es old.spaces.items new.spaces.items now.0 (are_of a p es own) shown.parts.spaces led.shown.space now.1 others;
      births = births_shown old new s (run s es) births (births_stay a p s es own) shown.parts.births;
      pins = pins_shown old new s (run s es) handles stay shown.parts.pins;
      taken = taken_shown old new s (run s es) taken (ap (λ (k : Pins). k.2) stay) shown.parts.taken;
      stores = stores_shown old new s (run s es) stores (ap (λ (k : Pins). k.3) stay) shown.parts.stores;
    } in
    record {
      says = led.says;
      shown = record {
        parts = parts;
        job = shown.job ∙ sym (forks_stay a p a s es own none);
        ends = subst (EndsAt op place) (ap (λ (k : Pins). k.2 a) (sym stay)) shown.ends;
        others = λ b apart. forks_stay a p b s es own none ∙ shown.others b apart;
        left = λ b apart. ap (λ (k : Pins). k.2 b) stay ∙ shown.left b apart;
      };
    }

-- ---- a turn of a pin

pub pinned : (old new : Parts) (a p slots far handle page n : ℕ) (want : Want) (fast : Bool) (place next : JobPlace) (whats : List What)
    → p < length old.spaces.items → length new.spaces.items ≡ length old.spaces.items
    → a < length old.taken.items → length new.taken.items ≡ length old.taken.items
    → new.births ≡ old.births → new.stores ≡ old.stores
    → ((q : ℕ) → (q ≡ p → ⊥) → slice_get new.spaces.items q ≡ slice_get old.spaces.items q)
    → ((b : ℕ) → (b ≡ a → ⊥) → slice_get new.taken.items b ≡ slice_get old.taken.items b)
    → ((x y : SpaceParts) (was now : ArrayVec ℕ) → slice_get old.spaces.items p ≡ Some x → slice_get new.spaces.items p ≡ Some y → slice_get old.taken.items a ≡ Some was → slice_get new.taken.items a ≡ Some now
    → IsPinTurn old new x y was now a (record { proc = p; handle = handle; page = page; n = n; want = want; fast = fast }) far place next whats)
    → IsTurnAmong old new a p slots far (Pin handle page n want fast) place whats next
pinned old new a p slots far handle page n want fast place next whats within many taker takers births stores others untaken turn k rest left far_is s shown stands =
    let x = there old.spaces.items p within in
    let y = there new.spaces.items p (omega (arith, within, many)) in
    let was = there old.taken.items a taker in
    let now = there new.taken.items a (omega (arith, taker, takers)) in
    let stands_so : StandsPin s a p handle page n want fast (length (s.taken a)) = stands.pin handle page n want fast refl in
    let es : List CoreEvent = (pin_turn s a p handle page n want fast k).events in
    let own : ArePinning a p es = pin_is_pinning s a p handle page n k want fast in
    let call : PinCall = record { proc = p; handle = handle; page = page; n = n; want = want; fast = fast } in
    let many_taken : length (s.taken a) ≡ length was.0.items = sym (length_frames (s.taken a)) ∙ ap length (shown.parts.taken a was.0 was.1) in
    let led : Leads (ShowsPinning a p) (pinning_view new.frames y.0 new.handles now.0.items next) s (pin_turn s a p handle page n want fast k) whats =
    subst (λ (f : ℕ). IsPinTurn old new x.0 y.0 was.0 now.0 a call f place next whats) far_is (turn x.0 y.0 was.0 now.0 x.1 y.1 was.1 now.1)
    s (record { frames = shown.parts.frames; space = shown.parts.spaces p x.0 x.1; pins = shown.parts.pins; taken = shown.parts.taken a was.0 was.1; place = sym shown.job; last = shown.ends })
    (record {
      at = subst (StandsPin s a p handle page n want fast) many_taken stands_so;
      flagged = λ some. stands.pinned handle page n want fast refl (subst (λ m. 0 < m + k) (sym many_taken) some);
    }) in
    let parts : ShowsParts new (run s es) =
    record {
      frames = led.shown.frames;
      spaces =
          replaced (λ q space. ShowsSpace q (space_of space) (run s es)) old.spaces.items new.spaces.items p y.0 y.1 others led.shown.space
          (λ q space apart found. pinnings_leave a p q (space_of space) s es (λ is. apart (sym is)) own (shown.parts.spaces q space found));
      births = births_shown old new s (run s es) births (pinnings_births a p s es own) shown.parts.births;
      pins = led.shown.pins;
      taken =
          replaced (λ b (pages : ArrayVec ℕ). frames_taken ((run s es).taken b) ≡ pages.items) old.taken.items new.taken.items a now.0 now.1 untaken led.shown.taken
          (λ b pages apart found. ap frames_taken (pinnings_taken a p b s es apart own) ∙ shown.parts.taken b pages found);
      stores = stores_shown old new s (run s es) stores (pinnings_stores a p s es own) shown.parts.stores;
    } in
    record {
      says = led.says;
      shown = record {
        parts = parts;
        job = sym led.shown.place;
        ends = led.shown.last;
        others = λ b apart. pinnings_places a p b s es (λ is. apart (sym is)) own ∙ shown.others b apart;
        left = λ b apart. pinnings_taken a p b s es apart own ∙ shown.left b apart;
      };
    }

-- ---- a turn of a get

pub got : (old new : Parts) (a p slots far handle page : ℕ) (place : JobPlace) (whats : List What)
    → p < length old.spaces.items → length new.spaces.items ≡ length old.spaces.items → a < length old.taken.items
    → new.births ≡ old.births → new.taken ≡ old.taken → new.stores ≡ old.stores
    → ((q : ℕ) → (q ≡ p → ⊥) → slice_get new.spaces.items q ≡ slice_get old.spaces.items q)
    → ((x y : SpaceParts) (taken : List ℕ) → slice_get old.spaces.items p ≡ Some x → slice_get new.spaces.items p ≡ Some y → IsGetTurn old new x y taken a p handle page whats)
    → IsTurnAmong old new a p slots far (Get handle page) place whats place
got old new a p slots far handle page place whats within many taker births taken stores others turn k rest left far_is s shown stands =
    let x = there old.spaces.items p within in
    let y = there new.spaces.items p (omega (arith, within, many)) in
    let was = there old.taken.items a taker in
    let es : List CoreEvent = (get_turn s a p handle page (s.entry p page)).events in
    let own : ArePinning a p es = get_is_pinning s a p handle page in
    let rests : place_in s a ≡ unbegun = ap (λ job. job_place job (s.prepared a)) (stands.idle_job tt) in
    let led : Leads (ShowsPinning a p) (pinning_view new.frames y.0 new.handles was.0.items Unbegun) s (get_turn s a p handle page (s.entry p page)) whats =
    turn x.0 y.0 was.0.items x.1 y.1 s
    (record { frames = shown.parts.frames; space = shown.parts.spaces p x.0 x.1; pins = shown.parts.pins; taken = shown.parts.taken a was.0 was.1; place = rests; last = tt }) tt in
    let parts : ShowsParts new (run s es) =
    record {
      frames = led.shown.frames;
      spaces =
          replaced (λ q space. ShowsSpace q (space_of space) (run s es)) old.spaces.items new.spaces.items p y.0 y.1 others led.shown.space
          (λ q space apart found. pinnings_leave a p q (space_of space) s es (λ is. apart (sym is)) own (shown.parts.spaces q space found));
      births = births_shown old new s (run s es) births (pinnings_births a p s es own) shown.parts.births;
      pins = led.shown.pins;
      taken =
          replaced (λ b (pages : ArrayVec ℕ). frames_taken ((run s es).taken b) ≡ pages.items) old.taken.items new.taken.items a was.0
          (ap (λ ts. slice_get ts.items a) taken ∙ was.1) (λ b apart. ap (λ ts. slice_get ts.items b) taken) led.shown.taken
          (λ b pages apart found. ap frames_taken (pinnings_taken a p b s es apart own) ∙ shown.parts.taken b pages found);
      stores = stores_shown old new s (run s es) stores (pinnings_stores a p s es own) shown.parts.stores;
    } in
    record {
      says = led.says;
      shown = record {
        parts = parts;
        job = shown.job ∙ rests ∙ sym led.shown.place;
        ends = tt;
        others = λ b apart. pinnings_places a p b s es (λ is. apart (sym is)) own ∙ shown.others b apart;
        left = λ b apart. pinnings_taken a p b s es apart own ∙ shown.left b apart;
      };
    }

-- ---- a turn of an operation on a pin or a reference

-- what such a turn is over
pub record ShowsPart (parts : Parts) (s : CoreState) : Type 0 where
  pub frames : ShowsFrames (frames_of parts.frames) s
  pub pins : ShowsHandles (handles_of parts.handles) s
  pub stores : ShowsStores parts.stores.items s

pub handled : (old new : Parts) (a p slots far : ℕ) (op : Op) (place : JobPlace) (whats : List What)
    → KeepsNoJob (Some op) → new.spaces ≡ old.spaces → new.births ≡ old.births → new.taken ≡ old.taken
    → ((s : CoreState) (k : ℕ) → AreHandling a (op_turn s a p slots k op).events)
    → ((s : CoreState) (k : ℕ) → ShowsParts old s → StandsAt s a p k op → far ≡ far_in (Some op) k → Leads ShowsPart new s (op_turn s a p slots k op) whats)
    → IsTurnAmong old new a p slots far op place whats place
handled old new a p slots far op place whats single spaces births taken handling turn k rest left far_is s shown stands =
    let es : List CoreEvent = (op_turn s a p slots k op).events in
    let own : AreHandling a es = handling s k in
    let stay : rest_of (run s es) ≡ rest_of s = handling_leave a s es own in
    let led : Leads ShowsPart new s (op_turn s a p slots k op) whats = turn s k shown.parts stands far_is in
    let parts : ShowsParts new (run s es) =
    record {
      frames = led.shown.frames;
      spaces = λ q space found.
          leave_other (q + 1) q (space_of space) s es (λ is. absurd (omega (arith, is))) (handlings_of a (q + 1) es own)
          (shown.parts.spaces q space (ap (λ xs. slice_get xs.items q) (sym spaces) ∙ found));
      births = births_shown old new s (run s es) births (ap (λ (k : Rest). k.0) stay) shown.parts.births;
      pins = led.shown.pins;
      taken = taken_shown old new s (run s es) taken (ap (λ (k : Rest). k.1) stay) shown.parts.taken;
      stores = led.shown.stores;
    } in
    record {
      says = led.says;
      shown = record {
        parts = parts;
        job = shown.job ∙ ap (λ (k : Rest). job_place (k.2 a) (k.3 a)) (sym stay);
        ends = subst (EndsAt op place) (ap (λ (k : Rest). k.1 a) (sym stay)) shown.ends;
        others = λ b apart. ap (λ (k : Rest). job_place (k.2 b) (k.3 b)) stay ∙ shown.others b apart;
        left = λ b apart. ap (λ (k : Rest). k.1 b) stay ∙ shown.left b apart;
      };
    }

-- an operation that leaves stores alone
pub leads_part : (old new : Parts) (a : ℕ) (s : CoreState) (turn : CoreTurn) (whats : List What)
    → new.stores ≡ old.stores → (run s turn.events).store ≡ s.store → ShowsParts old s → Leads (ShowsHeld a) (held_view new.frames new.handles None) s turn whats → Leads ShowsPart new s turn whats
leads_part old new a s turn whats same stay shown led =
    record {
      says = led.says;
      shown = record {
        frames = led.shown.frames;
        pins = led.shown.pins;
        stores = stores_shown old new s (run s turn.events) same stay shown.stores;
      };
    }

-- one that changes the actor's own
pub leads_store : (old new : Parts) (a : ℕ) (s : CoreState) (turn : CoreTurn) (whats : List What) (now : Option (List ℕ)) → slice_get new.stores.items a ≡ Some now
    → ((b : ℕ) → (b ≡ a → ⊥) → slice_get new.stores.items b ≡ slice_get old.stores.items b)
    → AreHandling a turn.events → ShowsParts old s → Leads (ShowsHeld a) (held_view new.frames new.handles now) s turn whats → Leads ShowsPart new s turn whats
leads_store old new a s turn whats now here others own shown led =
    record {
      says = led.says;
      shown = record {
        frames = led.shown.frames;
        pins = led.shown.pins;
        stores =
            replaced (λ b store. ShowsStore b store (run s turn.events)) old.stores.items new.stores.items a now here others led.shown.store
            (λ b store apart found. store_shown b store s (run s turn.events) (λ slot. handlings_stores a b slot s turn.events apart own) (shown.stores b store found));
      };
    }

-- ---- a turn of a fork

-- what the turn leaves of each process but the two
others_behind : (s : CoreState) (a p c : ℕ) (es : List CoreEvent) (before behind : List SpaceParts) (new_parent new_child : SpaceParts) → AreForking a p c es
    → ShowsSpaces before s → ShowsSpace p (space_of new_parent) (run s es) → slice_get behind p ≡ Some new_parent
    → ShowsSpace c (space_of new_child) (run s es) → slice_get behind c ≡ Some new_child
    → ((q : ℕ) → (q ≡ p → ⊥) → (q ≡ c → ⊥) → slice_get behind q ≡ slice_get before q)
    → ShowsSpaces behind (run s es)
others_behind s a p c es before behind new_parent new_child own old parent parent_now child child_now others q space found = go (q == p) refl (q == c) refl
  where
    at_one : (k : ℕ) (new : SpaceParts) → q ≡ k → ShowsSpace k (space_of new) (run s es) → slice_get behind k ≡ Some new → ShowsSpace q (space_of space) (run s es)
    at_one k new e shown now =
        let is : Some new ≡ Some space = sym now ∙ ap (λ j. slice_get behind j) (sym e) ∙ found in
        let same : new ≡ space = cc in
        subst (λ (j : ℕ). ShowsSpace j (space_of space) (run s es)) (sym e) (subst (λ (x : SpaceParts). ShowsSpace k (space_of x) (run s es)) same shown)

    go : (b : Bool) → (q == p) ≡ b → (d : Bool) → (q == c) ≡ d → ShowsSpace q (space_of space) (run s es)
    go true e d f = at_one p new_parent (eqb-true q p e) parent parent_now
    go false e true f = at_one c new_child (eqb-true q c f) child child_now
    go false e false f =
        fork_leaves_others a p c q (space_of space) s es (λ is. differ q p e (sym is)) (λ is. differ q c f (sym is)) own (old q space (sym (others q (differ q p e) (differ q c f)) ∙ found))

-- the child's birth after it
birth_now : (p : ℕ) (f : Forked) (b : CoreBirth) → b ≡ birth_after p f → IsBirth (birth_by f) b
birth_now p (Goes place) b is = (p, is)
birth_now p Born b is = is
birth_now p Failed b is = is

births_behind : (s : CoreState) (a p c : ℕ) (es : List CoreEvent) (before behind : List Birth) (new : Birth) → AreForking a p c es → ShowsBirths before s
    → slice_get behind c ≡ Some new → ((q : ℕ) → (q ≡ c → ⊥) → slice_get behind q ≡ slice_get before q) → IsBirth new ((run s es).birth c) → ShowsBirths behind (run s es)
births_behind s a p c es before behind new own old now others shown =
    replaced (λ q birth. IsBirth birth ((run s es).birth q)) before behind c new now others shown
    (λ q birth apart found. subst (λ (x : CoreBirth). IsBirth birth x) (sym (fork_births_stay a p c q s es (λ is. apart (sym is)) own)) (old q birth found))

-- so it is from each two processes that stand in these places
abbrev pub IsForkTurns : (old_frames new_frames : FrameLists) → (before behind : List SpaceParts) → (a p c : ℕ) → (place : JobPlace) → Forked → List What → Type 0
IsForkTurns old_frames new_frames before behind a p c place f whats =
    (old_parent new_parent old_child new_child : SpaceParts)
    → slice_get before p ≡ Some old_parent → slice_get behind p ≡ Some new_parent → slice_get before c ≡ Some old_child → slice_get behind c ≡ Some new_child
    → (birth : CoreBirth) → IsTurnOf (ShowsForking a p c) (StandsAsFork a p c)
    (forking_view old_frames old_parent old_child (place_of place) birth) (forking_view new_frames new_parent new_child (place_of (place_after f)) (birth_after p f))
    (λ s. fork_turn s a p c (s.job a)) whats

pub forked : (old new : Parts) (a p c slots far : ℕ) (place : JobPlace) (f : Forked) (whats : List What)
    → (p ≡ c → ⊥) → p < length old.spaces.items → c < length old.spaces.items → length new.spaces.items ≡ length old.spaces.items
    → new.handles ≡ old.handles → new.taken ≡ old.taken → new.stores ≡ old.stores
    → ((q : ℕ) → (q ≡ p → ⊥) → (q ≡ c → ⊥) → slice_get new.spaces.items q ≡ slice_get old.spaces.items q)
    → IsForkTurns old.frames new.frames old.spaces.items new.spaces.items a p c place f whats
    → slice_get new.births.items c ≡ Some (birth_by f) → ((q : ℕ) → (q ≡ c → ⊥) → slice_get new.births.items q ≡ slice_get old.births.items q)
    → IsTurnAmong old new a p slots far (Fork c) place whats (place_after f)
forked old new a p c slots far place f whats apart p_in c_in many handles taken stores others turn born_now unborn_others k rest left far_is s shown stands =
    let old_parent = there old.spaces.items p p_in in
    let old_child = there old.spaces.items c c_in in
    let new_parent = there new.spaces.items p (omega (arith, p_in, many)) in
    let new_child = there new.spaces.items c (omega (arith, c_in, many)) in
    let t : CoreTurn = fork_turn s a p c (s.job a) in
    let own : AreForking a p c t.events = fork_is_own s a p c (s.job a) in
    let stay : pins_of (run s t.events) ≡ pins_of s = fork_leave_pins a p c s t.events own in
    let led : Leads (ShowsForking a p c) (forking_view new.frames new_parent.0 new_child.0 (place_of (place_after f)) (birth_after p f)) s t whats =
    turn old_parent.0 new_parent.0 old_child.0 new_child.0 old_parent.1 new_parent.1 old_child.1 new_child.1 (s.birth c) s
    (record { frames = shown.parts.frames; parent = shown.parts.spaces p old_parent.0 old_parent.1; child = shown.parts.spaces c old_child.0 old_child.1; place = sym shown.job; birth = refl })
    (record { apart = apart; keeps = stands.keeps; at = stands.fork c refl }) in
    let parts : ShowsParts new (run s t.events) =
    record {
      frames = led.shown.frames;
      spaces = others_behind s a p c t.events old.spaces.items new.spaces.items new_parent.0 new_child.0 own shown.parts.spaces led.shown.parent new_parent.1 led.shown.child new_child.1 others;
      births =
          births_behind s a p c t.events old.births.items new.births.items (birth_by f) own shown.parts.births born_now unborn_others (birth_now p f ((run s t.events).birth c) led.shown.birth);
      pins = pins_shown old new s (run s t.events) handles stay shown.parts.pins;
      taken = taken_shown old new s (run s t.events) taken (ap (λ (k : Pins). k.2) stay) shown.parts.taken;
      stores = stores_shown old new s (run s t.events) stores (ap (λ (k : Pins). k.3) stay) shown.parts.stores;
    } in
    record {
      says = led.says;
      shown = record {
        parts = parts;
        job = sym led.shown.place;
        ends = tt;
        others = λ b other. fork_places_stay a p c b s t.events (λ is. other (sym is)) own ∙ shown.others b other;
        left = λ b other. ap (λ (k : Pins). k.2 b) stay ∙ shown.left b other;
      };
    }
