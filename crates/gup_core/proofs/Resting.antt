-- What is true of a machine between two turns, by the state that turns led to.
use Rattle.std.proofs.Common.{IfSome, ◌≡◌, ℕ, ◌+◌, ◌*◌, ◌<◌, ◌≤◌, ◌++◌, Bool, true, List, [], ◌∷◌, length, slice_get, Option, Some, None, IsSome, zero, suc, refl, sym, ap, ◌∙◌, subst, eqb-true, arith}
use Rattle.gup_base.specs.Parts.{words_of}
use Rattle.gup_base.specs.declared.entry.Allowed.{Allowed}
use Rattle.gup_base.specs.declared.entry.Entry.{Entry}
use Rattle.gup_base.specs.declared.entry.Rights.{Rights}
use Rattle.gup_base.specs.declared.entry.Zone.{Zone}
use Rattle.gup_plain.specs.Denial.{is_held_by}
use Rattle.gup_plain.specs.Event.{page_numbers}
use Rattle.gup_plain.specs.State.{Handle, unmade, held, given, gone, objects_of}
use Rattle.gup_script.specs.declared.op.Op.{Op}
use Rattle.gup_script.specs.declared.op.Op.TheVariants.{Unmap, Discard, Pin, Transfer, Move, Fork}
use Rattle.gup_script.specs.Script.{ScriptValue}
use Rattle.gup_script.specs.Limits.{most_handles}
use Rattle.gup_script.specs.Valid.{IsScript}
use Rattle.gup_spec_journal.specs.Place.{doer_of, ops_of, process_of, present_op}
use Rattle.gup_frames.specs.Frames.{FramesValue, IsFrame, frames_of}
use Rattle.gup_space.specs.Space.{SpaceValue, space_of, lacking, tables_in}
use Rattle.gup_space.specs.Shows.{ShowsFrames, ShowsSpace}
use Rattle.gup_handles.specs.Handles.{HandleValue, handles_of}
use Rattle.gup_handles.specs.Handles as kept
use Rattle.gup_handles.specs.Shows.{IsShown}
use Rattle.gup_spec_events.specs.Event.{bias, taken_frames as frames_taken, has_tables, tree_in}
use Rattle.gup_spec_events.specs.Invariant.{frame_of, grabbed_frame}
use Rattle.gup_notify.specs.Mirrors.{Filled, MirrorsValue, mirrors_of}
use Rattle.gup_notify.specs.Shows.{IsMirror, ShowsMirrors}
use Rattle.gup_spec_events.specs.State.{CoreState, Taken, Job, idle, moving, walking, Counted, forking, between, counted, copying, WalkStep, read, grabbed, rechecked, differed, refused, dropping}
use Rattle.gup_law_base.specs.Sound.{IsSound, Moving, moving_of, Walking, walking_of, keeps_table, keeps_structure}
use Rattle.gup_law_base.proofs.Lonely.{whole_counts}
use Rattle.gup_spec_turns.specs.Run.{RunState, run_start, run_after, turned}
use Rattle.gup_spec_turns.specs.ForkTurns.{first_behind}
use Rattle.gup_spec_turns.specs.JobPlace.{JobPlace, job_place, place_in, KeepsNoJob, StandsFork, StandsMove, IsForking, HasCounted, IsPrepared}
use Rattle.gup_spec_turns.specs.Cost.{pins_turns}
use Rattle.gup_law_turns.proofs.PinPace.{pin_left}
use Rattle.gup_spec_tables.specs.Paths.{KeepsPath}
use Rattle.gup_law_tables.specs.Standing.{HavePaths, lacking as lacking_in}
use Rattle.gup_law_tables.specs.Inside.{WalksStand}
use Rattle.gup_law_tables.proofs.InsideTables.{keeps_same}
use Rattle.gup_law_turns.specs.Standing.{IsStanding, CopyStands, StandsHandle, given_back, back_in}
use Rattle.gup_op_base.proofs.Searching.{tables_agree}
use Rattle.gup_op_base.specs.Far.{HasFar}
use Rattle.gup_op_fork.specs.Forked.{IsCountedIn, IsCopyOf, IsReadyAt}
use Rattle.gup_op_pins.specs.Pins.{IsReferred, IsCountedWalk, IsWithinPin, IsPinnedFrame, IsReadyToWalk, frames_in}
use Rattle.gup_fast.specs.Walks.{first_of, last_of}
use Rattle.gup_op_move.specs.Moving.{IsReadyToMove}
use Rattle.gup_spec_turns.specs.PinPlace.{StandsPin, HasTaken, HasPages, IsWithin, IsAtStep, IsWalkingPin, StandsAtPage as IsAtPage}
use Rattle.gup_base.specs.declared.entry.Want.{Want}
use Rattle.gup_op_turns.proofs.Pinning.{length_frames}
use Rattle.gup_op_base.specs.Tidy.{IsTidy}
use Rattle.gup_op_waits.specs.declared.seats.Seat.{Seat}
use Rattle.gup_core.specs.Machine.{MachineValue, Shows, IsReached, IsMachine}
use Rattle.gup_op_waits.specs.Parts.{ShowsParts}
use Rattle.gup_op_waits.specs.Stands.{StandsAt}
use Rattle.gup_core.specs.Rest.{IsAtRest, HoldsNoLock, IsReadyPin, op_of_seat}
use Rattle.gup_op_waits.specs.Seats.{IsSeat}

-- what the turns' law says
abbrev pub Stand : Type 0
Stand = (script : ScriptValue) (actors : List ℕ) → IsScript script → IsStanding script (turned script (run_start script) actors)

pub standing : (m : MachineValue) (r : RunState) → Stand → IsScript m.script → Shows m r → IsStanding m.script r
standing m r stand valid h = subst (λ (x : RunState). IsStanding m.script x) (sym h.reached.1) (stand m.script h.reached.0 valid)

-- ---- the states that turns lead to

turned_more : (script : ScriptValue) (r : RunState) (actors : List ℕ) (a : ℕ) → turned script r (actors ++ a ∷ []) ≡ run_after script (turned script r actors) a
turned_more script r [] a = refl
turned_more script r (b ∷ actors) a = turned_more script (run_after script r b) actors a

pub reached_behind : (script : ScriptValue) (r : RunState) (a : ℕ) → IsReached script r → IsReached script (run_after script r a)
reached_behind script r a reached = (
  reached.0 ++ a ∷ [],
  ap (λ (x : RunState). run_after script x a) reached.1 ∙ sym (turned_more script (run_start script) reached.0 a),
)

-- ---- processes

tidy_in : (script : ScriptValue) (r : RunState) (F : FramesValue) (S : SpaceValue) (p : ℕ) → IsScript script → IsStanding script r → ((f : ℕ) → (F.count f ≡ 0 → ⊥) → IsFrame F f) → ShowsFrames F r.core → ShowsSpace p S r.core → IsTidy F S
tidy_in script r F S p valid h there frames space =
    let counted_so : (page : ℕ) (e : Entry) → S.entry page ≡ Some e → F.count e.frame ≡ 0 → ⊥ =
    λ page e is none. h.counted p page e (space.entry page ∙ is) (frames.count e.frame ∙ none) in
    record {
      numbered = λ page rights is. h.sound.1.right_numbered p page rights (space.right page ∙ is);
      mapped = λ page e is. subst (λ (o : Option Rights). IsSome o) (space.right page) (h.mapped p page e (space.entry page ∙ is));
      there = λ page e is. there e.frame (counted_so page e is);
      counted = counted_so;
      marked = λ page e is writable.
          let sound = h.sound.1 in
          sym (frames.mark e.frame) ∙ sound.entry_marked p page e (sound.whole_entry p page e (space.entry page ∙ is)) writable;
    }

-- an actor that is in the middle of nothing holds no lock
idle_unlocked : (s : CoreState) (S : SpaceValue) (p a : ℕ) → IsSound s → s.job a ≡ idle → ShowsSpace p S s → HoldsNoLock S a
idle_unlocked s S p a sound none space = (
  λ held.
      let keeps : keeps_structure (s.job a) ≡ Some p = sound.1.structure_held p a (space.structure ∙ held) in
      let nothing : None ≡ Some p = sym (ap keeps_structure none) ∙ keeps in
      absurd (cc nothing),
  λ held.
      let keeps : keeps_table (s.job a) ≡ Some p = sound.1.table_held p a (space.table ∙ held) in
      let nothing : None ≡ Some p = sym (ap keeps_table none) ∙ keeps in
      absurd (cc nothing),
)

-- ---- forks

fresh_at : (s : CoreState) (C : SpaceValue) (a p child q c : ℕ) (done : List ℕ) (page : ℕ) → IsForking s a p child q c done → ShowsSpace child C s → first_behind done ≤ page → C.entry page ≡ None
fresh_at s C a p child q c done page h kid above = sym (kid.entry page) ∙ h.fresh page above

counted_in : (s : CoreState) (P C : SpaceValue) (a p child q c : ℕ) (done : List ℕ) (page : ℕ) → ShowsSpace p P s → ShowsSpace child C s → IsForking s a p child q c done → HasCounted s a p child done page → IsCountedIn page P C
counted_in s P C a p child q c done page parent kid forks counted_so = (
  subst (λ (o : Option Entry). IsSome o) (parent.entry page) counted_so.entry,
  subst (λ (o : Option Rights). IsSome o) (kid.right page) counted_so.mapped,
  fresh_at s C a p child q c done page forks kid counted_so.above,
)

copy_of : (s : CoreState) (F : FramesValue) (P : SpaceValue) (p page to : ℕ) → ShowsFrames F s → ShowsSpace p P s → IsPrepared s to → IsCopyOf F page to P
copy_of s F P p page to frames parent h = (
  let within : to < s.movable + s.normal = h.there in omega (arith, within, frames.movable, frames.normal),
  λ none. h.counted (frames.count to ∙ none),
  λ e is. h.apart p page e (parent.entry page ∙ is),
)

-- a fork that has begun holds its parent's structure lock, and what it has counted it can share or copy
pub ready_at : (s : CoreState) (F : FramesValue) (P C : SpaceValue) (a p child : ℕ) → ShowsFrames F s → ShowsSpace p P s → ShowsSpace child C s
    → StandsFork s a p child (s.job a) (s.prepared a) → ((f : ℕ) → s.prepared a ≡ Some f → IsPrepared s f) → CopyStands s a → IsReadyAt F a (place_in s a) P C
ready_at s F P C a p child frames parent kid stands prepares copies = go (s.job a) (s.prepared a) refl refl stands
  where
    -- the child lacks no page table for a page that is copied
    path : (q c page word to : ℕ) (done : List ℕ) → c ≡ child → s.job a ≡ forking q c done (copying page word) → s.prepared a ≡ Some to → lacking C page ≡ 0
    path q c page word to done into is has =
        let tables : has_tables s child page ≡ true = subst (λ (k : ℕ). has_tables s k page ≡ true) into (copies q c page word to done is has) in
        eqb-true (lacking C page) 0 (sym (tables_agree F C child page s frames kid) ∙ tables)

    go : (job : Job) (prepared : Option ℕ) → s.job a ≡ job → s.prepared a ≡ prepared → StandsFork s a p child job prepared → IsReadyAt F a (job_place job prepared) P C
    go idle prepared is has h = tt
    go (forking q c done between) prepared is has h = sym parent.structure ∙ h.locked
    go (forking q c done (counted page)) prepared is has h =
        (sym parent.structure ∙ h.0.locked, counted_in s P C a p child q c done page parent kid h.0 h.1)
    go (forking q c done (copying page word)) None is has h =
        (sym parent.structure ∙ h.0.locked, counted_in s P C a p child q c done page parent kid h.0 h.1)
    go (forking q c done (copying page word)) (Some to) is has h =
        (sym parent.structure ∙ h.0.locked, counted_in s P C a p child q c done page parent kid h.0 h.1, copy_of s F P p page to frames parent (prepares to has), h.2, path q c page word to done h.0.into is has)
    go (forking q c done step) prepared is has h = absurd h
    go job prepared is has h = absurd h

-- ---- moves

-- the frame of an entry that was cleared has a reference
held_moved : (s : CoreState) (F : FramesValue) (a q g : ℕ) (e : Entry) (allowed : Allowed) (count : Counted) → IsSound s → ShowsFrames F s → s.job a ≡ moving q g e allowed count → F.count e.frame ≡ 0 → ⊥
held_moved s F a q g e allowed count sound frames is none =
    let m : Moving = record { proc = q; page = g; entry = e; count = count } in
    let moves : sound.0.moves a ≡ Some m = sound.1.moves_are a ∙ ap moving_of is in
    let some = whole_counts sound.0 s sound.1 q g e (sound.1.whole_moved a m moves) in
    omega (arith, some, none, frames.count e.frame, sound.1.count_is e.frame)

-- the page whose entry was cleared lacks no page table in the process that the state shows
path_of : (s : CoreState) (S : SpaceValue) (a p page q g : ℕ) (e : Entry) (allowed : Allowed) (count : Counted) → HavePaths s.place s.entry s.job → ShowsSpace p S s → q ≡ p → g ≡ page → s.job a ≡ moving q g e allowed count → lacking S page ≡ 0
path_of s S a p page q g e allowed count paths space own here is =
    let cleared : lacking_in (s.place q) g ≡ 0 = paths.cleared a q g e allowed count is in
    let full : lacking_in (s.place p) page ≡ 0 = subst (λ (k : ℕ). lacking_in (s.place p) k ≡ 0) here (subst (λ (k : ℕ). lacking_in (s.place k) g ≡ 0) own cleared) in
    ap (λ place. lacking_in place page) (sym space.place) ∙ full

-- the page that a move has cleared is mapped, has no entry and lacks no page table, and the frame of the entry has a reference
pub ready_to_move : (s : CoreState) (F : FramesValue) (S : SpaceValue) (a p page : ℕ) (zone : Zone) → IsSound s → HavePaths s.place s.entry s.job → ((f : ℕ) → (F.count f ≡ 0 → ⊥) → IsFrame F f) → ShowsFrames F s → ShowsSpace p S s
    → StandsMove s a p page zone (s.job a) → IsReadyToMove F page (place_in s a) S
ready_to_move s F S a p page zone sound paths there frames space stands = go (s.job a) (s.prepared a) refl stands
  where
    held_so : (q g : ℕ) (e : Entry) (allowed : Allowed) (count : Counted) → s.job a ≡ moving q g e allowed count → F.count e.frame ≡ 0 → ⊥
    held_so q g e allowed count is none = held_moved s F a q g e allowed count sound frames is none

    go : (job : Job) (prepared : Option ℕ) → s.job a ≡ job → StandsMove s a p page zone job → IsReadyToMove F page (job_place job prepared) S
    go idle prepared is h = tt
    go (moving q g e allowed count) prepared is h = (
      h.1,
      subst (λ (o : Option Rights). IsSome o) (space.right page) h.4.mapped,
      sym (space.entry page) ∙ h.4.absent,
      there e.frame (held_so q g e allowed count is),
      held_so q g e allowed count is,
      path_of s S a p page q g e allowed count paths space h.0 h.1 is,
    )
    go job prepared is h = absurd h

-- and so is the page that a long pin has cleared, whose entry is right for the pin
pub ready_to_pin : (s : CoreState) (F : FramesValue) (S : SpaceValue) (a p handle page n : ℕ) (want : Want) (fast : Bool) → IsSound s → HavePaths s.place s.entry s.job → WalksStand s → ((f : ℕ) → (F.count f ≡ 0 → ⊥) → IsFrame F f) → ShowsFrames F s → ShowsSpace p S s
    → ((k : ℕ) (t : Taken) → slice_get (s.taken a) k ≡ Some t → bias ≤ s.count t.frame) → ((f : ℕ) → grabbed_frame (s.job a) ≡ Some f → bias ≤ s.count f)
    → StandsPin s a p handle page n want fast (length (s.taken a)) → IsReadyPin F (frames_taken (s.taken a)) (page + length (s.taken a)) n want a (place_in s a) S
ready_to_pin s F S a p handle page n want fast sound paths inside there frames space weighed grab_weighs stands = go (s.job a) (s.prepared a) refl stands.at
  where
    got : ℕ
    got = length (s.taken a)

    -- a frame that has the weight of a pin
    pinned_frame : (f : ℕ) → bias ≤ s.count f → IsPinnedFrame F f
    pinned_frame f weight =
        let same = frames.count f in
        (there f (λ none. omega (arith, weight, none, same)), omega (arith, weight, same))

    first_pinned : (taken : List Taken) → ((k : ℕ) (t : Taken) → slice_get taken k ≡ Some t → bias ≤ s.count t.frame) → IfSome (first_of (frames_taken taken)) (IsPinnedFrame F)
    first_pinned [] all = tt
    first_pinned (t ∷ taken) all = pinned_frame t.frame (all 0 t refl)

    last_pinned : (taken : List Taken) → ((k : ℕ) (t : Taken) → slice_get taken k ≡ Some t → bias ≤ s.count t.frame) → IfSome (last_of (frames_taken taken)) (IsPinnedFrame F)
    last_pinned [] all = tt
    last_pinned (t ∷ []) all = pinned_frame t.frame (all 0 t refl)
    last_pinned (t ∷ u ∷ taken) all = last_pinned (u ∷ taken) (λ k x is. all (suc k) x is)

    -- the last of the frames taken is that of the entry that was found the same
    last_is : (taken : List Taken) (f : ℕ) → 0 < length taken → ((k : ℕ) (t : Taken) → slice_get taken k ≡ Some t → k + 1 ≡ length taken → t.frame ≡ f) → last_of (frames_taken taken) ≡ Some f
    last_is [] f some all = absurd (omega (arith, some))
    last_is (t ∷ []) f some all = ap (λ (k : ℕ). Some k) (all 0 t refl refl)
    last_is (t ∷ u ∷ taken) f some all = last_is (u ∷ taken) f (omega arith) (λ k x is end. all (suc k) x is (omega (arith, end)))

    walks_ready : (q : ℕ) (write long : Bool) (sequence : ℕ) (step : WalkStep) → s.job a ≡ walking q write long sequence step → IsWalkingPin s p (page + got) n got want fast q write long sequence step → IsReadyToWalk F S (frames_taken (s.taken a)) step
    walks_ready q write long sequence (read g path e) is h = let within = h.there in omega (arith, within, frames.movable, frames.normal)
    walks_ready q write long sequence (grabbed g path e) is h =
        keeps_same (tree_in s p) (tables_in S) path g space.place (subst (λ (k : ℕ). KeepsPath (tree_in s k) path g) h.of (inside a q sequence write long (grabbed g path e) is).kept)
    walks_ready q write long sequence (rechecked g e) is h =
        let walk : Walking = record { proc = q; write = write; long = long; sequence = sequence; step = rechecked g e } in
        let walks : sound.0.walks a ≡ Some walk = sound.1.walks_are a ∙ ap walking_of is in
        let last : last_of (frames_taken (s.taken a)) ≡ Some e.frame = last_is (s.taken a) e.frame h.here.0 (λ k t at end. sound.1.walk_last a k walk t e walks refl at end) in
        ((subst (λ (o : Option ℕ). IfSome o (IsPinnedFrame F)) last (last_pinned (s.taken a) weighed)).0, last)
    walks_ready q write long sequence (differed f) is h = pinned_frame f (grab_weighs f (ap grabbed_frame is))
    walks_ready q write long sequence refused is h = last_pinned (s.taken a) weighed
    walks_ready q write long sequence dropping is h = first_pinned (s.taken a) weighed
    walks_ready q write long sequence step is h = tt

    go : (job : Job) (prepared : Option ℕ) → s.job a ≡ job → IsAtPage s a p (page + got) n got want fast job → IsReadyPin F (frames_taken (s.taken a)) (page + got) n want a (job_place job prepared) S
    go idle prepared is h = idle_unlocked s S p a sound is space
    go (moving q g e allowed count) prepared is h = (
      h.1,
      record {
        long = h.4.long;
        pinned = sym space.has_pinned ∙ h.4.flag;
        mapped = subst (λ (o : Option Rights). IsSome o) (space.right (page + got)) h.4.moving.mapped;
        absent = sym (space.entry (page + got)) ∙ h.4.moving.absent;
        path = path_of s S a p (page + got) q g e allowed count paths space h.0 h.1 is;
        there = there e.frame (held_moved s F a q g e allowed count sound frames is);
        held = held_moved s F a q g e allowed count sound frames is;
        marked = sym (frames.mark e.frame) ∙ h.4.marked;
        may = h.4.may;
      },
    )
    go (walking q write long sequence step) prepared is h =
        (subst (λ (k : ℕ). IsAtStep (page + got) n k step) (sym (length_frames (s.taken a))) h.here, walks_ready q write long sequence step is h)
    go job prepared is h = absurd h

-- a pin that is in no walk has more pages to take
within_pin : (n got : ℕ) (job : Job) (prepared : Option ℕ) → IsWithin n got job → IsWithinPin n got (job_place job prepared)
within_pin n got (forking q c done (copying page word)) None h = h
within_pin n got (forking q c done (copying page word)) (Some to) h = h
within_pin n got (forking q c done between) prepared h = h
within_pin n got (forking q c done (counted page)) prepared h = h
within_pin n got (forking q c done step) prepared h = h
within_pin n got (moving q g e allowed count) prepared h = h
within_pin n got (walking q write long sequence step) prepared h = h
within_pin n got job prepared h = h

-- a pin that walks is counted among the walks of its process
counted_walk : (s : CoreState) (S : SpaceValue) (a p page n got : ℕ) (want : Want) (fast : Bool) → ShowsSpace p S s
    → ((q sequence : ℕ) (write long : Bool) (step : WalkStep) → s.job a ≡ walking q write long sequence step → 0 < s.walks q)
    → IsAtPage s a p page n got want fast (s.job a) → IsCountedWalk (place_in s a) S
counted_walk s S a p page n got want fast space runs at = go (s.job a) (s.prepared a) refl at
  where
    go : (job : Job) (prepared : Option ℕ) → s.job a ≡ job → IsAtPage s a p page n got want fast job → IsCountedWalk (job_place job prepared) S
    go idle prepared is h = tt
    go (moving q g e allowed count) prepared is h = tt
    go (walking q write long sequence step) prepared is h =
        let some : 0 < s.walks p = subst (λ (k : ℕ). 0 < s.walks k) h.of (runs q sequence write long step is) in
        subst (λ (k : ℕ). 0 < k) space.walks some
    go job prepared is h = absurd h

-- ---- actors

far_fits : (script : ScriptValue) (r : RunState) (a : ℕ) (seat : Seat) (op : Op) → IsStanding script r → IsSeat (Some op) (r.places a) seat → present_op script a (r.places a) ≡ Some op → HasFar op seat.far
far_fits script r a seat (Unmap page n) h at is = subst (λ (k : ℕ). k < n) (sym at.1) (h.unmaps a page n is)
far_fits script r a seat (Discard page n) h at is = subst (λ (k : ℕ). k < n) (sym at.1) (h.discards a page n is)
far_fits script r a seat (Transfer handle outward slot parts) h at is = subst (λ (k : ℕ). k < words_of parts) (sym at.1) (h.transfers a handle outward slot parts is)
far_fits script r a seat (Pin handle page n want fast) h at is =
    let stands = h.pins a handle page n want fast is in
    let s : CoreState = r.core in
    let got : ℕ = length (s.taken a) in
    subst (λ (k : ℕ). k < pins_turns fast want.long n) (sym at.1)
    (pin_left s a (process_of script a) (page + got) n got (r.places a).far want fast (s.job a) stands.at stands.within (h.paced a handle page n want fast is))
far_fits script r a seat op h at is = tt

-- the operation of an actor's seat is that of its place
pub op_there : (m : MachineValue) (r : RunState) (a : ℕ) (seat : Seat) (op : Option Op) → Shows m r → slice_get m.seats a ≡ Some seat → op_of_seat m a seat ≡ op → present_op m.script a (r.places a) ≡ op
op_there m r a seat op h here is = ap (λ k. slice_get (ops_of m.script a) k) (sym (h.seats a seat here).0) ∙ is

-- ---- pins

-- each page that a pin still has is there, and has the weight of one
weighed_by : (F : FramesValue) (s : CoreState) (K : HandleValue) (handle : Handle) (pinned : List ℕ) (reference : Option (ℕ × ℕ)) → ((f : ℕ) → (F.count f ≡ 0 → ⊥) → IsFrame F f) → ShowsFrames F s
    → IsShown K handle pinned reference → ((k f : ℕ) → slice_get pinned k ≡ Some f → bias ≤ s.count f) → (k f : ℕ) → slice_get (frames_in K) k ≡ Some f → IsFrame F f × (bias ≤ F.count f)
weighed_by F s K handle pinned reference there shown is weighs k f found = go K is found
  where
    heavy : (frames : List ℕ) → pinned ≡ frames → slice_get frames k ≡ Some f → IsFrame F f × (bias ≤ F.count f)
    heavy frames same at =
        let weight : bias ≤ F.count f = subst (λ (n : ℕ). bias ≤ n) (shown.count f) (weighs k f (ap (λ fs. slice_get fs k) same ∙ at)) in
        (there f (λ none. absurd (omega (arith, weight, none))), weight)

    go : (L : HandleValue) → IsShown L handle pinned reference → slice_get (frames_in L) k ≡ Some f → IsFrame F f × (bias ≤ F.count f)
    go kept.unmade is at = absurd (cc at)
    go (kept.held by frames write) is at = heavy frames is.1 at
    go (kept.given to frames write) is at = heavy frames is.1 at
    go (kept.got by frame) is at = absurd (cc at)
    go kept.gone is at = absurd (cc at)

-- the frame of a reference is there, and has one
some_count : (n : ℕ) → (n ≡ 0 → ⊥) → 1 ≤ n
some_count zero some = absurd (some refl)
some_count (suc n) some = omega arith

referred_by : (F : FramesValue) (s : CoreState) (K : HandleValue) (handle : Handle) (pinned : List ℕ) (reference : Option (ℕ × ℕ)) → ((f : ℕ) → (F.count f ≡ 0 → ⊥) → IsFrame F f) → ShowsFrames F s
    → IsShown K handle pinned reference → ((a f : ℕ) → reference ≡ Some (a, f) → s.count f ≡ 0 → ⊥) → IsReferred F K
referred_by F s (kept.got by frame) handle pinned reference there shown is counts =
    let some : F.count frame ≡ 0 → ⊥ = λ none. counts by frame is.1 (shown.count frame ∙ none) in
    (there frame some, some_count (F.count frame) some)
referred_by F s K handle pinned reference there shown is counts = tt

-- a handle that isn't made is kept so
unmade_kept : (K : HandleValue) (handle : Handle) (pinned : List ℕ) (reference : Option (ℕ × ℕ)) → IsShown K handle pinned reference → handle ≡ unmade → reference ≡ None → K ≡ kept.unmade
unmade_kept kept.unmade handle pinned reference is none ungot = refl
unmade_kept (kept.held by frames write) handle pinned reference is none ungot = absurd (let no : held by is.0.0 write ≡ unmade = sym is.0.1 ∙ none in cc no)
unmade_kept (kept.given to frames write) handle pinned reference is none ungot = absurd (let no : given to is.0.0 write ≡ unmade = sym is.0.1 ∙ none in cc no)
unmade_kept (kept.got by frame) handle pinned reference is none ungot = absurd (let no : Some (by, frame) ≡ None = sym is.1 ∙ ungot in cc no)
unmade_kept kept.gone handle pinned reference is none ungot = absurd (let no : gone ≡ unmade = sym is.0 ∙ none in cc no)

-- the process of a pin that has taken pages has pinned
taken_flagged : (s : CoreState) (a p page got : ℕ) (want : Want) → IsSound s → HasTaken p page want got (s.taken a) → 0 < length (s.taken a) → s.has_pinned p ≡ true
taken_flagged s a p page got want sound has some = go (s.taken a) refl some
  where
    go : (taken : List Taken) → s.taken a ≡ taken → 0 < length taken → s.has_pinned p ≡ true
    go [] is none = absurd (omega arith)
    go (t ∷ taken) is more =
        let first : slice_get (s.taken a) 0 ≡ Some t = ap (λ (l : List Taken). slice_get l 0) is in
        subst (λ (q : ℕ). s.has_pinned q ≡ true) (has.each 0 t first).0 (sound.1.taken_flag a 0 t first)

-- and so has that of any pin that has had a turn
pin_flagged : (s : CoreState) (a p handle page n far : ℕ) (want : Want) (fast : Bool) → IsSound s → StandsPin s a p handle page n want fast (length (s.taken a)) → (0 < far → s.has_pinned p ≡ true) → 0 < length (s.taken a) + far → s.has_pinned p ≡ true
pin_flagged s a p handle page n zero want fast sound stands later some = go (s.job a) stands.at stands.taken
  where
    go : (job : Job) → IsAtPage s a p (page + length (s.taken a)) n (length (s.taken a)) want fast job → HasPages p page want (length (s.taken a)) (s.taken a) job → s.has_pinned p ≡ true
    go idle at has = taken_flagged s a p page (length (s.taken a)) want sound has (omega (arith, some))
    go (moving q g e allowed count) at has = at.4.flag
    go (walking q write long sequence step) at has = at.flag
    go job at has = absurd at
pin_flagged s a p handle page n (suc far) want fast sound stands later some = later (omega arith)

-- a pin whose words its holder moves has all its pages
whole_by : (back : ℕ → ℕ) (a : ℕ) (pinned : List ℕ) (handle : Handle) → StandsHandle back pinned handle → back a ≡ 0 → is_held_by handle a ≡ true → length pinned ≡ length (objects_of handle)
whole_by back a pinned (held by objects write) stands none holds =
    let zero_back : back by ≡ 0 = ap back (eqb-true by a holds) ∙ none in
    omega (arith, stands.2, zero_back)
whole_by back a pinned handle stands none holds = absurd (cc holds)

-- ---- before a turn

-- an actor stands so before a turn of its operation
pub stands_at : (script : ScriptValue) (r : RunState) (a : ℕ) (op : Op) → IsStanding script r → present_op script a (r.places a) ≡ Some op → StandsAt r.core a (doer_of script a (Some op)).proc (r.places a).far op
stands_at script r a op h is =
    record {
      idle_job = λ single. h.idle_jobs a (subst KeepsNoJob (sym is) single);
      keeps = h.keeps a;
      fork = λ child same.
          subst (λ (p : ℕ). StandsFork r.core a p child (r.core.job a) (r.core.prepared a)) (own (Fork child) refl same)
          (h.forks a child (is ∙ ap (λ (x : Op). Some x) same));
      move = λ q page zone same.
          subst (λ (p : ℕ). StandsMove r.core a p page zone (r.core.job a)) (ap (λ (x : Op). (doer_of script a (Some x)).proc) (sym same))
          (h.moves a q page zone (is ∙ ap (λ (x : Op). Some x) same));
      pin = λ handle page n want fast same.
          subst (λ (p : ℕ). StandsPin r.core a p handle page n want fast (length (r.core.taken a))) (own (Pin handle page n want fast) refl same)
          (h.pins a handle page n want fast (is ∙ ap (λ (x : Op). Some x) same));
      pinned = λ handle page n want fast same some.
          subst (λ (p : ℕ). r.core.has_pinned p ≡ true) (own (Pin handle page n want fast) refl same)
          (pin_flagged r.core a (process_of script a) handle page n (r.places a).far want fast h.sound (h.pins a handle page n want fast (is ∙ ap (λ (x : Op). Some x) same))
          (h.flagged a handle page n want fast (is ∙ ap (λ (x : Op). Some x) same)) some);
      whole = λ handle slot outward parts same holds.
          whole_by (back_in script r handle) a (r.core.pinned handle) (r.core.handle handle) (h.handles handle)
          (ap (λ (o : Option Op). given_back o handle (r.places a).far) (is ∙ ap (λ (x : Op). Some x) same)) holds;
    }
  where
    -- the process of an operation that names none is its actor's
    own : (o : Op) → (doer_of script a (Some o)).proc ≡ process_of script a → op ≡ o → process_of script a ≡ (doer_of script a (Some op)).proc
    own o names same = sym (ap (λ (x : Op). (doer_of script a (Some x)).proc) same ∙ names)

-- the frame of a filled mirror slot is that of an entry
mirrored_there : (s : CoreState) (F : FramesValue) (mirrors : MirrorsValue) → IsSound s → ((p page : ℕ) (e : Entry) → s.entry p page ≡ Some e → s.count e.frame ≡ 0 → ⊥) → ((f : ℕ) → (F.count f ≡ 0 → ⊥) → IsFrame F f) → ShowsFrames F s → ShowsMirrors mirrors s
    → (slot : ℕ) (filled : Filled) → mirrors slot ≡ Some filled → IsFrame F filled.frame
mirrored_there s F mirrors sound counted_so there frames shown slot filled is = go (subst (λ (o : Option Filled). IsMirror o (s.mirrored slot) (s.slot slot)) is (shown slot))
  where
    of_entry : (p page : ℕ) (o : Option Entry) → s.entry p page ≡ o → frame_of o ≡ Some filled.frame → IsFrame F filled.frame
    of_entry p page None is none = absurd (cc none)
    of_entry p page (Some e) is same =
        let frame : e.frame ≡ filled.frame = cc in
        subst (λ (f : ℕ). IsFrame F f) frame (there e.frame (λ none. counted_so p page e is (frames.count e.frame ∙ none)))

    go : IsMirror (Some filled) (s.mirrored slot) (s.slot slot) → IsFrame F filled.frame
    go (frame, (it, noted, proc, page)) = of_entry it.proc it.page (s.entry it.proc it.page) refl (sound.1.mirror_entry slot filled.frame it frame noted)

pub at_rest : (m : MachineValue) → IsScript m.script → IsMachine m → ((f : ℕ) → ((frames_of m.parts.frames).count f ≡ 0 → ⊥) → IsFrame (frames_of m.parts.frames) f) → Stand → IsAtRest m
at_rest m valid is there stand =
    let r : RunState = is.shown.0 in
    let shown : Shows m r = is.shown.1 in
    let parts : ShowsParts m.parts r.core = shown.parts in
    let h : IsStanding m.script r = standing m r stand valid shown in
    let paths : HavePaths r.core.place r.core.entry r.core.job = h.entries h.needs in
    record {
      valid = valid;
      parts = is.parts;
      seats = is.seats;
      mirrored = mirrored_there r.core (frames_of m.parts.frames) (mirrors_of m.mirrors) h.sound h.counted there parts.frames shown.mirrors;
      tidy = λ p space here. tidy_in m.script r (frames_of m.parts.frames) (space_of space) p valid h there parts.frames (parts.spaces p space here);
      few_forks = λ p space here. subst (λ (k : ℕ). k ≤ 32) (parts.spaces p space here).sequence (h.few_forks p);
      few_walks = λ p space here. subst (λ (k : ℕ). k ≤ 81) (parts.spaces p space here).walks (h.few_walks p);
      walks = λ a handle page n want fast seat space sits op space_is.
          let at = h.pins a handle page n want fast (op_there m r a seat (Some (Pin handle page n want fast)) shown sits op) in
          let got : ℕ = length (r.core.taken a) in
          subst (λ (k : JobPlace). IsCountedWalk k (space_of space)) (sym (shown.jobs a seat sits))
          (counted_walk r.core (space_of space) a (process_of m.script a) (page + got) n got want fast (parts.spaces (process_of m.script a) space space_is) (λ q sequence write long step is. h.walks a q sequence write long step is) at.at);
      few_counts = λ f. subst (λ (k : ℕ). k ≤ 16 * page_numbers + most_handles + 81 + bias * 17761) (parts.frames.count f) (h.few_counts f);
      unlocked = λ p a space seat here sits single.
          idle_unlocked r.core (space_of space) p a h.sound (h.idle_jobs a (subst KeepsNoJob (sym (op_there m r a seat (op_of_seat m a seat) shown sits refl)) single)) (parts.spaces p space here);
      forks = λ a child seat parent kid sits op parent_is kid_is.
          subst (λ (k : JobPlace). IsReadyAt (frames_of m.parts.frames) a k (space_of parent) (space_of kid)) (sym (shown.jobs a seat sits))
          (ready_at r.core (frames_of m.parts.frames) (space_of parent) (space_of kid) a (process_of m.script a) child parts.frames
          (parts.spaces (process_of m.script a) parent parent_is) (parts.spaces child kid kid_is)
          (h.forks a child (op_there m r a seat (Some (Fork child)) shown sits op)) (h.prepared a) (h.copies a));
      moves = λ a q page zone seat space sits op space_is.
          subst (λ (k : JobPlace). IsReadyToMove (frames_of m.parts.frames) page k (space_of space)) (sym (shown.jobs a seat sits))
          (ready_to_move r.core (frames_of m.parts.frames) (space_of space) a q page zone h.sound paths there parts.frames (parts.spaces q space space_is)
          (h.moves a q page zone (op_there m r a seat (Some (Move q page zone)) shown sits op)));
      answered = λ a seat here. subst (λ (k : ℕ). k ≤ length (ops_of m.script a)) (sym (shown.seats a seat here).0) (h.answered a);
      far = λ a seat op here present.
          let now : present_op m.script a (r.places a) ≡ Some op = op_there m r a seat (Some op) shown here present in
          far_fits m.script r a seat op h (subst (λ (o : Option Op). IsSeat o (r.places a) seat) now (shown.seats a seat here)) now;
      weighed = λ k. weighed_by (frames_of m.parts.frames) r.core (handles_of m.parts.handles k) (r.core.handle k) (r.core.pinned k) (r.core.got k) there parts.frames (parts.pins k) (h.weighed k);
      referred = λ k. referred_by (frames_of m.parts.frames) r.core (handles_of m.parts.handles k) (r.core.handle k) (r.core.pinned k) (r.core.got k) there parts.frames (parts.pins k) (h.referred k);
      yet = λ a handle op seat here present makes.
          let yet = h.yet_unmade a handle op (op_there m r a seat (Some op) shown here present) makes in
          unmade_kept (handles_of m.parts.handles handle) (r.core.handle handle) (r.core.pinned handle) (r.core.got handle) (parts.pins handle) yet.0 yet.1;
      taken = λ a handle page n want fast seat pages here taken present.
          let now : present_op m.script a (r.places a) ≡ Some (Pin handle page n want fast) = op_there m r a seat (Some (Pin handle page n want fast)) shown here present in
          subst (λ (k : JobPlace). IsWithinPin n (length pages.items) k) (sym (shown.jobs a seat here))
          (subst (λ (k : ℕ). IsWithinPin n k (place_in r.core a)) (sym (length_frames (r.core.taken a)) ∙ ap length (parts.taken a pages taken))
          (within_pin n (length (r.core.taken a)) (r.core.job a) (r.core.prepared a) (h.pins a handle page n want fast now).within));
      pins = λ a handle page n want fast seat space pages sits op space_is taken.
          let at = h.pins a handle page n want fast (op_there m r a seat (Some (Pin handle page n want fast)) shown sits op) in
          let frames_are : frames_taken (r.core.taken a) ≡ pages.items = parts.taken a pages taken in
          let many : length (r.core.taken a) ≡ length pages.items = sym (length_frames (r.core.taken a)) ∙ ap length frames_are in
          subst (λ (k : JobPlace). IsReadyPin (frames_of m.parts.frames) pages.items (page + length pages.items) n want a k (space_of space)) (sym (shown.jobs a seat sits))
          (subst (λ (k : ℕ). IsReadyPin (frames_of m.parts.frames) pages.items (page + k) n want a (place_in r.core a) (space_of space)) many
          (subst (λ (fs : List ℕ). IsReadyPin (frames_of m.parts.frames) fs (page + length (r.core.taken a)) n want a (place_in r.core a) (space_of space)) frames_are
          (ready_to_pin r.core (frames_of m.parts.frames) (space_of space) a (process_of m.script a) handle page n want fast h.sound paths h.inside there parts.frames (parts.spaces (process_of m.script a) space space_is) (h.taken_weighed a) (h.grabbed a) at)));
    }
