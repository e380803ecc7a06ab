-- The events of a turn of a pin or a get are of frames, of its process, of its handle and of what its actor has taken; those
-- of a turn of an operation on a pin or a reference are of frames, of that and of the actor's store.
use Rattle.std.proofs.Common.{◌≡◌, ℕ, ◌+◌, ◌==◌, ◌&&◌, Bool, true, false, sym, ◌∙◌, List, [], ◌∷◌, ◌++◌, length, Option, Some, None, Ok, Err, zero, suc, refl, ap, if◌then◌else◌, arith}
use Rattle.std.proofs.lemmas.Bool.Decides.{nat_tests}
use Rattle.gup_base.specs.Parts.{Part, words_of, word_at}
use Rattle.gup_base.specs.declared.entry.Entry.{Entry}
use Rattle.gup_base.specs.declared.entry.Rights.{Rights}
use Rattle.gup_base.specs.declared.entry.Want.{Want}
use Rattle.gup_plain.specs.Denial.{is_held_by, transfer_denial}
use Rattle.gup_plain.specs.State.{Birth}
use Rattle.gup_plain.specs.declared.answer.Answer.{Answer}
use Rattle.gup_plain.specs.declared.answer.Answer.TheVariants as answers
use Rattle.gup_space.specs.Space.{SpaceValue}
use Rattle.gup_space.specs.Shows.{ShowsSpace}
use Rattle.gup_space.proofs.ShowsLemmas.{leave_other}
use Rattle.gup_move.proofs.MoveLemmas.{leave_other as moves_leave}
use Rattle.gup_space.proofs.After.{IsOf, AreOf, flagging, pinning, making, unpinning, giving, taking_over, getting, putting_back, moving_out, moving_in}
use Rattle.gup_spec_events.specs.State.{CoreState, Taken as TakenPage, Job, idle, marking, moving, walking, Counted, unread, one, more}
use Rattle.gup_spec_events.specs.Event.{CoreEvent, entry_of, happens, take_frame, put_entry, clear_entry, count_moved, place_frame, restore_entry, raise_flag, pin_page, make_handle, unpin_page, give_handle, take_handle, get_reference, put_reference, move_out, move_in, taken_frames as frames_taken, run}
use Rattle.gup_spec_events.specs.Fault.{Fault, events_of, unshare_fault, unshares, marks, breaks}
use Rattle.gup_spec_turns.specs.CoreTurn.{free_in, zones_of, entry_in, frame_for}
use Rattle.gup_spec_journal.specs.Denial.{has_reference}
use Rattle.gup_spec_turns.specs.PageTurns.{load_fault}
use Rattle.gup_spec_turns.specs.PinTurns.{raises, pin_fault, makes_if, ends_pin, pin_turn_by, pin_turn, last_of, but_last, unpin_turn, give_turn, take_turn, get_turn, got_by, got_frame, put_turn, moves_first, pins_behind, clears_or_pins, ends_moved, pins_moved, moved_turn, pin_turn_at, pin_turn_in, begins_or_pins}
use Rattle.gup_spec_turns.proofs.TurnParts.{unpin_turn_by, give_turn_by, gets_after, put_turn_by, transfer_turn_by}
use Rattle.gup_spec_turns.specs.DeviceTurns.{moves, moves_value, transfer_turn, frame_at}
use Rattle.gup_spec_turns.specs.JobPlace.{job_place, place_in}
use Rattle.gup_op_turns.proofs.Owning.{IsOwn, AreOwn, AreAll, through, two_lists, is_of, counts, marks_it, fills_own, breaks_own, write_fault_own, load_fault_own, birth_stays, Pins, own_leaves_pins, takes as takes_own, fills_it, breaks_it}
use Rattle.gup_fast.proofs.Leaving.{IsWalking, Unwalked, leave_other as walks_leave, walkings_jobs, walkings_taken, walkings_leave}
use Rattle.gup_spec_turns.specs.WalkTurns.{begin_turn, walk_turn}
use Rattle.gup_op_turns.proofs.Walking.{IsOfWalk, AreOfWalk, walks, makes_it, begins_walk, walk_walks}
use Rattle.gup_op_turns.proofs.Moves.{IsMoving, clears, counts as counts_it, takes, places, puts, puts_back as restores_it, move_birth_stays, move_leaves_pins, is_of_move, move_place, put_other}

-- ---- pins

-- an event of a turn of a pin or a get by actor a of process p
pub data IsPinning (a p : ℕ) : CoreEvent → Type 0 where
  readies : (e : CoreEvent) → IsOwn a p e → IsPinning a p e
  flags : IsPinning a p (raise_flag a p)
  pins_it : (page : ℕ) (e : Entry) (write long : Bool) → IsPinning a p (pin_page a p page e write long)
  makes : (h : ℕ) → IsPinning a p (make_handle a h)
  gets_it : (page f h : ℕ) (writable : Bool) → IsPinning a p (get_reference a p page f h writable)
  moves_it : (e : CoreEvent) → IsMoving a p e → IsPinning a p e
  walks_it : (e : CoreEvent) → IsWalking a p e → IsPinning a p e

abbrev pub ArePinning : (a p : ℕ) → List CoreEvent → Type 0
ArePinning a p es = AreAll (IsPinning a p) es

-- other processes stay
pinning_leaves : (a p q : ℕ) (space : SpaceValue) (s : CoreState) {e : CoreEvent} → (p ≡ q → ⊥) → IsPinning a p e → ShowsSpace q space s → ShowsSpace q space (happens s e)
pinning_leaves a p q space s other (readies e own) h = leave_other p q space s (e ∷ []) other (is_of a p own, tt) h
pinning_leaves a p q space s other flags h = leave_other p q space s (raise_flag a p ∷ []) other (flagging a, tt) h
pinning_leaves a p q space s other (pins_it page e write long) h = leave_other p q space s (pin_page a p page e write long ∷ []) other (pinning a page e write long, tt) h
pinning_leaves a p q space s other (makes k) h = leave_other p q space s (make_handle a k ∷ []) other (making a k, tt) h
pinning_leaves a p q space s other (moves_it e own) h = moves_leave p q space s (e ∷ []) other (is_of_move a p own, tt) h
pinning_leaves a p q space s other (walks_it e is) h = walks_leave a p q space s (e ∷ []) other (is, tt) h
pinning_leaves a p q space s other (gets_it page f k writable) h = leave_other p q space s (get_reference a p page f k writable ∷ []) other (getting a page f k writable, tt) h

pub pinnings_leave : (a p q : ℕ) (space : SpaceValue) (s : CoreState) (es : List CoreEvent) → (p ≡ q → ⊥) → ArePinning a p es → ShowsSpace q space s → ShowsSpace q space (run s es)
pinnings_leave a p q space s [] other all h = h
pinnings_leave a p q space s (e ∷ es) other all h = pinnings_leave a p q space (happens s e) es other all.1 (pinning_leaves a p q space s other all.0 h)

ready_pinning : (a p : ℕ) (es : List CoreEvent) → AreOwn a p es → ArePinning a p es
ready_pinning a p [] own = tt
ready_pinning a p (e ∷ es) own = (readies e own.0, ready_pinning a p es own.1)

unshares_own : (a p page : ℕ) (e : Entry) (mark : Bool) (count : ℕ) (free : Option ℕ) → AreOwn a p (events_of (unshares a p page e mark count free))
unshares_own a p page e true count free = tt
unshares_own a p page e false count free = by_count (count == 1)
  where
    by_count : (alone : Bool) → AreOwn a p (events_of (if alone then Ok (marks a p page e) else breaks a p page e false free))
    by_count true = (counts page e.frame e.writable, (marks_it page e.frame, tt))
    by_count false = breaks_own a p page e false free

unshare_own : (a p page : ℕ) (right : Option Rights) (entry : Option Entry) (mark : ℕ → Bool) (count : ℕ → ℕ) (free : Option ℕ) → AreOwn a p (events_of (unshare_fault a p page right entry mark count free))
unshare_own a p page None entry mark count free = tt
unshare_own a p page (Some rights) None mark count free = fills_own a p page free
unshare_own a p page (Some rights) (Some e) mark count free = unshares_own a p page e (mark e.frame) (count e.frame) free

pin_fault_own : (s : CoreState) (a p page : ℕ) (write : Bool) (free : Option ℕ) → AreOwn a p (events_of (pin_fault s a p page write free))
pin_fault_own s a p page true free = write_fault_own a p page (s.right p page) (s.entry p page) s.mark s.count free
pin_fault_own s a p page false free = unshare_own a p page (s.right p page) (s.entry p page) s.mark s.count free

raises_pinning : (a p got : ℕ) (fast : Bool) → ArePinning a p (raises a p got fast)
raises_pinning a p zero false = (flags, tt)
raises_pinning a p zero true = tt
raises_pinning a p (suc got) fast = tt

makes_pinning : (last : Bool) (a p handle : ℕ) → ArePinning a p (makes_if last a handle)
makes_pinning true a p handle = (makes handle, tt)
makes_pinning false a p handle = tt

ends_pinning : (a p handle n far : ℕ) (before : List CoreEvent) (answer : Answer) → ArePinning a p before → ArePinning a p (ends_pin before a handle n far answer).events
ends_pinning a p handle n zero before answer all = all
ends_pinning a p handle n (suc far) before answer all = two_lists (IsPinning a p) before (make_handle a handle ∷ []) all (makes handle, tt)

behind_pinning : (a p handle page n : ℕ) (want : Want) (last : Bool) (e : Entry) (before : List CoreEvent) → ArePinning a p before → ArePinning a p (pins_behind before a p handle page n want last e).events
behind_pinning a p handle page n want last e before all =
    two_lists (IsPinning a p) before (pin_page a p page e want.write want.long ∷ makes_if last a handle) all (pins_it page e want.write want.long, makes_pinning last a p handle)

clears_pinning : (moves : Bool) (a p handle page n : ℕ) (want : Want) (last : Bool) (e : Entry) (before : List CoreEvent) → ArePinning a p before → ArePinning a p (clears_or_pins moves before a p handle page n want last e).events
clears_pinning true a p handle page n want last e before all =
    two_lists (IsPinning a p) before (clear_entry a p page e (zones_of want) ∷ []) all (moves_it (clear_entry a p page e (zones_of want)) (clears page e (zones_of want)), tt)
clears_pinning false a p handle page n want last e before all = behind_pinning a p handle page n want last e before all

pin_pinning : (fault : Fault) (s : CoreState) (a p handle page n got : ℕ) (want : Want) (fast : Bool) → AreOwn a p (events_of fault) → ArePinning a p (pin_turn_by fault s a p handle page n got want fast).events
pin_pinning (Err answer) s a p handle page n got want fast own = ends_pinning a p handle n got (raises a p got fast) answer (raises_pinning a p got fast)
pin_pinning (Ok before) s a p handle page n got want fast own =
    let es : List CoreEvent = raises a p got fast ++ before in
    let first : ArePinning a p es = two_lists (IsPinning a p) (raises a p got fast) before (raises_pinning a p got fast) (ready_pinning a p before own) in
    let e : Entry = entry_in ((run s es).entry p page) in
    clears_pinning (moves_first (run s es) want e) a p handle page n want (got + 1 == n) e es first

restores_pinning : (a p handle page n got : ℕ) (want : Want) (e : Entry) (count : Counted) (answer : Answer) → ArePinning a p (ends_moved a p handle page n got want e count answer).events
restores_pinning a p handle page n got want e count answer =
    ends_pinning a p handle n got (restore_entry a p page e (zones_of want) count ∷ []) answer
    (moves_it (restore_entry a p page e (zones_of want) count) (restores_it page e (zones_of want) count), tt)

places_pinning : (a p handle page n got : ℕ) (want : Want) (e : Entry) (free : Option ℕ) → ArePinning a p (pins_moved a p handle page n got want e free).events
places_pinning a p handle page n got want e None = restores_pinning a p handle page n got want e one answers.NoFrame
places_pinning a p handle page n got want e (Some f) =
    behind_pinning a p handle page n want (got + 1 == n) (entry_of f e.writable) (take_frame a f ∷ place_frame a p page f e (zones_of want) ∷ put_entry a e.frame ∷ [])
    (moves_it (take_frame a f) (takes f), (moves_it (place_frame a p page f e (zones_of want)) (places page f e (zones_of want)), (moves_it (put_entry a e.frame) (puts e.frame), tt)))

moved_pinning : (s : CoreState) (a p handle page n got : ℕ) (want : Want) (e : Entry) (count : Counted) → ArePinning a p (moved_turn s a p handle page n got want e count).events
moved_pinning s a p handle page n got want e unread =
    (moves_it (count_moved a p page e (zones_of want) (s.count e.frame)) (counts_it page e (zones_of want) (s.count e.frame)), tt)
moved_pinning s a p handle page n got want e one = places_pinning a p handle page n got want e (free_in s (zones_of want))
moved_pinning s a p handle page n got want e (more count) = restores_pinning a p handle page n got want e (more count) (answers.Unmovable count)

at_pinning : (s : CoreState) (a p handle page n got : ℕ) (want : Want) (fast : Bool) → ArePinning a p (pin_turn_at s a p handle page n got want fast).events
at_pinning s a p handle page n got want fast =
    let free : Option ℕ = frame_for s p (page + got) (zones_of want) in
    pin_pinning (pin_fault s a p (page + got) want.write free) s a p handle (page + got) n got want fast (pin_fault_own s a p (page + got) want.write free)

get_pinning : (s : CoreState) (fault : Fault) (a p handle page : ℕ) → AreOwn a p (events_of fault) → ArePinning a p (gets_after s fault a p handle page).events
get_pinning s (Err answer) a p handle page own = tt
get_pinning s (Ok before) a p handle page own =
    two_lists (IsPinning a p) before (get_reference a p page _ handle _ ∷ []) (ready_pinning a p before own) (gets_it page _ handle _, tt)

pub get_is_pinning : (s : CoreState) (a p handle page : ℕ) → ArePinning a p (get_turn s a p handle page (s.entry p page)).events
get_is_pinning s a p handle page =
    get_pinning s (load_fault s a p page (s.entry p page)) a p handle page (load_fault_own s a p page (s.entry p page))

-- its walk

walk_pinning : (a p : ℕ) (es : List CoreEvent) → AreOfWalk a p es → ArePinning a p es
walk_pinning a p [] all = tt
walk_pinning a p (e ∷ es) all = (one all.0, walk_pinning a p es all.1)
  where
    one : {x : CoreEvent} → IsOfWalk a p x → IsPinning a p x
    one (walks x is) = walks_it x is
    one (makes_it h) = makes h

begins_pinning : (begins : Bool) (s : CoreState) (a p handle page n got : ℕ) (want : Want) (fast : Bool) → ArePinning a p (begins_or_pins begins s a p handle page n got want fast).events
begins_pinning true s a p handle page n got want fast = walk_pinning a p (begin_turn a p want).events (begins_walk a p want)
begins_pinning false s a p handle page n got want fast = at_pinning s a p handle page n got want fast

in_pinning : (s : CoreState) (a p handle page n got far : ℕ) (want : Want) (fast : Bool) (job : Job) → ArePinning a p (pin_turn_in s a p handle page n got want fast far job).events
in_pinning s a p handle page n got far want fast (moving q g e allowed count) = moved_pinning s a p handle (page + got) n got want e count
in_pinning s a p handle page n got far want fast (walking q write long sequence step) =
    walk_pinning a p (walk_turn s a p handle page n want sequence step).events (walk_walks s a p handle page n want sequence step)
in_pinning s a p handle page n got far want fast job = begins_pinning (fast && far == 0) s a p handle page n got want fast

pub pin_is_pinning : (s : CoreState) (a p handle page n far : ℕ) (want : Want) (fast : Bool) → ArePinning a p (pin_turn s a p handle page n want fast far).events
pin_is_pinning s a p handle page n far want fast = in_pinning s a p handle page n (length (s.taken a)) far want fast (s.job a)

-- what they leave

pinning_births : (a p : ℕ) (s : CoreState) {e : CoreEvent} → IsPinning a p e → (happens s e).birth ≡ s.birth
pinning_births a p s (readies e own) = birth_stays a p s own
pinning_births a p s (moves_it e own) = move_birth_stays a p s own
pinning_births a p s (walks_it e is) = ap (λ (x : Unwalked). x.0) (walkings_leave a p s (e ∷ []) (is, tt))
pinning_births a p s event = refl

pub pinnings_births : (a p : ℕ) (s : CoreState) (es : List CoreEvent) → ArePinning a p es → (run s es).birth ≡ s.birth
pinnings_births a p s es all = through (IsPinning a p) (λ x. x.birth) (λ x e is. pinning_births a p x is) s es all

pinning_stores : (a p : ℕ) (s : CoreState) {e : CoreEvent} → IsPinning a p e → (happens s e).store ≡ s.store
pinning_stores a p s (readies e own) = ap (λ (k : Pins). k.3) (own_leaves_pins a p s own)
pinning_stores a p s (moves_it e own) = ap (λ (k : Pins). k.3) (move_leaves_pins a p s own)
pinning_stores a p s (walks_it e is) = ap (λ (x : Unwalked). x.1) (walkings_leave a p s (e ∷ []) (is, tt))
pinning_stores a p s event = refl

pub pinnings_stores : (a p : ℕ) (s : CoreState) (es : List CoreEvent) → ArePinning a p es → (run s es).store ≡ s.store
pinnings_stores a p s es all = through (IsPinning a p) (λ x. x.store) (λ x e is. pinning_stores a p x is) s es all

pinning_taken : (a p b : ℕ) (s : CoreState) {e : CoreEvent} → (b ≡ a → ⊥) → IsPinning a p e → (happens s e).taken b ≡ s.taken b
pinning_taken a p b s other (readies e own) = ap (λ (k : Pins). k.2 b) (own_leaves_pins a p s own)
pinning_taken a p b s other (moves_it e own) = ap (λ (k : Pins). k.2 b) (move_leaves_pins a p s own)
pinning_taken a p b s other (walks_it e is) = walkings_taken a p b s (e ∷ []) other (is, tt)
pinning_taken a p b s other flags = refl
pinning_taken a p b s other (pins_it page e write long) = grind (arith, nat_tests)
pinning_taken a p b s other (makes h) = grind (arith, nat_tests)
pinning_taken a p b s other (gets_it page f h writable) = refl

pub pinnings_taken : (a p b : ℕ) (s : CoreState) (es : List CoreEvent) → (b ≡ a → ⊥) → ArePinning a p es → (run s es).taken b ≡ s.taken b
pinnings_taken a p b s es other all = through (IsPinning a p) (λ x. x.taken b) (λ x e is. pinning_taken a p b x other is) s es all

-- where another actor stands
own_place : (a p b : ℕ) (s : CoreState) {e : CoreEvent} → (a ≡ b → ⊥) → IsOwn a p e → place_in (happens s e) b ≡ place_in s b
own_place a p b s other (takes_own f) = ap (λ g. job_place (s.job b) g) (put_other a b (Some f) s.prepared other)
own_place a p b s other (fills_it page f) = ap (λ g. job_place (s.job b) g) (put_other a b None s.prepared other)
own_place a p b s other (counts page f writable) = ap (λ job. job_place job (s.prepared b)) (put_other a b (marking p page f) s.job other)
own_place a p b s other (marks_it page f) = ap (λ job. job_place job (s.prepared b)) (put_other a b idle s.job other)
own_place a p b s other (breaks_it page old new was writable) = ap (λ g. job_place (s.job b) g) (put_other a b None s.prepared other)
own_place a p b s other event = refl

pinning_place : (a p b : ℕ) (s : CoreState) {e : CoreEvent} → (a ≡ b → ⊥) → IsPinning a p e → place_in (happens s e) b ≡ place_in s b
pinning_place a p b s other (readies e own) = own_place a p b s other own
pinning_place a p b s other (moves_it e own) = move_place a p b s other own
pinning_place a p b s other (walks_it e is) =
    ap (λ (j : Job). job_place j ((happens s e).prepared b)) (walkings_jobs a p b s (e ∷ []) (λ same. other (sym same)) (is, tt))
    ∙ ap (λ (x : Unwalked). job_place (s.job b) (x.8 b)) (walkings_leave a p s (e ∷ []) (is, tt))
pinning_place a p b s other event = refl

pub pinnings_places : (a p b : ℕ) (s : CoreState) (es : List CoreEvent) → (a ≡ b → ⊥) → ArePinning a p es → place_in (run s es) b ≡ place_in s b
pinnings_places a p b s es other all = through (IsPinning a p) (λ x. place_in x b) (λ x e is. pinning_place a p b x other is) s es all

-- how many pages are taken
pub length_frames : (taken : List TakenPage) → length (frames_taken taken) ≡ length taken
length_frames [] = refl
length_frames (t ∷ taken) = ap (λ n. suc n) (length_frames taken)

-- ---- operations on pins and references

-- an event of a turn of an operation on a pin or a reference by actor a
pub data IsHandling (a : ℕ) : CoreEvent → Type 0 where
  unpins : (h f : ℕ) (left : List ℕ) → IsHandling a (unpin_page a h f left)
  gives : (h to : ℕ) → IsHandling a (give_handle a h to)
  takes_over : (h : ℕ) → IsHandling a (take_handle a h)
  puts_back : (h f : ℕ) → IsHandling a (put_reference a f h)
  moves_from_it : (h index slot f value : ℕ) → IsHandling a (move_out a h index slot f value)
  moves_into : (h index slot f value : ℕ) → IsHandling a (move_in a h index slot f value)

abbrev pub AreHandling : (a : ℕ) → List CoreEvent → Type 0
AreHandling a es = AreAll (IsHandling a) es

unpin_handling : (held : Bool) (a handle : ℕ) (pinned : List ℕ) → AreHandling a (unpin_turn_by held a handle pinned).events
unpin_handling false a handle pinned = tt
unpin_handling true a handle pinned = (unpins handle (last_of pinned) (but_last pinned), tt)

pub unpin_is_handling : (s : CoreState) (a handle : ℕ) → AreHandling a (unpin_turn s a handle).events
unpin_is_handling s a handle = unpin_handling (is_held_by (s.handle handle) a) a handle (s.pinned handle)

give_handling : (held : Bool) (a handle to : ℕ) → AreHandling a (give_turn_by held a handle to).events
give_handling false a handle to = tt
give_handling true a handle to = (gives handle to, tt)

put_handling : (held : Bool) (a handle f : ℕ) → AreHandling a (put_turn_by held a handle f).events
put_handling false a handle f = tt
put_handling true a handle f = (puts_back handle f, tt)

pub put_is_handling : (s : CoreState) (a handle : ℕ) → AreHandling a (put_turn s a handle).events
put_is_handling s a handle = put_handling (has_reference (got_by (s.got handle)) a) a handle (got_frame (s.got handle))

-- all but a transfer leave stores as they are
unpin_store : (held : Bool) (s : CoreState) (a handle : ℕ) (pinned : List ℕ) → (run s (unpin_turn_by held a handle pinned).events).store ≡ s.store
unpin_store false s a handle pinned = refl
unpin_store true s a handle pinned = refl

pub unpin_leaves_stores : (s : CoreState) (a handle : ℕ) → (run s (unpin_turn s a handle).events).store ≡ s.store
unpin_leaves_stores s a handle = unpin_store (is_held_by (s.handle handle) a) s a handle (s.pinned handle)

give_store : (held : Bool) (s : CoreState) (a handle to : ℕ) → (run s (give_turn_by held a handle to).events).store ≡ s.store
give_store false s a handle to = refl
give_store true s a handle to = refl

pub give_leaves_stores : (s : CoreState) (a handle to : ℕ) → (run s (give_turn s a handle to).events).store ≡ s.store
give_leaves_stores s a handle to = give_store (is_held_by (s.handle handle) a) s a handle to

put_store : (held : Bool) (s : CoreState) (a handle f : ℕ) → (run s (put_turn_by held a handle f).events).store ≡ s.store
put_store false s a handle f = refl
put_store true s a handle f = refl

pub put_leaves_stores : (s : CoreState) (a handle : ℕ) → (run s (put_turn s a handle).events).store ≡ s.store
put_leaves_stores s a handle = put_store (has_reference (got_by (s.got handle)) a) s a handle (got_frame (s.got handle))

pub take_leaves_stores : (s : CoreState) (a handle : ℕ) → (run s (take_turn a handle).events).store ≡ s.store
take_leaves_stores s a handle = refl

pub give_is_handling : (s : CoreState) (a handle to : ℕ) → AreHandling a (give_turn s a handle to).events
give_is_handling s a handle to = give_handling (is_held_by (s.handle handle) a) a handle to

pub take_is_handling : (a handle : ℕ) → AreHandling a (take_turn a handle).events
take_is_handling a handle = (takes_over handle, tt)

move_handling : (a handle : ℕ) (outward : Bool) (index slot f value : ℕ) → IsHandling a (moves a handle outward index slot f value)
move_handling a handle true index slot f value = moves_from_it handle index slot f value
move_handling a handle false index slot f value = moves_into handle index slot f value

transfer_handling : (denied : Option Answer) (s : CoreState) (a handle : ℕ) (outward last : Bool) (index slot : ℕ) → AreHandling a (transfer_turn_by denied s a handle outward last index slot).events
transfer_handling (Some denied) s a handle outward last index slot = tt
transfer_handling None s a handle outward last index slot =
    (move_handling a handle outward index slot (frame_at (s.pinned handle) index) (moves_value s a outward index slot (frame_at (s.pinned handle) index)), tt)

pub transfer_is_handling : (s : CoreState) (a slots handle : ℕ) (outward : Bool) (slot : ℕ) (parts : List Part) (far : ℕ) → AreHandling a (transfer_turn s a slots handle outward slot parts far).events
transfer_is_handling s a slots handle outward slot parts far =
    transfer_handling (transfer_denial (s.handle handle) a outward slots slot parts) s a handle outward (far + 1 == words_of parts) (word_at parts far) (slot + far)

-- what they leave

-- births, what actors have taken, their jobs, and the frames that they have prepared
abbrev pub Rest : Type 0
Rest = (ℕ → Birth) × (ℕ → List TakenPage) × (ℕ → Job) × (ℕ → Option ℕ)

abbrev pub rest_of : CoreState → Rest
rest_of s = (s.birth, s.taken, s.job, s.prepared)

handling_rest : (a : ℕ) (s : CoreState) {e : CoreEvent} → IsHandling a e → rest_of (happens s e) ≡ rest_of s
handling_rest a s (unpins h f left) = refl
handling_rest a s event = refl

pub handling_leave : (a : ℕ) (s : CoreState) (es : List CoreEvent) → AreHandling a es → rest_of (run s es) ≡ rest_of s
handling_leave a s es all = through (IsHandling a) rest_of (λ x e is. handling_rest a x is) s es all

handling_stores : (a b slot : ℕ) (s : CoreState) {e : CoreEvent} → (b ≡ a → ⊥) → IsHandling a e → (happens s e).store b slot ≡ s.store b slot
handling_stores a b slot s other (moves_from_it h index at f value) = grind (arith, nat_tests)
handling_stores a b slot s other event = refl

pub handlings_stores : (a b slot : ℕ) (s : CoreState) (es : List CoreEvent) → (b ≡ a → ⊥) → AreHandling a es → (run s es).store b slot ≡ s.store b slot
handlings_stores a b slot s es other all = through (IsHandling a) (λ x. x.store b slot) (λ x e is. handling_stores a b slot x other is) s es all

-- they are of no process
handling_of : (a p : ℕ) {e : CoreEvent} → IsHandling a e → IsOf p e
handling_of a p (unpins h f left) = unpinning a h f left
handling_of a p (gives h to) = giving a h to
handling_of a p (takes_over h) = taking_over a h
handling_of a p (puts_back h f) = putting_back a f h
handling_of a p (moves_from_it h index slot f value) = moving_out a h index slot f value
handling_of a p (moves_into h index slot f value) = moving_in a h index slot f value

pub handlings_of : (a p : ℕ) (es : List CoreEvent) → AreHandling a es → AreOf p es
handlings_of a p [] all = tt
handlings_of a p (e ∷ es) all = (handling_of a p all.0, handlings_of a p es all.1)
