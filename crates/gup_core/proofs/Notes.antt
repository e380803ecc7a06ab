-- No turn has two events and no answer: an operation that goes on counts one page or word a turn.
use Rattle.std.proofs.Common.{◌==◌, ◌&&◌, ℕ, ◌+◌, Bool, true, false, List, [], ◌∷◌, ◌++◌, length, nat_lt, Option, Some, None, Ok, Err, zero, suc}
use Rattle.gup_base.specs.Parts.{words_of, word_at}
use Rattle.gup_base.specs.declared.entry.Allowed.{Allowed}
use Rattle.gup_base.specs.declared.entry.Allowed.TheVariants.{Only, Any}
use Rattle.gup_base.specs.declared.entry.Entry.{Entry}
use Rattle.gup_base.specs.declared.entry.Rights.{Rights}
use Rattle.gup_base.specs.declared.entry.Want.{Want}
use Rattle.gup_base.specs.declared.entry.Zone.{Zone}
use Rattle.gup_plain.specs.Denial.{any_mapped, any_unmapped, map_denial, protect_denial, is_held_by, transfer_denial}
use Rattle.gup_plain.specs.Event.{words}
use Rattle.gup_plain.specs.State.{Birth, failed}
use Rattle.gup_plain.specs.declared.answer.Answer.{Answer}
use Rattle.gup_plain.specs.declared.answer.Answer.TheVariants as answers
use Rattle.gup_plain.specs.declared.note.What.{What}
use Rattle.gup_plain.specs.declared.note.What.TheVariants.{Event}
use Rattle.gup_script.specs.declared.op.Op.{Op}
use Rattle.gup_script.specs.declared.op.Op.TheVariants.{Map, Unmap, Protect, Discard, Load, Store, Pin, Unpin, Give, Get, Put, Transfer, Fork, Exit, Move, Mirror, Look}
use Rattle.gup_spec_events.specs.State.{CoreState, Job, forking, ForkStep, between, copying, idle, moving, Counted, unread, one, more, walking, Taken, WalkStep, entered, ready, reading, read, grabbed, rechecked, differed, refused, stopped, dropping, over, counted}
use Rattle.gup_spec_events.specs.Event.{CoreEvent, entry_of, take_frame, put_entry, place_frame, restore_entry, run, has_tables, tree_in}
use Rattle.gup_spec_tables.specs.Paths.{leads_still, entry_at}
use Rattle.gup_spec_events.specs.Fault.{Fault}
use Rattle.gup_spec_journal.specs.Denial.{has_reference}
use Rattle.gup_spec_turns.specs.Turn.{op_turn, failed_turn, turn_at}
use Rattle.gup_spec_turns.specs.PageTurns.{load_fault, store_fault, exit_turn_by, lowest_page}
use Rattle.gup_spec_turns.proofs.TurnParts.{loads_after, stores_after, map_turn_by, unmap_turn_by, protect_turn_by, discard_turn_by, unpin_turn_by, give_turn_by, gets_after, put_turn_by, transfer_turn_by, clear_turn_by}
use Rattle.gup_spec_turns.specs.PinTurns.{pin_fault, ends_pin, pin_turn_by, but_last, unpinned, got_by, got_frame, raises, moves_first, pins_behind, clears_or_pins, pins_moved, moved_turn, pin_turn_in, begins_or_pins}
use Rattle.gup_spec_turns.specs.WalkTurns.{all_turn, ready_turn, grab_turn, is_same, recheck_turn, split_last, last_turn, first_turn, walk_turn}
use Rattle.gup_spec_turns.specs.MoveTurns.{place_turn, counted_turn, move_turn}
use Rattle.gup_spec_turns.specs.ForkTurns.{page_turn, next_page, next_turn, share_turn, frame_turn, copy_turn, copying_turn, fork_step_turn, fork_turn}
use Rattle.gup_spec_turns.specs.MirrorTurns.{fills as fills_slot, look_turn}
use Rattle.gup_spec_turns.specs.CoreTurn.{free_in, frame_for, entry_in, zones_of, after_fault}

abbrev pub NoTwo : List What → Type 0
NoTwo (Event event ∷ Event next ∷ []) = ⊥
NoTwo whats = Unit {0}

load_two : (s : CoreState) (fault : Fault) (a p page word : ℕ) → NoTwo (loads_after s fault a p page word).whats
load_two s (Err answer) a p page word = tt
load_two s (Ok before) a p page word = tt

store_two : (s : CoreState) (fault : Fault) (a p page word value : ℕ) → NoTwo (stores_after s fault a p page word value).whats
store_two s (Err answer) a p page word value = tt
store_two s (Ok before) a p page word value = tt

map_two : (denied : Option Answer) (a p page n : ℕ) (rights : Rights) → NoTwo (map_turn_by denied a p page n rights).whats
map_two (Some denied) a p page n rights = tt
map_two None a p page n rights = tt

protect_two : (denied : Option Answer) (s : CoreState) (a p page n : ℕ) (rights : Rights) → NoTwo (protect_turn_by denied s a p page n rights).whats
protect_two (Some denied) s a p page n rights = tt
protect_two None s a p page n rights = tt

unmap_two : (rights : Option Rights) (a p page : ℕ) (entry : Option Entry) (last : Bool) → NoTwo (unmap_turn_by rights a p page entry last).whats
unmap_two None a p page entry true = tt
unmap_two None a p page entry false = tt
unmap_two (Some rights) a p page entry true = tt
unmap_two (Some rights) a p page entry false = tt

discard_two : (rights : Option Rights) (a p page : ℕ) (entry : Option Entry) (last : Bool) → NoTwo (discard_turn_by rights a p page entry last).whats
discard_two None a p page entry true = tt
discard_two None a p page entry false = tt
discard_two (Some rights) a p page entry true = tt
discard_two (Some rights) a p page entry false = tt

exit_two : (s : CoreState) (a p : ℕ) (lowest : Option ℕ) → NoTwo (exit_turn_by s a p lowest).whats
exit_two s a p None = tt
exit_two s a p (Some page) = tt

ends_two : (before : List CoreEvent) (a handle n far : ℕ) (answer : Answer) → NoTwo (ends_pin before a handle n far answer).whats
ends_two before a handle n zero answer = tt
ends_two before a handle n (suc far) answer = tt

pinned_two : (last : Bool) (before : List CoreEvent) (a p handle page n : ℕ) (want : Want) (e : Entry) → NoTwo (pins_behind before a p handle page n want last e).whats
pinned_two true before a p handle page n want e = tt
pinned_two false before a p handle page n want e = tt

clears_two : (moves last : Bool) (before : List CoreEvent) (a p handle page n : ℕ) (want : Want) (e : Entry) → NoTwo (clears_or_pins moves before a p handle page n want last e).whats
clears_two true last before a p handle page n want e = tt
clears_two false last before a p handle page n want e = pinned_two last before a p handle page n want e

pin_two : (fault : Fault) (s : CoreState) (a p handle page n got : ℕ) (want : Want) (fast : Bool) → NoTwo (pin_turn_by fault s a p handle page n got want fast).whats
pin_two (Err answer) s a p handle page n got want fast = ends_two (raises a p got fast) a handle n got answer
pin_two (Ok before) s a p handle page n got want fast =
    let es : List CoreEvent = raises a p got fast ++ before in
    let e : Entry = entry_in ((run s es).entry p page) in
    clears_two (moves_first (run s es) want e) (got + 1 == n) es a p handle page n want e

placed_two : (a p handle page n got : ℕ) (want : Want) (e : Entry) (free : Option ℕ) → NoTwo (pins_moved a p handle page n got want e free).whats
placed_two a p handle page n got want e None = ends_two (restore_entry a p page e (zones_of want) one ∷ []) a handle n got answers.NoFrame
placed_two a p handle page n got want e (Some f) =
    pinned_two (got + 1 == n) (take_frame a f ∷ place_frame a p page f e (zones_of want) ∷ put_entry a e.frame ∷ []) a p handle page n want (entry_of f e.writable)

later_two : (s : CoreState) (a p handle page n got : ℕ) (want : Want) (e : Entry) (count : Counted) → NoTwo (moved_turn s a p handle page n got want e count).whats
later_two s a p handle page n got want e unread = tt
later_two s a p handle page n got want e one = placed_two a p handle page n got want e (free_in s (zones_of want))
later_two s a p handle page n got want e (more count) = ends_two (restore_entry a p page e (zones_of want) (more count) ∷ []) a handle n got (answers.Unmovable count)

begins_two : (begins : Bool) (s : CoreState) (a p handle page n got : ℕ) (want : Want) (fast : Bool) → NoTwo (begins_or_pins begins s a p handle page n got want fast).whats
begins_two true s a p handle page n got want fast = tt
begins_two false s a p handle page n got want fast = pin_two (pin_fault s a p (page + got) want.write (frame_for s p (page + got) (zones_of want))) s a p handle (page + got) n got want fast

-- nor has one of a walk
all_two : (a p handle n : ℕ) (want : Want) (sequence now : ℕ) (same : Bool) → NoTwo (all_turn a p handle n want sequence now same).whats
all_two a p handle n want sequence now true = tt
all_two a p handle n want sequence now false = tt

ready_two : (s : CoreState) (a p handle page n : ℕ) (want : Want) (sequence : ℕ) (more : Bool) → NoTwo (ready_turn s a p handle page n want sequence more).whats
ready_two s a p handle page n want sequence true = tt
ready_two s a p handle page n want sequence false = all_two a p handle n want sequence (s.sequence p) (s.sequence p == sequence)

grab_two : (a p : ℕ) (want : Want) (sequence page : ℕ) (path : List ℕ) (e : Entry) (count : ℕ) → NoTwo (grab_turn a p want sequence page path e count).whats
grab_two a p want sequence page path e zero = tt
grab_two a p want sequence page path e (suc count) = tt

recheck_two : (a p : ℕ) (want : Want) (sequence page : ℕ) (path : List ℕ) (e : Entry) (leads same : Bool) → NoTwo (recheck_turn a p want sequence page path e leads same).whats
recheck_two a p want sequence page path e true true = tt
recheck_two a p want sequence page path e true false = tt
recheck_two a p want sequence page path e false same = tt

drop_two : (a p : ℕ) (want : Want) (sequence : ℕ) (taken : Option (List Taken × Taken)) → NoTwo (last_turn a p want sequence taken).whats
drop_two a p want sequence None = tt
drop_two a p want sequence (Some (rest, last)) = tt

drops_two : (a p : ℕ) (want : Want) (sequence : ℕ) (taken : List Taken) → NoTwo (first_turn a p want sequence taken).whats
drops_two a p want sequence [] = tt
drops_two a p want sequence (t ∷ rest) = tt

walk_two : (s : CoreState) (a p handle page n : ℕ) (want : Want) (sequence : ℕ) (step : WalkStep) → NoTwo (walk_turn s a p handle page n want sequence step).whats
walk_two s a p handle page n want sequence entered = tt
walk_two s a p handle page n want sequence ready = ready_two s a p handle (page + length (s.taken a)) n want sequence (nat_lt (length (s.taken a)) n)
walk_two s a p handle page n want sequence (reading g path) = tt
walk_two s a p handle page n want sequence (read g path e) = grab_two a p want sequence g path e (s.count e.frame)
walk_two s a p handle page n want sequence (grabbed g path e) =
    recheck_two a p want sequence g path e (leads_still (tree_in s p) path g) (is_same e (entry_at (tree_in s p) path g))
walk_two s a p handle page n want sequence (rechecked g e) = tt
walk_two s a p handle page n want sequence (differed f) = tt
walk_two s a p handle page n want sequence refused = drop_two a p want sequence (split_last (s.taken a))
walk_two s a p handle page n want sequence stopped = tt
walk_two s a p handle page n want sequence dropping = drops_two a p want sequence (s.taken a)
walk_two s a p handle page n want sequence over = tt

pin_in_two : (s : CoreState) (a p handle page n got : ℕ) (want : Want) (fast : Bool) (far : ℕ) (job : Job) → NoTwo (pin_turn_in s a p handle page n got want fast far job).whats
pin_in_two s a p handle page n got want fast far (moving q g e allowed count) = later_two s a p handle (page + got) n got want e count
pin_in_two s a p handle page n got want fast far (walking q write long sequence step) = walk_two s a p handle page n want sequence step
pin_in_two s a p handle page n got want fast far job = begins_two (fast && far == 0) s a p handle page n got want fast

unpinned_two : (left : List ℕ) (a handle : ℕ) → NoTwo (unpinned left a handle)
unpinned_two [] a handle = tt
unpinned_two (f ∷ left) a handle = tt

unpin_two : (held : Bool) (a handle : ℕ) (pinned : List ℕ) → NoTwo (unpin_turn_by held a handle pinned).whats
unpin_two false a handle pinned = tt
unpin_two true a handle pinned = unpinned_two (but_last pinned) a handle

give_two : (held : Bool) (a handle to : ℕ) → NoTwo (give_turn_by held a handle to).whats
give_two false a handle to = tt
give_two true a handle to = tt

get_two : (s : CoreState) (fault : Fault) (a p handle page : ℕ) → NoTwo (gets_after s fault a p handle page).whats
get_two s (Err answer) a p handle page = tt
get_two s (Ok before) a p handle page = tt

mirror_two : (s : CoreState) (fault : Fault) (a p mirror page : ℕ) → NoTwo (after_fault fault (λ before. fills_slot s before a p mirror page)).whats
mirror_two s (Err answer) a p mirror page = tt
mirror_two s (Ok before) a p mirror page = tt

look_two : (s : CoreState) (a mirror word : ℕ) (frame : Option ℕ) → NoTwo (look_turn s a mirror word frame).whats
look_two s a mirror word None = tt
look_two s a mirror word (Some f) = tt

put_two : (held : Bool) (a handle f : ℕ) → NoTwo (put_turn_by held a handle f).whats
put_two false a handle f = tt
put_two true a handle f = tt

transfer_two : (denied : Option Answer) (s : CoreState) (a handle : ℕ) (outward last : Bool) (index slot : ℕ) → NoTwo (transfer_turn_by denied s a handle outward last index slot).whats
transfer_two (Some denied) s a handle outward last index slot = tt
transfer_two None s a handle outward true index slot = tt
transfer_two None s a handle outward false index slot = tt

page_two : (s : CoreState) (a p c : ℕ) (done : List ℕ) (page : ℕ) (entry : Option Entry) → NoTwo (page_turn s a p c done page entry).whats
page_two s a p c done page None = tt
page_two s a p c done page (Some e) = tt

next_two : (s : CoreState) (a p c : ℕ) (done : List ℕ) (next : Option ℕ) → NoTwo (next_turn s a p c done next).whats
next_two s a p c done None = tt
next_two s a p c done (Some page) = page_two s a p c done page (s.entry p page)

share_two : (s : CoreState) (a p c : ℕ) (done : List ℕ) (page : ℕ) (entry : Option Entry) (may : Bool) → NoTwo (share_turn s a p c done page entry may).whats
share_two s a p c done page entry true = tt
share_two s a p c done page entry false = tt

frame_two : (s : CoreState) (a p c : ℕ) (done : List ℕ) (page word : ℕ) (free : Option ℕ) → NoTwo (frame_turn s a p c done page word free).whats
frame_two s a p c done page word None = tt
frame_two s a p c done page word (Some f) = tt

copy_two : (s : CoreState) (a p c : ℕ) (done : List ℕ) (page word to : ℕ) (more : Bool) → NoTwo (copy_turn s a p c done page word to more).whats
copy_two s a p c done page word to true = tt
copy_two s a p c done page word to false = tt

copying_two : (s : CoreState) (a p c : ℕ) (done : List ℕ) (page word : ℕ) (prepared : Option ℕ) → NoTwo (copying_turn s a p c done page word prepared).whats
copying_two s a p c done page word None = frame_two s a p c done page word (frame_for s c page Any)
copying_two s a p c done page word (Some to) = copy_two s a p c done page word to (nat_lt word words)

step_two : (s : CoreState) (a p c : ℕ) (done : List ℕ) (step : ForkStep) → NoTwo (fork_step_turn s a p c done step).whats
step_two s a p c done between = next_two s a p c done (next_page (s.right c) done)
step_two s a p c done (counted page) = share_two s a p c done page (s.entry p page) (has_tables s c page)
step_two s a p c done (copying page word) = copying_two s a p c done page word (s.prepared a)
step_two s a p c done step = tt

fork_two : (s : CoreState) (a p c : ℕ) (job : Job) → NoTwo (fork_turn s a p c job).whats
fork_two s a p c (forking q d done step) = step_two s a p c done step
fork_two s a p c job = tt

first_two : (a p page : ℕ) (zone : Zone) (right : Option Rights) (entry : Option Entry) → NoTwo (clear_turn_by right a p page zone entry).whats
first_two a p page zone None entry = tt
first_two a p page zone (Some rights) None = tt
first_two a p page zone (Some rights) (Some e) = tt

place_two : (a p page : ℕ) (e : Entry) (allowed : Allowed) (free : Option ℕ) → NoTwo (place_turn a p page e allowed free).whats
place_two a p page e allowed None = tt
place_two a p page e allowed (Some f) = tt

counted_two : (s : CoreState) (a p page : ℕ) (e : Entry) (allowed : Allowed) (count : Counted) → NoTwo (counted_turn s a p page e allowed count).whats
counted_two s a p page e allowed unread = tt
counted_two s a p page e allowed one = place_two a p page e allowed (free_in s allowed)
counted_two s a p page e allowed (more count) = tt

move_two : (s : CoreState) (a p page : ℕ) (zone : Zone) (job : Job) → NoTwo (move_turn s a p page zone job).whats
move_two s a p page zone idle = first_two a p page zone (s.right p page) (s.entry p page)
move_two s a p page zone (moving q g e allowed count) = counted_two s a p page e (Only zone) count
move_two s a p page zone job = tt

no_two : (s : CoreState) (a p slots far : ℕ) (op : Op) → NoTwo (op_turn s a p slots far op).whats
no_two s a p slots far (Map page n rights) = map_two (map_denial (any_mapped (s.right p) page n) (s.pages p) n) a p page n rights
no_two s a p slots far (Unmap page n) = unmap_two (s.right p (page + far)) a p (page + far) (s.entry p (page + far)) (far + 1 == n)
no_two s a p slots far (Protect page n rights) = protect_two (protect_denial (any_unmapped (s.right p) page n)) s a p page n rights
no_two s a p slots far (Discard page n) = discard_two (s.right p (page + far)) a p (page + far) (s.entry p (page + far)) (far + 1 == n)
no_two s a p slots far (Load page word) = load_two s (load_fault s a p page (s.entry p page)) a p page word
no_two s a p slots far (Store page word value) = store_two s (store_fault s a p page (s.entry p page)) a p page word value
no_two s a p slots far (Pin handle page n want fast) =
    pin_in_two s a p handle page n (length (s.taken a)) want fast far (s.job a)
no_two s a p slots far (Unpin handle) = unpin_two (is_held_by (s.handle handle) a) a handle (s.pinned handle)
no_two s a p slots far (Give handle to) = give_two (is_held_by (s.handle handle) a) a handle to
no_two s a p slots far (Get handle page) = get_two s (load_fault s a p page (s.entry p page)) a p handle page
no_two s a p slots far (Put handle) = put_two (has_reference (got_by (s.got handle)) a) a handle (got_frame (s.got handle))
no_two s a p slots far (Transfer handle outward slot parts) =
    transfer_two (transfer_denial (s.handle handle) a outward slots slot parts) s a handle outward (far + 1 == words_of parts) (word_at parts far) (slot + far)
no_two s a p slots far (Mirror mirror proc page) = mirror_two s (load_fault s a p page (s.entry p page)) a p mirror page
no_two s a p slots far (Look mirror word) = look_two s a mirror word (s.mirrored mirror)
no_two s a p slots far (Move proc page zone) = move_two s a p page zone (s.job a)
no_two s a p slots far (Fork child) = fork_two s a p child (s.job a)
no_two s a p slots far Exit = exit_two s a p (lowest_page (s.right p))
no_two s a p slots far op = tt

refused_two : (a p : ℕ) (op : Op) → NoTwo (failed_turn a p op).whats
refused_two a p (Fork child) = tt
refused_two a p op = tt

pub turn_two : (b : Birth) (s : CoreState) (a p slots far : ℕ) (op : Op) → NoTwo (turn_at b (failed_turn a p op) (op_turn s a p slots far op)).whats
turn_two failed s a p slots far op = refused_two a p op
turn_two b s a p slots far op = no_two s a p slots far op
