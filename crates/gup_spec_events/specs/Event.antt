-- The core events: when each can happen, what it changes, and the plain event that stands at it.
use Rattle.std.specs.Prelude.{◌≡◌, ℕ, ◌+◌, ◌-◌, ◌/◌, ◌%◌, ◌<◌, ◌≤◌, ◌==◌, ◌&&◌, ◌||◌, ◌⊎◌, nat_le, nat_lt, not, Bool, true, false, if◌then◌else◌, List, [], ◌∷◌, ◌++◌, length, map, slice_get, All, Contains, Option, Some, None, IsSome, zero}
use Rattle.std.specs.Option.{option_map}
pub use Rattle.gup_base.specs.Counts.{bias}
use Rattle.gup_base.specs.declared.entry.Allowed.{Allowed}
use Rattle.gup_base.specs.declared.entry.Allowed.TheVariants.{Any, Only}
use Rattle.gup_base.specs.declared.entry.Entry.{Entry}
use Rattle.gup_base.specs.declared.entry.Rights.{Rights}
use Rattle.gup_base.specs.declared.entry.Rights.TheVariants.{R, RW}
use Rattle.gup_base.specs.declared.entry.Zone.TheVariants.{Movable, Normal}
use Rattle.gup_plain.specs.declared.event.PlainEvent.{PlainEvent}
use Rattle.gup_plain.specs.declared.event.PlainEvent.TheVariants as events
use Rattle.gup_plain.specs.Event.{happened, most_pages, page_numbers, words, IsHeldBy, IsGivenTo, may_write, given_to, held_by, object_at}
use Rattle.gup_base.specs.Counts.{most_slots}
use Rattle.gup_plain.specs.Pages.{mapped_pages}
use Rattle.gup_plain.specs.Put.{put, put2, spread}
use Rattle.gup_plain.specs.State.{PlainState, Noted, unborn, growing, born, failed, unmade, held, gone, named_or_zero}
use Rattle.gup_spec_tables.specs.Tables.{TreeValue, table_numbers, placed_tables, on_path, lacks, detachable, is_among}
use Rattle.gup_spec_tables.specs.Paths.{link_at, entry_at, leads_still}
use Rattle.gup_spec_events.specs.State.{CoreState, Taken, Job, idle, marking, moving, forking, walking, Counted, unread, one, more, ForkStep, between, counted, lowered, cleared, copying, failing, WalkStep, entered, ready, reading, read, grabbed, rechecked, differed, refused, stopped, dropping, over}

-- An event names its actor, its process and page, and what it reads: so its change has no cases.
pub data CoreEvent : Type 0 where
  -- faults

  -- the actor takes a free frame, zeroed, to prepare it
  take_frame : (a f : ℕ) → CoreEvent
  -- the prepared frame goes into the absent entry of a mapped page, marked and read-only
  fill : (a p page f : ℕ) → CoreEvent
  -- the count of an unmarked frame is read, and it is 1: the actor is about to mark it, and keeps the table lock
  count_one : (a p page f : ℕ) (writable : Bool) → CoreEvent
  set_mark : (a p page f : ℕ) → CoreEvent
  -- the read-only entry of a marked frame becomes writable
  upgrade : (a p page f : ℕ) → CoreEvent
  -- the entry of an unmarked frame gets the prepared one instead, a marked copy; the old reference is owed
  break_entry : (a p page old new : ℕ) (was writable : Bool) → CoreEvent
  -- the reference of an entry that is gone is given back
  put_entry : (a f : ℕ) → CoreEvent
  -- pins, references and handles

  -- the process has pinned, from now on
  raise_flag : (a p : ℕ) → CoreEvent
  -- a slow pin takes the page's marked frame
  pin_page : (a p page : ℕ) (entry : Entry) (write long : Bool) → CoreEvent
  -- what the pin has taken is the handle's
  make_handle : (a h : ℕ) → CoreEvent
  -- the last page that the handle still has is given back; these are left
  unpin_page : (a h f : ℕ) (left : List ℕ) → CoreEvent
  give_handle : (a h to : ℕ) → CoreEvent
  take_handle : (a h : ℕ) → CoreEvent
  get_reference : (a p page f k : ℕ) (writable : Bool) → CoreEvent
  put_reference : (a f k : ℕ) → CoreEvent
  -- moves

  -- the entry is cleared, and the table lock kept; which zones the page may move to
  clear_entry : (a p page : ℕ) (entry : Entry) (allowed : Allowed) → CoreEvent
  -- the count of its frame is read
  count_moved : (a p page : ℕ) (entry : Entry) (allowed : Allowed) (count : ℕ) → CoreEvent
  -- after a count of 1 the prepared frame, of an allowed zone, takes its place; the old reference is owed
  place_frame : (a p page f : ℕ) (entry : Entry) (allowed : Allowed) → CoreEvent
  -- the entry is put back
  restore_entry : (a p page : ℕ) (entry : Entry) (allowed : Allowed) (count : Counted) → CoreEvent
  -- fork of process p into c, of which these pages are done

  begin_fork : (a p c : ℕ) → CoreEvent
  -- the page's count is read: it is to be copied, or else shared
  count_page : (a p c : ℕ) (done : List ℕ) (page : ℕ) (entry : Entry) (copies : Bool) → CoreEvent
  -- a share: the parent's entry becomes read-only, the mark goes, the child gets its entry
  share_entry : (a p c : ℕ) (done : List ℕ) (page f : ℕ) (writable : Bool) → CoreEvent
  share_mark : (a p c : ℕ) (done : List ℕ) (page f : ℕ) (writable : Bool) → CoreEvent
  share_child : (a p c : ℕ) (done : List ℕ) (page f : ℕ) (writable : Bool) → CoreEvent
  -- a copy: word by word into the prepared frame, which then goes into the child's entry
  copy_word : (a p c : ℕ) (done : List ℕ) (page word to : ℕ) (entry : Entry) → CoreEvent
  place_child : (a p c : ℕ) (done : List ℕ) (page to : ℕ) (rights : Rights) → CoreEvent
  -- a page without an entry has nothing to share
  pass_page : (a p c : ℕ) (done : List ℕ) (page : ℕ) → CoreEvent
  end_fork : (a p c : ℕ) (done : List ℕ) → CoreEvent
  -- the fork fails, and ends where the child has no entry
  fail_fork : (a p c : ℕ) (done : List ℕ) (step : ForkStep) (ends : Bool) → CoreEvent
  -- a reference of the failed child is given back, and the fork ends where that was the last
  put_child : (a p c : ℕ) (done : List ℕ) (page : ℕ) (entry : Entry) (ends : Bool) → CoreEvent
  -- a fork by an actor of a failed process
  fail_unborn : (a p c : ℕ) → CoreEvent
  -- mappings

  -- n pages get their rights, untouched
  map_pages : (a p page n : ℕ) (rights : Rights) → CoreEvent
  -- the entry becomes read-only
  lower_entry : (a p page f : ℕ) → CoreEvent
  -- n pages get other rights
  protect_pages : (a p page n : ℕ) (rights : Rights) → CoreEvent
  -- the page loses its entry, if it has one, and its mapping, or its contents
  drop_entry : (a p page : ℕ) (was : Option Entry) → CoreEvent
  discard_entry : (a p page : ℕ) (was : Option Entry) → CoreEvent
  -- page tables

  -- a free table goes to the highest place that the page lacks
  add_table : (a p page table : ℕ) → CoreEvent
  -- the lowest table of the page's path is taken out of the tree: it is empty, and not the root
  take_out : (a p page table : ℕ) → CoreEvent
  -- no walk of the process runs: all tables that it has taken out come free
  reclaim : (a p : ℕ) → CoreEvent
  -- data and mirrors

  -- one word of the entry's frame is read, or written through a writable entry
  load : (a p page word f value : ℕ) → CoreEvent
  store : (a p page word f value : ℕ) → CoreEvent
  -- one word goes from a pinned frame to a slot of the store, or back
  move_out : (a h index slot f value : ℕ) → CoreEvent
  move_in : (a h index slot f value : ℕ) → CoreEvent
  empty_mirror : (a m : ℕ) → CoreEvent
  fill_mirror : (a m p page f : ℕ) (writable : Bool) → CoreEvent
  look : (a m word f value : ℕ) → CoreEvent
  -- the lockless walk of process p, for pages that are written, or kept for long; which sequence it has read

  enter_walk : (a p : ℕ) (write long : Bool) → CoreEvent
  -- the sequence is read: where it is odd, a fork is running, and the walk is over
  read_sequence : (a p : ℕ) (write long : Bool) (sequence : ℕ) → CoreEvent
  -- On a page's path a word is read, of the root at first and then of each table to which the word before leads: it leads to
  -- the next one, or to none and the walk stops.
  read_link : (a p : ℕ) (write long : Bool) (sequence page : ℕ) (path : List ℕ) (next : Option ℕ) → CoreEvent
  -- the entry in the word of the path's last table is read: where it isn't right for the pin, the walk stops
  read_entry : (a p : ℕ) (write long : Bool) (sequence page : ℕ) (path : List ℕ) (was : Option Entry) → CoreEvent
  -- its frame gets the weight of a pin, or the walk stops
  grab_frame : (a p : ℕ) (write long : Bool) (sequence page : ℕ) (path : List ℕ) (entry : Entry) → CoreEvent
  miss_frame : (a p : ℕ) (write long : Bool) (sequence page : ℕ) (path : List ℕ) (entry : Entry) → CoreEvent
  -- the word above is read again: it leads to the path's last table still, or doesn't
  recheck_above : (a p : ℕ) (write long : Bool) (sequence page : ℕ) (path : List ℕ) (entry : Entry) (same : Bool) → CoreEvent
  -- the entry is read again: it is the same, and the page is taken; or it is another
  recheck_same : (a p : ℕ) (write long : Bool) (sequence page : ℕ) (path : List ℕ) (entry : Entry) → CoreEvent
  recheck_other : (a p : ℕ) (write long : Bool) (sequence page : ℕ) (path : List ℕ) (entry : Entry) → CoreEvent
  -- the frame's mark is read: an unmarked frame in a read-only entry is refused
  read_mark : (a p : ℕ) (write long : Bool) (sequence page : ℕ) (entry : Entry) (mark : Bool) → CoreEvent
  -- at the end the sequence is read again: where it has changed, all that was taken is dropped
  read_again : (a p : ℕ) (write long : Bool) (sequence : ℕ) (step : WalkStep) (now : ℕ) → CoreEvent
  -- what a walk has to drop: a frame whose entry was another, the last page taken, the first of all
  drop_grab : (a p : ℕ) (write long : Bool) (sequence f : ℕ) → CoreEvent
  drop_last : (a p : ℕ) (write long : Bool) (sequence : ℕ) (left : List Taken) (last : Taken) → CoreEvent
  drop_first : (a p : ℕ) (write long : Bool) (sequence : ℕ) (first : Taken) (left : List Taken) → CoreEvent
  leave_walk : (a p : ℕ) (write long : Bool) (sequence : ℕ) → CoreEvent

-- the actor may take a frame: between operations, for a move that has read the count 1, for a fork's copy
abbrev pub MayPrepare : Job → Type 0
MayPrepare idle = Unit {0}
MayPrepare (moving p page entry allowed one) = Unit {0}
MayPrepare (forking p child done (copying page zero)) = Unit {0}
MayPrepare _ = ⊥

-- the actor is in the middle of nothing, and keeps no frame
abbrev pub IsIdle : CoreState → ℕ → Type 0
IsIdle s a = (s.job a ≡ idle) × (s.prepared a ≡ None)

-- neither the structure nor the page tables of the process are locked
abbrev pub AreUnlocked : CoreState → ℕ → Type 0
AreUnlocked s p = (s.structure p ≡ None) × (s.table p ≡ None)

-- no mirror of the page is filled
abbrev pub IsUnmirrored : CoreState → ℕ → ℕ → Type 0
IsUnmirrored s p page =
    (m : ℕ) (noted : Noted) → IsSome (s.mirrored m) → s.slot m ≡ Some noted → noted.proc ≡ p → noted.page ≡ page → ⊥

abbrev pub entry_of : ℕ → Bool → Entry
entry_of f writable = record { frame = f; writable = writable }

-- the movable frames have the lower numbers
abbrev pub IsNormal : CoreState → ℕ → Type 0
IsNormal s f = s.movable ≤ f

-- a frame that a move to these zones may take
abbrev pub IsAllowed : CoreState → Allowed → ℕ → Type 0
IsAllowed s Any f = Unit {0}
IsAllowed s (Only Movable) f = f < s.movable
IsAllowed s (Only Normal) f = IsNormal s f

-- an entry and a frame that are right for a pin
abbrev pub AllowsPin : CoreState → Entry → (write long : Bool) → Type 0
AllowsPin s e write long = (s.mark e.frame ≡ true) × (write ≡ true → e.writable ≡ true) × (long ≡ true → IsNormal s e.frame)

-- the pages that a pin has taken are to be written, and kept for long, as this one is
abbrev pub AreAlike : List Taken → (write long : Bool) → Type 0
AreAlike taken write long = All (λ (t : Taken). (t.write ≡ write) × (t.long ≡ long)) taken

-- not the page of one that is taken
abbrev pub IsUntaken : List Taken → (page : ℕ) → Type 0
IsUntaken taken page = All (λ (t : Taken). t.page ≡ page → ⊥) taken

-- what the pages taken are to become of a handle: their frames, objects and flags
abbrev pub taken_frames : List Taken → List ℕ
taken_frames taken = map (λ t. t.frame) taken

abbrev pub objects_taken : List Taken → List ℕ
objects_taken taken = map (λ t. t.object) taken

abbrev pub writes_taken : List Taken → Bool
writes_taken [] = false
writes_taken (t ∷ taken) = t.write

abbrev pub long_taken : List Taken → Bool
long_taken [] = false
long_taken (t ∷ taken) = t.long

-- what a pin weighs in the count of its frame
abbrev pub bias_of : CoreState → ℕ
bias_of s = bias

-- may the frame be pinned, by its count?
abbrev pub maybe_pinned : CoreState → (f : ℕ) → Bool
maybe_pinned s f = nat_le (bias_of s) (s.count f)

-- a page that is to be copied: its frame is exclusive, the process has pinned, and the frame may be pinned
abbrev pub copies_page : CoreState → (p f : ℕ) → Bool
copies_page s p f = s.mark f && (s.has_pinned p && maybe_pinned s f)

abbrev pub is_done : List ℕ → ℕ → Type 0
is_done done page = Contains done page

-- a step in which a fork may find that no frame is left
abbrev pub MayFail : ForkStep → Type 0
MayFail failing = ⊥
MayFail _ = Unit {0}

-- whether a process with these entries has none
abbrev pub AreGone : (ℕ → Option Entry) → (gone : Bool) → Type 0
AreGone entry true = (page : ℕ) → entry page ≡ None
AreGone entry false = (page : ℕ) × IsSome (entry page)

-- what a mover makes of the count that it read
abbrev pub counted_as : ℕ → Counted
counted_as count = if count == 1 then one else more count

-- a device's word: the actor holds the handle, whose pin still has the page of this index, and its store has the slot
abbrev pub CanMove : CoreState → (a h index slot f : ℕ) → Type 0
CanMove s a h index slot f =
    IsHeldBy (s.handle h) a × (slice_get (s.pinned h) (index / words) ≡ Some f) × (slot < most_slots)

abbrev pub is_writable : Rights → Bool
is_writable R = false
is_writable RW = true

-- a fork has begun, and has neither ended nor failed
abbrev pub is_odd : ℕ → Bool
is_odd n = n % 2 == 1

-- is the entry wrong for the walk's pin?
abbrev pub is_wrong : CoreState → (write long : Bool) → Entry → Bool
is_wrong s write long e = (write && not e.writable) || (long && nat_lt e.frame s.movable)

-- where a walk is that has come down a page's path so far
abbrev pub step_at : (page : ℕ) → (path : List ℕ) → WalkStep
step_at page [] = ready
step_at page (table ∷ path) = reading page (table ∷ path)

-- and where a word led it on from there, or nowhere
abbrev pub step_led : (page : ℕ) → (path : List ℕ) → Option ℕ → WalkStep
step_led page path None = stopped
step_led page path (Some table) = reading page (table ∷ path)

-- what a walk makes of the entry that it read
abbrev pub step_read : CoreState → (write long : Bool) → (page : ℕ) → (path : List ℕ) → Option Entry → WalkStep
step_read s write long page path None = stopped
step_read s write long page path (Some e) = if is_wrong s write long e then stopped else read page path e

-- the steps after which a walk reads the sequence again
abbrev pub MayRest : WalkStep → Type 0
MayRest ready = Unit {0}
MayRest stopped = Unit {0}
MayRest step = ⊥

-- where pages are left to drop
abbrev pub step_left : List Taken → WalkStep
step_left [] = over
step_left (t ∷ taken) = dropping

-- the page tables of a process, with the entries that they hold
abbrev pub tree_in : CoreState → (p : ℕ) → TreeValue
tree_in s p = record { entry = s.entry p; place = s.place p; tables = placed_tables (s.place p); room = table_numbers }

-- may the page get an entry? It lacks no table of its path, or needs none.
abbrev pub has_tables : CoreState → (p page : ℕ) → Bool
has_tables s p page = if s.needs_tables then lacks (tree_in s p) page == 0 else true

-- the child of a running fork, also of one that fails
abbrev pub child_of : Job → Option ℕ
child_of (forking p child done step) = Some child
child_of job = None

-- The page tables of a born process change while it is unlocked, those of a fork's child by the forking actor, and those of a
-- failed one, whose last entry ends its fork, until all that can go is gone.
abbrev pub MayShape : CoreState → (a p : ℕ) → Type 0
MayShape s a p = ((s.birth p ≡ born) × AreUnlocked s p) ⊎ (s.birth p ≡ failed) ⊎ (child_of (s.job a) ≡ Some p)

abbrev pub Can : CoreState → CoreEvent → Type 0
-- faults
Can s (take_frame a f) = MayPrepare (s.job a) × (s.prepared a ≡ None) × (f < s.movable + s.normal) × (s.count f ≡ 0)
Can s (fill a p page f) =
    (s.birth p ≡ born) × AreUnlocked s p × (s.job a ≡ idle) × IsSome (s.right p page) × (s.entry p page ≡ None)
    × (s.prepared a ≡ Some f) × (has_tables s p page ≡ true)
Can s (count_one a p page f writable) =
    (s.birth p ≡ born) × AreUnlocked s p × IsIdle s a × (s.entry p page ≡ Some (entry_of f writable))
    × (s.mark f ≡ false) × (s.count f ≡ 1)
Can s (set_mark a p page f) = s.job a ≡ marking p page f
Can s (upgrade a p page f) =
    (s.birth p ≡ born) × AreUnlocked s p × (s.right p page ≡ Some RW) × (s.entry p page ≡ Some (entry_of f false))
    × (s.mark f ≡ true)
Can s (break_entry a p page old new was writable) =
    (s.birth p ≡ born) × AreUnlocked s p × (s.job a ≡ idle) × (s.prepared a ≡ Some new) × (s.owed a ≡ None)
    × (s.entry p page ≡ Some (entry_of old was)) × (s.mark old ≡ false) × (writable ≡ true → s.right p page ≡ Some RW)
    × IsUnmirrored s p page
Can s (put_entry a f) = s.owed a ≡ Some f
-- pins, references and handles
Can s (raise_flag a p) = s.birth p ≡ born
Can s (pin_page a p page e write long) =
    (s.birth p ≡ born) × AreUnlocked s p × IsIdle s a × (s.has_pinned p ≡ true) × (s.entry p page ≡ Some e)
    × AllowsPin s e write long × IsUntaken (s.taken a) page × AreAlike (s.taken a) write long
Can s (make_handle a h) = (s.job a ≡ idle) × (s.handle h ≡ unmade) × (s.taken a ≡ [] → ⊥)
Can s (unpin_page a h f left) = IsHeldBy (s.handle h) a × (s.pinned h ≡ left ++ f ∷ [])
Can s (give_handle a h to) = IsHeldBy (s.handle h) a
Can s (take_handle a h) = IsGivenTo (s.handle h) a
Can s (get_reference a p page f k writable) =
    (s.birth p ≡ born) × AreUnlocked s p × (s.entry p page ≡ Some (entry_of f writable)) × (s.got k ≡ None)
Can s (put_reference a f k) = s.got k ≡ Some (a, f)
-- moves
Can s (clear_entry a p page e allowed) =
    (s.birth p ≡ born) × (s.table p ≡ None) × IsIdle s a × (s.owed a ≡ None) × (s.entry p page ≡ Some e)
    × IsUnmirrored s p page
Can s (count_moved a p page e allowed count) =
    (s.job a ≡ moving p page e allowed unread) × (count ≡ s.count e.frame)
Can s (place_frame a p page f e allowed) =
    (s.job a ≡ moving p page e allowed one) × (s.prepared a ≡ Some f) × (s.owed a ≡ None) × IsAllowed s allowed f
Can s (restore_entry a p page e allowed count) =
    (s.job a ≡ moving p page e allowed count) × (count ≡ unread → ⊥) × (s.prepared a ≡ None)
-- fork
Can s (begin_fork a p c) =
    (s.birth p ≡ born) × (s.birth c ≡ unborn) × AreUnlocked s p × IsIdle s a × (s.owed a ≡ None) × (s.taken a ≡ [])
Can s (count_page a p c done page e copies) =
    (s.job a ≡ forking p c done between) × (s.table p ≡ None) × IsSome (s.right c page) × (is_done done page → ⊥)
    × (s.entry p page ≡ Some e) × (copies ≡ copies_page s p e.frame)
Can s (share_entry a p c done page f writable) =
    (s.job a ≡ forking p c done (counted page)) × (s.entry p page ≡ Some (entry_of f writable)) × IsUnmirrored s p page
Can s (share_mark a p c done page f writable) =
    (s.job a ≡ forking p c done (lowered page)) × (s.entry p page ≡ Some (entry_of f writable))
Can s (share_child a p c done page f writable) =
    (s.job a ≡ forking p c done (cleared page)) × (s.entry p page ≡ Some (entry_of f writable))
    × (has_tables s c page ≡ true)
Can s (copy_word a p c done page word to e) =
    (s.job a ≡ forking p c done (copying page word)) × (word < words) × (s.prepared a ≡ Some to)
    × (s.entry p page ≡ Some e)
Can s (place_child a p c done page to rights) =
    (s.job a ≡ forking p c done (copying page words)) × (s.prepared a ≡ Some to) × (s.right c page ≡ Some rights)
    × (has_tables s c page ≡ true)
Can s (pass_page a p c done page) =
    (s.job a ≡ forking p c done between) × (s.table p ≡ None) × IsSome (s.right c page) × (is_done done page → ⊥)
    × (s.entry p page ≡ None)
Can s (end_fork a p c done) =
    (s.job a ≡ forking p c done between) × ((page : ℕ) → IsSome (s.right c page) → is_done done page)
Can s (fail_fork a p c done step ends) =
    (s.job a ≡ forking p c done step) × MayFail step × (s.prepared a ≡ None) × AreGone (s.entry c) ends
Can s (put_child a p c done page e ends) =
    (s.job a ≡ forking p c done failing) × (s.entry c page ≡ Some e) × AreGone (put page None (s.entry c)) ends
Can s (fail_unborn a p c) = (s.birth p ≡ failed) × (s.birth c ≡ unborn)
-- mappings
Can s (map_pages a p page n rights) =
    (s.birth p ≡ born) × AreUnlocked s p × (page + n ≤ page_numbers) × ((k : ℕ) → k < n → s.right p (page + k) ≡ None)
    × (s.pages p + n ≤ most_pages)
Can s (lower_entry a p page f) =
    (s.birth p ≡ born) × AreUnlocked s p × (s.entry p page ≡ Some (entry_of f true)) × IsUnmirrored s p page
Can s (protect_pages a p page n rights) =
    (s.birth p ≡ born) × AreUnlocked s p × ((k : ℕ) → k < n → IsSome (s.right p (page + k)))
    × ((k : ℕ) (e : Entry) → k < n → s.entry p (page + k) ≡ Some e → e.writable ≡ true → rights ≡ RW)
    × ((k : ℕ) → k < n → IsUnmirrored s p (page + k))
Can s (drop_entry a p page was) =
    (s.birth p ≡ born) × AreUnlocked s p × (s.job a ≡ idle) × IsSome (s.right p page) × (s.entry p page ≡ was)
    × (s.owed a ≡ None) × IsUnmirrored s p page
Can s (discard_entry a p page was) =
    (s.birth p ≡ born) × AreUnlocked s p × (s.job a ≡ idle) × IsSome (s.right p page) × (s.entry p page ≡ was)
    × (s.owed a ≡ None) × IsUnmirrored s p page
-- page tables
Can s (add_table a p page table) =
    MayShape s a p × IsSome (s.right p page) × (page < page_numbers) × (s.free_table table ≡ true)
    × (0 < lacks (tree_in s p) page)
Can s (take_out a p page table) = MayShape s a p × (detachable (tree_in s p) page ≡ Some table)
Can s (reclaim a p) = MayShape s a p × (s.walks p ≡ 0)
-- data and mirrors
Can s (load a p page word f value) =
    (s.birth p ≡ born) × ((writable : Bool) × (s.entry p page ≡ Some (entry_of f writable))) × (word < words)
    × (value ≡ s.word f word)
Can s (store a p page word f value) =
    (s.birth p ≡ born) × (s.entry p page ≡ Some (entry_of f true)) × (word < words)
Can s (move_out a h index slot f value) = CanMove s a h index slot f × (value ≡ s.word f (index % words))
Can s (move_in a h index slot f value) =
    CanMove s a h index slot f × (may_write (s.handle h) ≡ true) × (value ≡ s.store a slot)
Can s (empty_mirror a m) = IsSome (s.mirrored m)
Can s (fill_mirror a m p page f writable) =
    (s.birth p ≡ born) × AreUnlocked s p × (s.entry p page ≡ Some (entry_of f writable))
Can s (look a m word f value) = (s.mirrored m ≡ Some f) × (word < words) × (value ≡ s.word f word)
-- walks
Can s (enter_walk a p write long) =
    (s.birth p ≡ born) × IsIdle s a × (s.taken a ≡ []) × (s.has_pinned p ≡ true)
Can s (read_sequence a p write long sequence) =
    (s.job a ≡ walking p write long 0 entered) × (sequence ≡ s.sequence p)
Can s (read_link a p write long sequence page path next) =
    (s.job a ≡ walking p write long sequence (step_at page path)) × (length path < 3)
    × (next ≡ link_at (tree_in s p) path page) × IsUntaken (s.taken a) page
Can s (read_entry a p write long sequence page path was) =
    (s.job a ≡ walking p write long sequence (step_at page path)) × (length path ≡ 3)
    × (was ≡ entry_at (tree_in s p) path page) × IsUntaken (s.taken a) page
Can s (grab_frame a p write long sequence page path e) =
    (s.job a ≡ walking p write long sequence (read page path e)) × (s.count e.frame ≡ 0 → ⊥)
Can s (miss_frame a p write long sequence page path e) = s.job a ≡ walking p write long sequence (read page path e)
Can s (recheck_above a p write long sequence page path e same) =
    (s.job a ≡ walking p write long sequence (grabbed page path e)) × (same ≡ leads_still (tree_in s p) path page)
Can s (recheck_same a p write long sequence page path e) =
    (s.job a ≡ walking p write long sequence (grabbed page path e)) × (entry_at (tree_in s p) path page ≡ Some e)
Can s (recheck_other a p write long sequence page path e) =
    (s.job a ≡ walking p write long sequence (grabbed page path e)) × (entry_at (tree_in s p) path page ≡ Some e → ⊥)
Can s (read_mark a p write long sequence page e mark) =
    (s.job a ≡ walking p write long sequence (rechecked page e)) × (mark ≡ s.mark e.frame)
Can s (read_again a p write long sequence step now) =
    (s.job a ≡ walking p write long sequence step) × MayRest step × (now ≡ s.sequence p)
Can s (drop_grab a p write long sequence f) = s.job a ≡ walking p write long sequence (differed f)
Can s (drop_last a p write long sequence left last) =
    (s.job a ≡ walking p write long sequence refused) × (s.taken a ≡ left ++ last ∷ [])
Can s (drop_first a p write long sequence first left) =
    (s.job a ≡ walking p write long sequence dropping) × (s.taken a ≡ first ∷ left)
Can s (leave_walk a p write long sequence) = s.job a ≡ walking p write long sequence over

-- a frame loses n references; at 0 it is free, and nothing marks or owns it
abbrev pub without_references : ℕ → ℕ → CoreState → CoreState
without_references f n s =
    record s {
      count = put f (s.count f - n) s.count;
      mark = put f (if s.count f == n then false else s.mark f) s.mark;
      own = put f (if s.count f == n then None else s.own f) s.own;
    }

abbrev pub happens : CoreState → CoreEvent → CoreState
-- faults
happens s (take_frame a f) =
    record s {
      count = put f 1 s.count;
      mark = put f false s.mark;
      own = put f None s.own;
      word = put f (λ _. 0) s.word;
      prepared = put a (Some f) s.prepared;
    }
happens s (fill a p page f) =
    record s {
      entry = put2 p page (Some (entry_of f false)) s.entry;
      mark = put f true s.mark;
      own = put f (Some (s.object p page)) s.own;
      prepared = put a None s.prepared;
    }
happens s (count_one a p page f writable) =
    record s {
      own = put f (Some (s.object p page)) s.own;
      table = put p (Some a) s.table;
      job = put a (marking p page f) s.job;
    }
happens s (set_mark a p page f) =
    record s { mark = put f true s.mark; table = put p None s.table; job = put a idle s.job }
happens s (upgrade a p page f) = record s { entry = put2 p page (Some (entry_of f true)) s.entry }
happens s (break_entry a p page old new was writable) =
    record s {
      entry = put2 p page (Some (entry_of new writable)) s.entry;
      mark = put new true s.mark;
      own = put new (Some (s.object p page)) s.own;
      word = put new (s.word old) s.word;
      prepared = put a None s.prepared;
      owed = put a (Some old) s.owed;
    }
happens s (put_entry a f) = record (without_references f 1 s) { owed = put a None s.owed }
-- pins, references and handles
happens s (raise_flag a p) = record s { has_pinned = put p true s.has_pinned }
happens s (pin_page a p page e write long) =
    record s {
      count = put e.frame (s.count e.frame + bias_of s) s.count;
      taken =
          put a
          (s.taken a ++ record { proc = p; page = page; frame = e.frame; object = s.object p page; write = write; long = long } ∷ [])
          s.taken;
    }
happens s (make_handle a h) =
    record s {
      handle = put h (held a (objects_taken (s.taken a)) (writes_taken (s.taken a))) s.handle;
      pinned = put h (taken_frames (s.taken a)) s.pinned;
      for_long = put h (long_taken (s.taken a)) s.for_long;
      taken = put a [] s.taken;
    }
happens s (unpin_page a h f left) =
    record (without_references f (bias_of s) s) {
      pinned = put h left s.pinned;
      handle = put h (elim left [ [] ↦ gone | g ∷ gs ↦ s.handle h ]) s.handle;
    }
happens s (give_handle a h to) = record s { handle = put h (given_to (s.handle h) to) s.handle }
happens s (take_handle a h) = record s { handle = put h (held_by (s.handle h) a) s.handle }
happens s (get_reference a p page f k writable) =
    record s { count = put f (s.count f + 1) s.count; got = put k (Some (a, f)) s.got }
happens s (put_reference a f k) = record (without_references f 1 s) { got = put k None s.got }
-- moves
happens s (clear_entry a p page e allowed) =
    record s {
      entry = put2 p page None s.entry;
      table = put p (Some a) s.table;
      job = put a (moving p page e allowed unread) s.job;
    }
happens s (count_moved a p page e allowed count) =
    record s { job = put a (moving p page e allowed (counted_as count)) s.job }
happens s (place_frame a p page f e allowed) =
    record s {
      entry = put2 p page (Some (entry_of f e.writable)) s.entry;
      mark = put f (s.mark e.frame) s.mark;
      own = put f (s.own e.frame) (put e.frame None s.own);
      word = put f (s.word e.frame) s.word;
      table = put p None s.table;
      job = put a idle s.job;
      prepared = put a None s.prepared;
      owed = put a (Some e.frame) s.owed;
    }
happens s (restore_entry a p page e allowed count) =
    record s { entry = put2 p page (Some e) s.entry; table = put p None s.table; job = put a idle s.job }
-- fork
happens s (begin_fork a p c) =
    record s {
      content = spread s.made page_numbers (λ _ _. 0) s.content;
      made = s.made + page_numbers;
      birth = put c (growing p) s.birth;
      right = put c (s.right p) s.right;
      object = put c (λ page. named_or_zero (s.right p page) (s.made + page)) s.object;
      pages = put c (mapped_pages (s.right p)) s.pages;
      copied = put c (λ _ _. false) s.copied;
      sequence = put p (s.sequence p + 1) s.sequence;
      structure = put p (Some a) s.structure;
      job = put a (forking p c [] between) s.job;
    }
happens s (count_page a p c done page e copies) =
    record s {
      table = put p (Some a) s.table;
      job = put a (forking p c done (if copies then copying page 0 else counted page)) s.job;
    }
happens s (share_entry a p c done page f writable) =
    record s {
      entry = put2 p page (Some (entry_of f false)) s.entry;
      job = put a (forking p c done (lowered page)) s.job;
    }
happens s (share_mark a p c done page f writable) =
    record s {
      mark = put f false s.mark;
      own = put f None s.own;
      job = put a (forking p c done (cleared page)) s.job;
    }
happens s (share_child a p c done page f writable) =
    let to = s.object c page in
    record s {
      count = put f (s.count f + 1) s.count;
      entry = put2 c page (Some (entry_of f false)) s.entry;
      content = put to (spread 0 words (s.content (s.object p page)) (s.content to)) s.content;
      copied = put2 c page (spread 0 words (λ _. true) (s.copied c page)) s.copied;
      table = put p None s.table;
      job = put a (forking p c (page ∷ done) between) s.job;
    }
happens s (copy_word a p c done page word to e) =
    record s {
      word = put2 to word (s.word e.frame word) s.word;
      content = put2 (s.object c page) word (s.content (s.object p page) word) s.content;
      copied = put2 c page (put word true (s.copied c page)) s.copied;
      job = put a (forking p c done (copying page (word + 1))) s.job;
    }
happens s (place_child a p c done page to rights) =
    record s {
      entry = put2 c page (Some (entry_of to (is_writable rights))) s.entry;
      mark = put to true s.mark;
      own = put to (Some (s.object c page)) s.own;
      prepared = put a None s.prepared;
      table = put p None s.table;
      job = put a (forking p c (page ∷ done) between) s.job;
    }
happens s (pass_page a p c done page) =
    let to = s.object c page in
    record s {
      content = put to (spread 0 words (s.content (s.object p page)) (s.content to)) s.content;
      copied = put2 c page (spread 0 words (λ _. true) (s.copied c page)) s.copied;
      job = put a (forking p c (page ∷ done) between) s.job;
    }
happens s (end_fork a p c done) =
    record s {
      birth = put c born s.birth;
      copied = put c (λ _ _. false) s.copied;
      sequence = put p (s.sequence p + 1) s.sequence;
      structure = put p None s.structure;
      job = put a idle s.job;
    }
-- the child's mappings go at once; its entries, with the ghost of what they named, are given back one by one
happens s (fail_fork a p c done step ends) =
    record s {
      birth = put c failed s.birth;
      right = put c (λ _. None) s.right;
      pages = put c 0 s.pages;
      copied = put c (λ _ _. false) s.copied;
      sequence = put p (s.sequence p + 1) s.sequence;
      table = put p (elim step [ between ↦ s.table p | counted page ↦ None | lowered page ↦ None | cleared page ↦ None | copying page word ↦ None | failing ↦ None ]) s.table;
      structure = if ends then put p None s.structure else s.structure;
      job = put a (if ends then idle else forking p c done failing) s.job;
    }
happens s (put_child a p c done page e ends) =
    record (without_references e.frame 1 s) {
      entry = put2 c page None s.entry;
      structure = if ends then put p None s.structure else s.structure;
      job = if ends then put a idle s.job else s.job;
    }
happens s (fail_unborn a p c) =
    record s {
      birth = put c failed s.birth;
      right = put c (λ _. None) s.right;
      pages = put c 0 s.pages;
      copied = put c (λ _ _. false) s.copied;
    }
-- mappings
happens s (map_pages a p page n rights) =
    record s {
      content = spread s.made n (λ _ _. 0) s.content;
      made = s.made + n;
      right = put p (spread page n (λ _. Some rights) (s.right p)) s.right;
      object = put p (spread page n (λ g. s.made + (g - page)) (s.object p)) s.object;
      pages = put p (s.pages p + n) s.pages;
    }
happens s (lower_entry a p page f) = record s { entry = put2 p page (Some (entry_of f false)) s.entry }
happens s (protect_pages a p page n rights) =
    record s { right = put p (spread page n (λ _. Some rights) (s.right p)) s.right }
happens s (drop_entry a p page was) =
    record s {
      entry = put2 p page None s.entry;
      right = put2 p page None s.right;
      pages = put p (s.pages p - 1) s.pages;
      owed = put a (option_map (λ (e : Entry). e.frame) was) s.owed;
    }
happens s (discard_entry a p page was) =
    record s {
      entry = put2 p page None s.entry;
      content = put s.made (λ _. 0) s.content;
      made = s.made + 1;
      object = put2 p page s.made s.object;
      owed = put a (option_map (λ (e : Entry). e.frame) was) s.owed;
    }
-- page tables
happens s (add_table a p page table) =
    record s {
      place = put2 p table (Some (on_path (lacks (tree_in s p) page) page)) s.place;
      free_table = put table false s.free_table;
    }
happens s (take_out a p page table) =
    record s { place = put2 p table None s.place; retired = put p (s.retired p ++ table ∷ []) s.retired }
happens s (reclaim a p) =
    record s {
      free_table = λ table. s.free_table table || is_among (s.retired p) table;
      retired = put p [] s.retired;
    }
-- data and mirrors
happens s (load a p page word f value) = s
happens s (store a p page word f value) =
    record s {
      word = put2 f word value s.word;
      content = put2 (s.object p page) word value s.content;
    }
happens s (move_out a h index slot f value) = record s { store = put2 a slot value s.store }
happens s (move_in a h index slot f value) =
    record s {
      word = put2 f (index % words) value s.word;
      content = put2 (object_at (s.handle h) index) (index % words) value s.content;
    }
happens s (empty_mirror a m) = record s { mirrored = put m None s.mirrored }
happens s (fill_mirror a m p page f writable) =
    record s {
      mirrored = put m (Some f) s.mirrored;
      slot = put m (Some (record { proc = p; page = page; object = s.object p page })) s.slot;
    }
happens s (look a m word f value) = s
-- walks
happens s (enter_walk a p write long) =
    record s { walks = put p (s.walks p + 1) s.walks; job = put a (walking p write long 0 entered) s.job }
happens s (read_sequence a p write long sequence) =
    record s { job = put a (walking p write long sequence (if is_odd sequence then over else ready)) s.job }
happens s (read_link a p write long sequence page path next) =
    record s { job = put a (walking p write long sequence (step_led page path next)) s.job }
happens s (read_entry a p write long sequence page path was) =
    record s { job = put a (walking p write long sequence (step_read s write long page path was)) s.job }
happens s (grab_frame a p write long sequence page path e) =
    record s {
      count = put e.frame (s.count e.frame + bias_of s) s.count;
      job = put a (walking p write long sequence (grabbed page path e)) s.job;
    }
happens s (miss_frame a p write long sequence page path e) =
    record s { job = put a (walking p write long sequence stopped) s.job }
happens s (recheck_above a p write long sequence page path e same) =
    record s { job = put a (walking p write long sequence (if same then grabbed page path e else differed e.frame)) s.job }
happens s (recheck_same a p write long sequence page path e) =
    record s {
      taken =
          put a
          (s.taken a ++ record { proc = p; page = page; frame = e.frame; object = s.object p page; write = write; long = long } ∷ [])
          s.taken;
      job = put a (walking p write long sequence (rechecked page e)) s.job;
    }
happens s (recheck_other a p write long sequence page path e) =
    record s { job = put a (walking p write long sequence (differed e.frame)) s.job }
happens s (read_mark a p write long sequence page e mark) =
    record s { job = put a (walking p write long sequence (if e.writable || mark then ready else refused)) s.job }
happens s (read_again a p write long sequence step now) =
    record s {
      job = put a (walking p write long sequence (if now == sequence then over else step_left (s.taken a))) s.job;
    }
happens s (drop_grab a p write long sequence f) =
    record (without_references f (bias_of s) s) { job = put a (walking p write long sequence stopped) s.job }
happens s (drop_last a p write long sequence left last) =
    record (without_references last.frame (bias_of s) s) {
      taken = put a left s.taken;
      job = put a (walking p write long sequence stopped) s.job;
    }
happens s (drop_first a p write long sequence first left) =
    record (without_references first.frame (bias_of s) s) {
      taken = put a left s.taken;
      job = put a (walking p write long sequence (step_left left)) s.job;
    }
happens s (leave_walk a p write long sequence) =
    record s { walks = put p (s.walks p - 1) s.walks; job = put a idle s.job }

-- the plain event that stands at a core event, if one does
abbrev pub told : CoreEvent → Option PlainEvent
told (pin_page a p page e write long) = Some (events.PinTry a p page write)
told (make_handle a h) = Some (events.PinOk a h)
told (unpin_page a h f []) = Some (events.Unpin a h)
told (give_handle a h to) = Some (events.Give a h to)
told (take_handle a h) = Some (events.Take a h)
told (begin_fork a p c) = Some (events.ForkBegin p c)
told (share_child a p c done page f writable) = Some (events.ForkPage p c page)
told (copy_word a p c done page word to e) = Some (events.ForkWord p c page word)
told (pass_page a p c done page) = Some (events.ForkPage p c page)
told (end_fork a p c done) = Some (events.ForkEnd p c)
told (fail_fork a p c done step ends) = Some (events.ForkFail c)
told (fail_unborn a p c) = Some (events.ForkFail c)
told (map_pages a p page n rights) = Some (events.Map a p page n rights)
told (protect_pages a p page n rights) = Some (events.Protect a p page n rights)
told (drop_entry a p page was) = Some (events.Unmap a p page)
told (discard_entry a p page was) = Some (events.Discard a p page)
told (load a p page word f value) = Some (events.Load a p page word value)
told (store a p page word f value) = Some (events.Store a p page word value)
told (move_out a h index slot f value) = Some (events.MoveOut a h index slot value)
told (move_in a h index slot f value) = Some (events.MoveIn a h index slot value)
told (fill_mirror a m p page f writable) = Some (events.MirrorFill a m p page)
told (look a m word f value) = Some (events.Look a m word value)
told (recheck_same a p write long sequence page path e) = Some (events.PinTry a p page write)
told (drop_last a p write long sequence left last) = Some (events.PinDrop a last.page)
told (drop_first a p write long sequence first left) = Some (events.PinDrop a first.page)
told e = None

-- the plain state after the plain event that stands at a core event, if one does
abbrev pub after_told : PlainState → Option PlainEvent → PlainState
after_told s None = s
after_told s (Some e) = happened s e

abbrev pub run : CoreState → List CoreEvent → CoreState
run s [] = s
run s (e ∷ es) = run (happens s e) es
