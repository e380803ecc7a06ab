-- The inductive invariant of the core machine.
use Rattle.std.specs.Prelude.{◌≡◌, ℕ, ◌+◌, ◌<◌, ◌≤◌, nat_lt, Bool, true, false, not, if◌then◌else◌, ◌==◌, length, slice_get, Contains, sum_by, List, Option, Some, None, IsSome}
use Rattle.gup_base.specs.declared.entry.Entry.{Entry}
use Rattle.gup_base.specs.declared.entry.Rights.{Rights}
use Rattle.gup_base.specs.declared.entry.Rights.TheVariants.{R}
use Rattle.gup_plain.specs.Event.{page_numbers, words}
use Rattle.gup_plain.specs.State.{Birth, growing, born, unborn, failed, Noted, objects_of}
use Rattle.gup_spec_events.specs.State.{CoreState, Taken, Job, idle, marking, moving, forking, walking, Counted, one, ForkStep, between, counted, lowered, cleared, copying, failing, WalkStep, entered, read, grabbed, rechecked, refused, plain_of}
use Rattle.gup_spec_events.specs.Event.{CoreEvent, happens, told, after_told, writes_taken, long_taken, is_odd}
use Rattle.gup_spec_events.specs.Invariant.{Holder, entry_of_page, cleared_by, prepared_by, owed_by, got_as, page_of_pin, page_taken, grabbed_by, frame_of, got_frame, taken_frame, step_frame, is_over, is_inside, weight, HasNoRepetition, CanTell}

-- 1. What a state is seen as: jobs by their kinds, entries with those that a mover has cleared, and what pages name.

pub record Marking : Type 0 where
  pub proc : ℕ
  pub page : ℕ
  pub frame : ℕ

pub record Moving : Type 0 where
  pub proc : ℕ
  pub page : ℕ
  pub entry : Entry
  pub count : Counted

pub record Forking : Type 0 where
  pub proc : ℕ
  pub child : ℕ
  pub done : List ℕ
  pub step : ForkStep

pub record Walking : Type 0 where
  pub proc : ℕ
  pub write : Bool
  pub long : Bool
  pub sequence : ℕ
  pub step : WalkStep

pub record View : Type 0 where
  -- the entry of a page, or the one that a mover has cleared
  pub whole : ℕ → ℕ → Option Entry
  -- the object that a page names, where it is mapped or has an entry
  pub names : ℕ → ℕ → Option ℕ
  -- what each actor is about to mark, has cleared, or forks, and its walk
  pub marks : ℕ → Option Marking
  pub moves : ℕ → Option Moving
  pub forks : ℕ → Option Forking
  pub walks : ℕ → Option Walking
  -- the count of each frame, in two parts: the grabs of walks, and all else
  pub references : ℕ → ℕ
  pub grabs : ℕ → ℕ

abbrev pub marking_of : Job → Option Marking
marking_of (marking p page f) = Some (record { proc = p; page = page; frame = f })
marking_of job = None

abbrev pub moving_of : Job → Option Moving
moving_of (moving p page e allowed count) = Some (record { proc = p; page = page; entry = e; count = count })
moving_of job = None

abbrev pub forking_of : Job → Option Forking
forking_of (forking p c done step) = Some (record { proc = p; child = c; done = done; step = step })
forking_of job = None

abbrev pub walking_of : Job → Option Walking
walking_of (walking p write long sequence step) =
    Some (record { proc = p; write = write; long = long; sequence = sequence; step = step })
walking_of job = None

-- 2. Readings of the views

abbrev pub marked_frame : Option Marking → Option ℕ
marked_frame None = None
marked_frame (Some m) = Some m.frame

abbrev pub moved_frame : Option Moving → Option ℕ
moved_frame None = None
moved_frame (Some m) = Some m.entry.frame

abbrev pub fork_child : Option Forking → Option ℕ
fork_child None = None
fork_child (Some k) = Some k.child

-- the page that a fork is in the middle of; of which it is sharing; whose entry it has made read-only by now
abbrev pub step_page : ForkStep → Option ℕ
step_page between = None
step_page (counted page) = Some page
step_page (lowered page) = Some page
step_page (cleared page) = Some page
step_page (copying page n) = Some page
step_page failing = None

abbrev pub shared_page : ForkStep → Option ℕ
shared_page (counted page) = Some page
shared_page (lowered page) = Some page
shared_page (cleared page) = Some page
shared_page step = None

abbrev pub lowered_page : ForkStep → Option ℕ
lowered_page (lowered page) = Some page
lowered_page (cleared page) = Some page
lowered_page step = None

abbrev pub is_failing : ForkStep → Bool
is_failing failing = true
is_failing step = false

-- how many words of the page the fork has copied
abbrev pub copied_words : ForkStep → (page : ℕ) → ℕ
copied_words (copying g n) page = if g == page then n else 0
copied_words step page = 0

-- how many words of the prepared frame are not zero any more
abbrev pub step_words : ForkStep → ℕ
step_words (copying g n) = n
step_words step = 0

abbrev pub words_written : Option Forking → ℕ
words_written None = 0
words_written (Some k) = step_words k.step

-- what the child of a fork is
abbrev pub birth_of_child : Forking → Birth
birth_of_child k = if is_failing k.step then failed else growing k.proc

-- the process whose table lock, or structure lock, an actor keeps
abbrev pub keeps_table : Job → Option ℕ
keeps_table idle = None
keeps_table (marking p page f) = Some p
keeps_table (moving p page e allowed count) = Some p
keeps_table (forking p c done between) = None
keeps_table (forking p c done (counted page)) = Some p
keeps_table (forking p c done (lowered page)) = Some p
keeps_table (forking p c done (cleared page)) = Some p
keeps_table (forking p c done (copying page n)) = Some p
keeps_table (forking p c done failing) = None
keeps_table (walking p write long sequence step) = None

abbrev pub keeps_structure : Job → Option ℕ
keeps_structure (forking p c done step) = Some p
keeps_structure job = None

-- the frame that a walk has grabbed
abbrev pub walk_frame : Option Walking → Option ℕ
walk_frame None = None
walk_frame (Some w) = step_frame w.step

-- the process that it walks
abbrev pub walk_process : Option Walking → Option ℕ
walk_process None = None
walk_process (Some w) = Some w.proc

-- may the walk have to drop what it has taken?
abbrev pub is_open : Option Walking → Bool
is_open None = false
is_open (Some w) = not (is_over w.step)

-- the page and the entry that a walk is trying
abbrev pub tried_page : WalkStep → Option ℕ
tried_page (read page path e) = Some page
tried_page (grabbed page path e) = Some page
tried_page step = None

abbrev pub tried_entry : WalkStep → Option Entry
tried_entry (read page path e) = Some e
tried_entry (grabbed page path e) = Some e
tried_entry step = None

-- the entry of the page taken last, whose mark a walk has yet to read
abbrev pub rechecked_entry : WalkStep → Option Entry
rechecked_entry (rechecked page e) = Some e
rechecked_entry step = None

-- how many of the pages taken, the last of them, a walk doesn't keep as yet
abbrev pub unkept : WalkStep → ℕ
unkept (rechecked page e) = 1
unkept refused = 1
unkept step = 0

-- no fork into the process is copying the page
abbrev pub IsUncopiedBy : (ℕ → Option Forking) → (c page : ℕ) → Type 0
IsUncopiedBy forks c page = (a word : ℕ) (k : Forking) → forks a ≡ Some k → k.child ≡ c → k.step ≡ copying page word → ⊥

-- 3. References

unfoldable pub held : (entry : ℕ → ℕ → Option Entry) (moves : ℕ → Option Moving) (prepared owed : ℕ → Option ℕ) (got : ℕ → Option (ℕ × ℕ)) (pinned : ℕ → List ℕ) (taken : ℕ → List Taken) → Holder → Option ℕ
held entry moves prepared owed got pinned taken (entry_of_page p page) = frame_of (entry p page)
held entry moves prepared owed got pinned taken (cleared_by a) = moved_frame (moves a)
held entry moves prepared owed got pinned taken (prepared_by a) = prepared a
held entry moves prepared owed got pinned taken (owed_by a) = owed a
held entry moves prepared owed got pinned taken (got_as k) = got_frame (got k)
held entry moves prepared owed got pinned taken (page_of_pin h k) = slice_get (pinned h) k
held entry moves prepared owed got pinned taken (page_taken a k) = taken_frame (slice_get (taken a) k)
held entry moves prepared owed got pinned taken (grabbed_by a) = None

-- the frame that a walk has grabbed
unfoldable pub held_by_walk : (walks : ℕ → Option Walking) → Holder → Option ℕ
held_by_walk walks (grabbed_by a) = walk_frame (walks a)
held_by_walk walks other = None

-- the holders of each frame are a list without repetition, and their weights add up to its count
abbrev pub Tally : (count : ℕ → ℕ) (holds : Holder → Option ℕ) → Type 0
Tally count holds =
    (f : ℕ) → (holders : List Holder)
    × HasNoRepetition holders
    × ((x : Holder) → (holds x ≡ Some f → Contains holders x) × (Contains holders x → holds x ≡ Some f))
    × (sum_by weight holders ≡ count f)

-- the actors in a walk of the process are n, a list without repetition
abbrev pub AreWalkers : (walks : ℕ → Option Walking) (p n : ℕ) → Type 0
AreWalkers walks p n =
    (walkers : List ℕ)
    × HasNoRepetition walkers
    × ((a : ℕ) → (walk_process (walks a) ≡ Some p → Contains walkers a) × (Contains walkers a → walk_process (walks a) ≡ Some p))
    × (length walkers ≡ n)

-- 4. The clauses. The exclusive object of a frame, `own`, carries them: each pinned page is compared with it alone, and
-- no two pins with one another.

pub record IsSoundBy (v : View) (s : CoreState) : Type 0 where
  pub references : Tally v.references (held s.entry v.moves s.prepared s.owed s.got s.pinned s.taken)
  pub grabs : Tally v.grabs (held_by_walk v.walks)
  pub count_is : (f : ℕ) → s.count f ≡ v.references f + v.grabs f
  -- the views

  pub marks_are : (a : ℕ) → v.marks a ≡ marking_of (s.job a)
  pub moves_are : (a : ℕ) → v.moves a ≡ moving_of (s.job a)
  pub forks_are : (a : ℕ) → v.forks a ≡ forking_of (s.job a)
  pub walks_are : (a : ℕ) → v.walks a ≡ walking_of (s.job a)
  pub whole_entry : (p g : ℕ) (e : Entry) → s.entry p g ≡ Some e → v.whole p g ≡ Some e
  pub whole_moved : (a : ℕ) (m : Moving) → v.moves a ≡ Some m → v.whole m.proc m.page ≡ Some m.entry
  pub whole_free : (p g : ℕ) (e : Entry) → v.whole p g ≡ Some e → s.table p ≡ None → s.entry p g ≡ Some e
  pub whole_kept : (p g a : ℕ) (e : Entry) → v.whole p g ≡ Some e → s.table p ≡ Some a → v.moves a ≡ None → s.entry p g ≡ Some e
  pub whole_other : (p g a : ℕ) (e : Entry) (m : Moving) → v.whole p g ≡ Some e → s.table p ≡ Some a → v.moves a ≡ Some m → (m.page ≡ g → ⊥) → s.entry p g ≡ Some e
  pub moved_gone : (a : ℕ) (m : Moving) → v.moves a ≡ Some m → s.entry m.proc m.page ≡ None
  pub right_names : (p g : ℕ) (r : Rights) → s.right p g ≡ Some r → v.names p g ≡ Some (s.object p g)
  pub whole_names : (p g : ℕ) (e : Entry) → v.whole p g ≡ Some e → v.names p g ≡ Some (s.object p g)
  pub names_object : (p g o : ℕ) → v.names p g ≡ Some o → s.object p g ≡ o
  -- locks

  pub marks_table : (a : ℕ) (m : Marking) → v.marks a ≡ Some m → s.table m.proc ≡ Some a
  pub moves_table : (a : ℕ) (m : Moving) → v.moves a ≡ Some m → s.table m.proc ≡ Some a
  pub forks_table : (a g : ℕ) (k : Forking) → v.forks a ≡ Some k → step_page k.step ≡ Some g → s.table k.proc ≡ Some a
  pub forks_structure : (a : ℕ) (k : Forking) → v.forks a ≡ Some k → s.structure k.proc ≡ Some a
  pub table_held : (p a : ℕ) → s.table p ≡ Some a → keeps_table (s.job a) ≡ Some p
  pub structure_held : (p a : ℕ) → s.structure p ≡ Some a → keeps_structure (s.job a) ≡ Some p
  pub table_born : (p a : ℕ) → s.table p ≡ Some a → s.birth p ≡ born
  -- processes

  pub fork_parent : (a : ℕ) (k : Forking) → v.forks a ≡ Some k → s.birth k.proc ≡ born
  pub fork_birth : (a : ℕ) (k : Forking) → v.forks a ≡ Some k → s.birth k.child ≡ birth_of_child k
  -- no two forks bring one child
  pub fork_alone : (a b : ℕ) (k l : Forking) → v.forks a ≡ Some k → v.forks b ≡ Some l → k.child ≡ l.child → a ≡ b
  pub growing_locked : (c p : ℕ) → s.birth c ≡ growing p → s.structure p ≡ None → ⊥
  pub growing_forked : (c p a : ℕ) → s.birth c ≡ growing p → s.structure p ≡ Some a → fork_child (v.forks a) ≡ Some c
  pub growing_rights : (c p g : ℕ) → s.birth c ≡ growing p → s.right c g ≡ s.right p g
  pub unborn_unmapped : (p g : ℕ) → s.birth p ≡ unborn → s.right p g ≡ None
  pub failed_unmapped : (p g : ℕ) → s.birth p ≡ failed → s.right p g ≡ None
  pub flag_born : (p : ℕ) → s.has_pinned p ≡ true → s.birth p ≡ born
  -- the sequence is odd while a fork of the process runs that hasn't failed
  pub fork_odd : (a : ℕ) (k : Forking) → v.forks a ≡ Some k → is_odd (s.sequence k.proc) ≡ not (is_failing k.step)
  pub quiet_even : (p : ℕ) → s.structure p ≡ None → is_odd (s.sequence p) ≡ false
  -- exclusive frames

  pub own_alone : (f g o : ℕ) → s.own f ≡ Some o → s.own g ≡ Some o → f ≡ g
  pub own_made : (f o : ℕ) → s.own f ≡ Some o → o < s.made
  pub own_names : (p g o : ℕ) (e : Entry) → v.whole p g ≡ Some e → s.own e.frame ≡ Some o → v.names p g ≡ Some o
  pub own_entry : (f p g o : ℕ) → s.own f ≡ Some o → v.names p g ≡ Some o → frame_of (v.whole p g) ≡ Some f
  pub own_words : (f o w : ℕ) → s.own f ≡ Some o → w < words → s.word f w ≡ s.content o w
  -- an exclusive frame in an entry is marked, but while its marking is under way
  pub own_marked : (p g o : ℕ) (e : Entry) → v.whole p g ≡ Some e → s.own e.frame ≡ Some o → s.table p ≡ None → s.mark e.frame ≡ true
  pub own_marking : (p g o a : ℕ) (e : Entry) → v.whole p g ≡ Some e → s.own e.frame ≡ Some o → s.table p ≡ Some a → s.mark e.frame ≡ false → marked_frame (v.marks a) ≡ Some e.frame
  pub marked_own : (p g : ℕ) (e : Entry) → v.whole p g ≡ Some e → s.mark e.frame ≡ true → s.own e.frame ≡ v.names p g
  -- pages

  pub entry_mapped : (p g : ℕ) (e : Entry) → v.whole p g ≡ Some e → s.right p g ≡ None → s.birth p ≡ failed
  pub entry_marked : (p g : ℕ) (e : Entry) → v.whole p g ≡ Some e → e.writable ≡ true → s.mark e.frame ≡ true
  pub entry_allowed : (p g : ℕ) (e : Entry) → v.whole p g ≡ Some e → e.writable ≡ true → s.right p g ≡ Some R → ⊥
  pub entry_words : (p g w : ℕ) (e : Entry) (r : Rights) → v.whole p g ≡ Some e → s.right p g ≡ Some r → w < words → s.word e.frame w ≡ s.content (s.object p g) w
  pub untouched : (p g w : ℕ) (r : Rights) → s.right p g ≡ Some r → v.whole p g ≡ None → IsUncopiedBy v.forks p g → w < words → s.content (s.object p g) w ≡ 0
  pub names_alone : (p g q h o : ℕ) → v.names p g ≡ Some o → v.names q h ≡ Some o → (p ≡ q) × (g ≡ h)
  pub names_made : (p g o : ℕ) → v.names p g ≡ Some o → o < s.made
  pub right_numbered : (p g : ℕ) (r : Rights) → s.right p g ≡ Some r → g < page_numbers
  -- pins: the pages of handles, and those that a pin has taken

  pub handle_pages : (h : ℕ) → length (s.pinned h) ≤ length (objects_of (s.handle h))
  pub handle_marked : (h k f : ℕ) → slice_get (s.pinned h) k ≡ Some f → s.mark f ≡ true
  pub handle_own : (h k f : ℕ) → slice_get (s.pinned h) k ≡ Some f → s.own f ≡ slice_get (objects_of (s.handle h)) k
  pub handle_flag : (h k f o p g : ℕ) → slice_get (s.pinned h) k ≡ Some f → s.own f ≡ Some o → v.names p g ≡ Some o → s.has_pinned p ≡ true
  pub handle_normal : (h k f : ℕ) → slice_get (s.pinned h) k ≡ Some f → s.for_long h ≡ true → s.movable ≤ f
  pub taken_marked : (a k : ℕ) (t : Taken) → slice_get (s.taken a) k ≡ Some t → is_open (v.walks a) ≡ false → s.mark t.frame ≡ true
  pub taken_own : (a k : ℕ) (t : Taken) → slice_get (s.taken a) k ≡ Some t → is_open (v.walks a) ≡ false → s.own t.frame ≡ Some t.object
  pub taken_made : (a k : ℕ) (t : Taken) → slice_get (s.taken a) k ≡ Some t → t.object < s.made
  pub taken_flag : (a k : ℕ) (t : Taken) → slice_get (s.taken a) k ≡ Some t → s.has_pinned t.proc ≡ true
  pub taken_names : (a k p g : ℕ) (t : Taken) → slice_get (s.taken a) k ≡ Some t → v.names p g ≡ Some t.object → (p ≡ t.proc) × (g ≡ t.page)
  pub taken_normal : (a k : ℕ) (t : Taken) → slice_get (s.taken a) k ≡ Some t → t.long ≡ true → s.movable ≤ t.frame
  pub taken_write : (a k : ℕ) (t : Taken) → slice_get (s.taken a) k ≡ Some t → t.write ≡ writes_taken (s.taken a)
  pub taken_long : (a k : ℕ) (t : Taken) → slice_get (s.taken a) k ≡ Some t → t.long ≡ long_taken (s.taken a)
  pub taken_apart : (a j k : ℕ) (t u : Taken) → slice_get (s.taken a) j ≡ Some t → slice_get (s.taken a) k ≡ Some u → t.page ≡ u.page → j ≡ k
  -- walks

  pub walks_number : (p : ℕ) → AreWalkers v.walks p (s.walks p)
  pub walk_flag : (a : ℕ) (w : Walking) → v.walks a ≡ Some w → s.has_pinned w.proc ≡ true
  pub walk_empty : (a k : ℕ) (w : Walking) (t : Taken) → v.walks a ≡ Some w → w.step ≡ entered → slice_get (s.taken a) k ≡ Some t → ⊥
  pub walk_even : (a : ℕ) (w : Walking) → v.walks a ≡ Some w → is_inside w.step ≡ true → is_odd w.sequence ≡ false
  pub walk_below : (a : ℕ) (w : Walking) → v.walks a ≡ Some w → is_inside w.step ≡ true → w.sequence ≤ s.sequence w.proc
  pub walk_proc : (a k : ℕ) (w : Walking) (t : Taken) → v.walks a ≡ Some w → slice_get (s.taken a) k ≡ Some t → t.proc ≡ w.proc
  pub walk_write : (a k : ℕ) (w : Walking) (t : Taken) → v.walks a ≡ Some w → slice_get (s.taken a) k ≡ Some t → t.write ≡ w.write
  pub walk_long : (a k : ℕ) (w : Walking) (t : Taken) → v.walks a ≡ Some w → slice_get (s.taken a) k ≡ Some t → t.long ≡ w.long
  -- the page that it tries is none that it has taken, and the entry is right for the pin
  pub walk_untaken : (a k g : ℕ) (w : Walking) (t : Taken) → v.walks a ≡ Some w → tried_page w.step ≡ Some g → slice_get (s.taken a) k ≡ Some t → t.page ≡ g → ⊥
  pub walk_writes : (a : ℕ) (w : Walking) (e : Entry) → v.walks a ≡ Some w → tried_entry w.step ≡ Some e → w.write ≡ true → e.writable ≡ true
  pub walk_normal : (a : ℕ) (w : Walking) (e : Entry) → v.walks a ≡ Some w → tried_entry w.step ≡ Some e → w.long ≡ true → s.movable ≤ e.frame
  -- The walk is undisturbed: a frame taken is exclusively the object's, or else unmarked; what it keeps is marked.
  pub walk_own : (a k o : ℕ) (w : Walking) (t : Taken) → v.walks a ≡ Some w → is_inside w.step ≡ true → w.sequence ≡ s.sequence w.proc → slice_get (s.taken a) k ≡ Some t → s.own t.frame ≡ Some o → o ≡ t.object
  pub walk_unowned : (a k : ℕ) (w : Walking) (t : Taken) → v.walks a ≡ Some w → is_inside w.step ≡ true → w.sequence ≡ s.sequence w.proc → slice_get (s.taken a) k ≡ Some t → s.own t.frame ≡ None → s.mark t.frame ≡ false
  pub walk_kept : (a k : ℕ) (w : Walking) (t : Taken) → v.walks a ≡ Some w → is_inside w.step ≡ true → w.sequence ≡ s.sequence w.proc → slice_get (s.taken a) k ≡ Some t → k + unkept w.step < length (s.taken a) → s.mark t.frame ≡ true
  -- the page taken last has the entry that was rechecked; one that was writable is marked
  pub walk_last : (a k : ℕ) (w : Walking) (t : Taken) (e : Entry) → v.walks a ≡ Some w → rechecked_entry w.step ≡ Some e → slice_get (s.taken a) k ≡ Some t → k + 1 ≡ length (s.taken a) → t.frame ≡ e.frame
  pub walk_writable : (a k : ℕ) (w : Walking) (t : Taken) (e : Entry) → v.walks a ≡ Some w → rechecked_entry w.step ≡ Some e → e.writable ≡ true → w.sequence ≡ s.sequence w.proc → slice_get (s.taken a) k ≡ Some t → k + 1 ≡ length (s.taken a) → s.mark t.frame ≡ true
  -- what actors are in the middle of

  pub prepared_once : (a f : ℕ) → s.prepared a ≡ Some f → v.references f ≡ 1
  pub prepared_unmarked : (a f : ℕ) → s.prepared a ≡ Some f → s.mark f ≡ false
  pub prepared_unowned : (a f : ℕ) → s.prepared a ≡ Some f → s.own f ≡ None
  pub prepared_zero : (a f w : ℕ) → s.prepared a ≡ Some f → words_written (v.forks a) ≤ w → s.word f w ≡ 0
  pub marking_entry : (a : ℕ) (m : Marking) → v.marks a ≡ Some m → frame_of (v.whole m.proc m.page) ≡ Some m.frame
  pub marking_own : (a : ℕ) (m : Marking) → v.marks a ≡ Some m → s.own m.frame ≡ v.names m.proc m.page
  pub moving_once : (a : ℕ) (m : Moving) → v.moves a ≡ Some m → m.count ≡ one → v.references m.entry.frame ≡ 1
  -- forks

  pub fork_fresh : (a g : ℕ) (k : Forking) → v.forks a ≡ Some k → is_failing k.step ≡ false → (Contains k.done g → ⊥) → v.whole k.child g ≡ None
  pub fork_copied : (a g w : ℕ) (k : Forking) → v.forks a ≡ Some k → is_failing k.step ≡ false → Contains k.done g → w < words → s.copied k.child g w ≡ true
  pub fork_uncopied : (a g w : ℕ) (k : Forking) → v.forks a ≡ Some k → is_failing k.step ≡ false → (Contains k.done g → ⊥) → w < words → s.copied k.child g w ≡ nat_lt w (copied_words k.step g)
  pub fork_undone : (a g : ℕ) (k : Forking) → v.forks a ≡ Some k → step_page k.step ≡ Some g → Contains k.done g → ⊥
  pub fork_mapped : (a g : ℕ) (k : Forking) → v.forks a ≡ Some k → step_page k.step ≡ Some g → s.right k.child g ≡ None → ⊥
  -- the child of one that fails has an entry
  pub fork_left : (a : ℕ) (k : Forking) → v.forks a ≡ Some k → k.step ≡ failing → (g : ℕ) × IsSome (s.entry k.child g)
  -- a fork that has copied a word has prepared a frame
  pub copy_there : (a g n : ℕ) (k : Forking) → v.forks a ≡ Some k → k.step ≡ copying g n → 0 < n → s.prepared a ≡ None → ⊥
  pub copy_words : (a g n w f : ℕ) (k : Forking) → v.forks a ≡ Some k → k.step ≡ copying g n → s.prepared a ≡ Some f → w < n → s.word f w ≡ s.content (s.object k.child g) w
  -- what is shared is under no pin; then its entry is read-only, and then the frame is exclusive no more
  pub share_handle : (a g h j : ℕ) (k : Forking) (e : Entry) → v.forks a ≡ Some k → shared_page k.step ≡ Some g → v.whole k.proc g ≡ Some e → slice_get (s.pinned h) j ≡ Some e.frame → ⊥
  pub share_taken : (a g b j : ℕ) (k : Forking) (e : Entry) (t : Taken) → v.forks a ≡ Some k → shared_page k.step ≡ Some g → v.whole k.proc g ≡ Some e → slice_get (s.taken b) j ≡ Some t → is_open (v.walks b) ≡ false → t.frame ≡ e.frame → ⊥
  pub share_lowered : (a g : ℕ) (k : Forking) (e : Entry) → v.forks a ≡ Some k → lowered_page k.step ≡ Some g → v.whole k.proc g ≡ Some e → e.writable ≡ false
  pub share_unowned : (a g : ℕ) (k : Forking) (e : Entry) → v.forks a ≡ Some k → k.step ≡ cleared g → v.whole k.proc g ≡ Some e → s.own e.frame ≡ None
  -- mirrors

  pub mirror_noted : (m f : ℕ) → s.mirrored m ≡ Some f → s.slot m ≡ None → ⊥
  pub mirror_born : (m f : ℕ) (noted : Noted) → s.mirrored m ≡ Some f → s.slot m ≡ Some noted → s.birth noted.proc ≡ born
  pub mirror_entry : (m f : ℕ) (noted : Noted) → s.mirrored m ≡ Some f → s.slot m ≡ Some noted → frame_of (s.entry noted.proc noted.page) ≡ Some f
  pub mirror_names : (m f : ℕ) (noted : Noted) → s.mirrored m ≡ Some f → s.slot m ≡ Some noted → v.names noted.proc noted.page ≡ Some noted.object

-- There is a view of the state by which it is sound.
abbrev pub IsSound : CoreState → Type 0
IsSound s = (v : View) × IsSoundBy v s

-- The state after an event is sound, and the plain event that stands at it can happen and leads to the plain state
-- that it stands for.
pub record Simulates (s : CoreState) (e : CoreEvent) : Type 0 where
  pub sound : IsSound (happens s e)
  pub can : CanTell (plain_of s) (told e)
  pub same : plain_of (happens s e) ≡ after_told (plain_of s) (told e)
