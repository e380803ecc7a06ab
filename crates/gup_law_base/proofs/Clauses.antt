-- The clauses of a sound state, each under a name of its own, so that a lemma on an event says which it proves anew.
-- Each is the clause of `IsSoundBy` with the same name; a difference between the two is refused where the record is made.
use Rattle.std.specs.Prelude.{◌≡◌, ℕ, ◌+◌, ◌<◌, ◌≤◌, nat_lt, true, false, not, length, slice_get, Contains, Some, None, IsSome}
use Rattle.gup_base.specs.declared.entry.Entry.{Entry}
use Rattle.gup_base.specs.declared.entry.Rights.{Rights}
use Rattle.gup_base.specs.declared.entry.Rights.TheVariants.{R}
use Rattle.gup_plain.specs.Event.{page_numbers, words}
use Rattle.gup_plain.specs.State.{growing, born, unborn, failed, Noted, objects_of}
use Rattle.gup_spec_events.specs.State.{CoreState, Taken, one, copying, cleared, failing, entered}
use Rattle.gup_spec_events.specs.Event.{writes_taken, long_taken, is_odd}
use Rattle.gup_spec_events.specs.Invariant.{frame_of, is_inside}
use Rattle.gup_law_base.specs.Sound.{Marking, Moving, Forking, Walking, View, marking_of, moving_of, forking_of, walking_of, marked_frame, fork_child, step_page, shared_page, lowered_page, is_failing, copied_words, words_written, birth_of_child, keeps_table, keeps_structure, is_open, tried_page, tried_entry, rechecked_entry, unkept, IsUncopiedBy, held, held_by_walk, Tally, AreWalkers}

module _ (v : View) (s : CoreState) where
  abbrev pub References : Type 0
  References = Tally v.references (held s.entry v.moves s.prepared s.owed s.got s.pinned s.taken)

  abbrev pub Grabs : Type 0
  Grabs = Tally v.grabs (held_by_walk v.walks)

  abbrev pub CountIs : Type 0
  CountIs = (f : ℕ) → s.count f ≡ v.references f + v.grabs f

  -- the views
  abbrev pub MarksAre : Type 0
  MarksAre = (a : ℕ) → v.marks a ≡ marking_of (s.job a)

  abbrev pub MovesAre : Type 0
  MovesAre = (a : ℕ) → v.moves a ≡ moving_of (s.job a)

  abbrev pub ForksAre : Type 0
  ForksAre = (a : ℕ) → v.forks a ≡ forking_of (s.job a)

  abbrev pub WalksAre : Type 0
  WalksAre = (a : ℕ) → v.walks a ≡ walking_of (s.job a)

  abbrev pub WholeEntry : Type 0
  WholeEntry = (p g : ℕ) (e : Entry) → s.entry p g ≡ Some e → v.whole p g ≡ Some e

  abbrev pub WholeMoved : Type 0
  WholeMoved = (a : ℕ) (m : Moving) → v.moves a ≡ Some m → v.whole m.proc m.page ≡ Some m.entry

  abbrev pub WholeFree : Type 0
  WholeFree = (p g : ℕ) (e : Entry) → v.whole p g ≡ Some e → s.table p ≡ None → s.entry p g ≡ Some e

  abbrev pub WholeKept : Type 0
  WholeKept = (p g a : ℕ) (e : Entry) → v.whole p g ≡ Some e → s.table p ≡ Some a → v.moves a ≡ None → s.entry p g ≡ Some e

  abbrev pub WholeOther : Type 0
  WholeOther = (p g a : ℕ) (e : Entry) (m : Moving) → v.whole p g ≡ Some e → s.table p ≡ Some a → v.moves a ≡ Some m → (m.page ≡ g → ⊥) → s.entry p g ≡ Some e

  abbrev pub MovedGone : Type 0
  MovedGone = (a : ℕ) (m : Moving) → v.moves a ≡ Some m → s.entry m.proc m.page ≡ None

  abbrev pub RightNames : Type 0
  RightNames = (p g : ℕ) (r : Rights) → s.right p g ≡ Some r → v.names p g ≡ Some (s.object p g)

  abbrev pub WholeNames : Type 0
  WholeNames = (p g : ℕ) (e : Entry) → v.whole p g ≡ Some e → v.names p g ≡ Some (s.object p g)

  abbrev pub NamesObject : Type 0
  NamesObject = (p g o : ℕ) → v.names p g ≡ Some o → s.object p g ≡ o

  -- locks
  abbrev pub MarksTable : Type 0
  MarksTable = (a : ℕ) (m : Marking) → v.marks a ≡ Some m → s.table m.proc ≡ Some a

  abbrev pub MovesTable : Type 0
  MovesTable = (a : ℕ) (m : Moving) → v.moves a ≡ Some m → s.table m.proc ≡ Some a

  abbrev pub ForksTable : Type 0
  ForksTable = (a g : ℕ) (k : Forking) → v.forks a ≡ Some k → step_page k.step ≡ Some g → s.table k.proc ≡ Some a

  abbrev pub ForksStructure : Type 0
  ForksStructure = (a : ℕ) (k : Forking) → v.forks a ≡ Some k → s.structure k.proc ≡ Some a

  abbrev pub TableHeld : Type 0
  TableHeld = (p a : ℕ) → s.table p ≡ Some a → keeps_table (s.job a) ≡ Some p

  abbrev pub StructureHeld : Type 0
  StructureHeld = (p a : ℕ) → s.structure p ≡ Some a → keeps_structure (s.job a) ≡ Some p

  abbrev pub TableBorn : Type 0
  TableBorn = (p a : ℕ) → s.table p ≡ Some a → s.birth p ≡ born

  -- processes
  abbrev pub ForkParent : Type 0
  ForkParent = (a : ℕ) (k : Forking) → v.forks a ≡ Some k → s.birth k.proc ≡ born

  abbrev pub ForkBirth : Type 0
  ForkBirth = (a : ℕ) (k : Forking) → v.forks a ≡ Some k → s.birth k.child ≡ birth_of_child k

  -- no two forks bring one child
  abbrev pub ForkAlone : Type 0
  ForkAlone = (a b : ℕ) (k l : Forking) → v.forks a ≡ Some k → v.forks b ≡ Some l → k.child ≡ l.child → a ≡ b

  abbrev pub GrowingLocked : Type 0
  GrowingLocked = (c p : ℕ) → s.birth c ≡ growing p → s.structure p ≡ None → ⊥

  abbrev pub GrowingForked : Type 0
  GrowingForked = (c p a : ℕ) → s.birth c ≡ growing p → s.structure p ≡ Some a → fork_child (v.forks a) ≡ Some c

  abbrev pub GrowingRights : Type 0
  GrowingRights = (c p g : ℕ) → s.birth c ≡ growing p → s.right c g ≡ s.right p g

  abbrev pub UnbornUnmapped : Type 0
  UnbornUnmapped = (p g : ℕ) → s.birth p ≡ unborn → s.right p g ≡ None

  abbrev pub FailedUnmapped : Type 0
  FailedUnmapped = (p g : ℕ) → s.birth p ≡ failed → s.right p g ≡ None

  abbrev pub FlagBorn : Type 0
  FlagBorn = (p : ℕ) → s.has_pinned p ≡ true → s.birth p ≡ born

  -- the sequence is odd while a fork of the process runs that hasn't failed
  abbrev pub ForkOdd : Type 0
  ForkOdd = (a : ℕ) (k : Forking) → v.forks a ≡ Some k → is_odd (s.sequence k.proc) ≡ not (is_failing k.step)

  abbrev pub QuietEven : Type 0
  QuietEven = (p : ℕ) → s.structure p ≡ None → is_odd (s.sequence p) ≡ false

  -- exclusive frames
  abbrev pub OwnAlone : Type 0
  OwnAlone = (f g o : ℕ) → s.own f ≡ Some o → s.own g ≡ Some o → f ≡ g

  abbrev pub OwnMade : Type 0
  OwnMade = (f o : ℕ) → s.own f ≡ Some o → o < s.made

  abbrev pub OwnNames : Type 0
  OwnNames = (p g o : ℕ) (e : Entry) → v.whole p g ≡ Some e → s.own e.frame ≡ Some o → v.names p g ≡ Some o

  abbrev pub OwnEntry : Type 0
  OwnEntry = (f p g o : ℕ) → s.own f ≡ Some o → v.names p g ≡ Some o → frame_of (v.whole p g) ≡ Some f

  abbrev pub OwnWords : Type 0
  OwnWords = (f o w : ℕ) → s.own f ≡ Some o → w < words → s.word f w ≡ s.content o w

  -- an exclusive frame in an entry is marked, but while its marking is under way
  abbrev pub OwnMarked : Type 0
  OwnMarked = (p g o : ℕ) (e : Entry) → v.whole p g ≡ Some e → s.own e.frame ≡ Some o → s.table p ≡ None → s.mark e.frame ≡ true

  abbrev pub OwnMarking : Type 0
  OwnMarking = (p g o a : ℕ) (e : Entry) → v.whole p g ≡ Some e → s.own e.frame ≡ Some o → s.table p ≡ Some a → s.mark e.frame ≡ false → marked_frame (v.marks a) ≡ Some e.frame

  abbrev pub MarkedOwn : Type 0
  MarkedOwn = (p g : ℕ) (e : Entry) → v.whole p g ≡ Some e → s.mark e.frame ≡ true → s.own e.frame ≡ v.names p g

  -- pages
  abbrev pub EntryMapped : Type 0
  EntryMapped = (p g : ℕ) (e : Entry) → v.whole p g ≡ Some e → s.right p g ≡ None → s.birth p ≡ failed

  abbrev pub EntryMarked : Type 0
  EntryMarked = (p g : ℕ) (e : Entry) → v.whole p g ≡ Some e → e.writable ≡ true → s.mark e.frame ≡ true

  abbrev pub EntryAllowed : Type 0
  EntryAllowed = (p g : ℕ) (e : Entry) → v.whole p g ≡ Some e → e.writable ≡ true → s.right p g ≡ Some R → ⊥

  abbrev pub EntryWords : Type 0
  EntryWords = (p g w : ℕ) (e : Entry) (r : Rights) → v.whole p g ≡ Some e → s.right p g ≡ Some r → w < words → s.word e.frame w ≡ s.content (s.object p g) w

  abbrev pub Untouched : Type 0
  Untouched = (p g w : ℕ) (r : Rights) → s.right p g ≡ Some r → v.whole p g ≡ None → IsUncopiedBy v.forks p g → w < words → s.content (s.object p g) w ≡ 0

  abbrev pub NamesAlone : Type 0
  NamesAlone = (p g q h o : ℕ) → v.names p g ≡ Some o → v.names q h ≡ Some o → (p ≡ q) × (g ≡ h)

  abbrev pub NamesMade : Type 0
  NamesMade = (p g o : ℕ) → v.names p g ≡ Some o → o < s.made

  abbrev pub RightNumbered : Type 0
  RightNumbered = (p g : ℕ) (r : Rights) → s.right p g ≡ Some r → g < page_numbers

  -- pins: the pages of handles, and those that a pin has taken
  abbrev pub HandlePages : Type 0
  HandlePages = (h : ℕ) → length (s.pinned h) ≤ length (objects_of (s.handle h))

  abbrev pub HandleMarked : Type 0
  HandleMarked = (h k f : ℕ) → slice_get (s.pinned h) k ≡ Some f → s.mark f ≡ true

  abbrev pub HandleOwn : Type 0
  HandleOwn = (h k f : ℕ) → slice_get (s.pinned h) k ≡ Some f → s.own f ≡ slice_get (objects_of (s.handle h)) k

  abbrev pub HandleFlag : Type 0
  HandleFlag = (h k f o p g : ℕ) → slice_get (s.pinned h) k ≡ Some f → s.own f ≡ Some o → v.names p g ≡ Some o → s.has_pinned p ≡ true

  abbrev pub HandleNormal : Type 0
  HandleNormal = (h k f : ℕ) → slice_get (s.pinned h) k ≡ Some f → s.for_long h ≡ true → s.movable ≤ f

  abbrev pub TakenMarked : Type 0
  TakenMarked = (a k : ℕ) (t : Taken) → slice_get (s.taken a) k ≡ Some t → is_open (v.walks a) ≡ false → s.mark t.frame ≡ true

  abbrev pub TakenOwn : Type 0
  TakenOwn = (a k : ℕ) (t : Taken) → slice_get (s.taken a) k ≡ Some t → is_open (v.walks a) ≡ false → s.own t.frame ≡ Some t.object

  abbrev pub TakenMade : Type 0
  TakenMade = (a k : ℕ) (t : Taken) → slice_get (s.taken a) k ≡ Some t → t.object < s.made

  abbrev pub TakenFlag : Type 0
  TakenFlag = (a k : ℕ) (t : Taken) → slice_get (s.taken a) k ≡ Some t → s.has_pinned t.proc ≡ true

  abbrev pub TakenNames : Type 0
  TakenNames = (a k p g : ℕ) (t : Taken) → slice_get (s.taken a) k ≡ Some t → v.names p g ≡ Some t.object → (p ≡ t.proc) × (g ≡ t.page)

  abbrev pub TakenNormal : Type 0
  TakenNormal = (a k : ℕ) (t : Taken) → slice_get (s.taken a) k ≡ Some t → t.long ≡ true → s.movable ≤ t.frame

  abbrev pub TakenWrite : Type 0
  TakenWrite = (a k : ℕ) (t : Taken) → slice_get (s.taken a) k ≡ Some t → t.write ≡ writes_taken (s.taken a)

  abbrev pub TakenLong : Type 0
  TakenLong = (a k : ℕ) (t : Taken) → slice_get (s.taken a) k ≡ Some t → t.long ≡ long_taken (s.taken a)

  abbrev pub TakenApart : Type 0
  TakenApart = (a j k : ℕ) (t u : Taken) → slice_get (s.taken a) j ≡ Some t → slice_get (s.taken a) k ≡ Some u → t.page ≡ u.page → j ≡ k

  -- walks
  abbrev pub WalksNumber : Type 0
  WalksNumber = (p : ℕ) → AreWalkers v.walks p (s.walks p)

  abbrev pub WalkFlag : Type 0
  WalkFlag = (a : ℕ) (w : Walking) → v.walks a ≡ Some w → s.has_pinned w.proc ≡ true

  abbrev pub WalkEmpty : Type 0
  WalkEmpty = (a k : ℕ) (w : Walking) (t : Taken) → v.walks a ≡ Some w → w.step ≡ entered → slice_get (s.taken a) k ≡ Some t → ⊥

  abbrev pub WalkEven : Type 0
  WalkEven = (a : ℕ) (w : Walking) → v.walks a ≡ Some w → is_inside w.step ≡ true → is_odd w.sequence ≡ false

  abbrev pub WalkBelow : Type 0
  WalkBelow = (a : ℕ) (w : Walking) → v.walks a ≡ Some w → is_inside w.step ≡ true → w.sequence ≤ s.sequence w.proc

  abbrev pub WalkProc : Type 0
  WalkProc = (a k : ℕ) (w : Walking) (t : Taken) → v.walks a ≡ Some w → slice_get (s.taken a) k ≡ Some t → t.proc ≡ w.proc

  abbrev pub WalkWrite : Type 0
  WalkWrite = (a k : ℕ) (w : Walking) (t : Taken) → v.walks a ≡ Some w → slice_get (s.taken a) k ≡ Some t → t.write ≡ w.write

  abbrev pub WalkLong : Type 0
  WalkLong = (a k : ℕ) (w : Walking) (t : Taken) → v.walks a ≡ Some w → slice_get (s.taken a) k ≡ Some t → t.long ≡ w.long

  -- the page that it tries is none that it has taken, and the entry is right for the pin
  abbrev pub WalkUntaken : Type 0
  WalkUntaken = (a k g : ℕ) (w : Walking) (t : Taken) → v.walks a ≡ Some w → tried_page w.step ≡ Some g → slice_get (s.taken a) k ≡ Some t → t.page ≡ g → ⊥

  abbrev pub WalkWrites : Type 0
  WalkWrites = (a : ℕ) (w : Walking) (e : Entry) → v.walks a ≡ Some w → tried_entry w.step ≡ Some e → w.write ≡ true → e.writable ≡ true

  abbrev pub WalkNormal : Type 0
  WalkNormal = (a : ℕ) (w : Walking) (e : Entry) → v.walks a ≡ Some w → tried_entry w.step ≡ Some e → w.long ≡ true → s.movable ≤ e.frame

  -- The walk is undisturbed: a frame taken is exclusively the object's, or else unmarked; what it keeps is marked.
  abbrev pub WalkOwn : Type 0
  WalkOwn = (a k o : ℕ) (w : Walking) (t : Taken) → v.walks a ≡ Some w → is_inside w.step ≡ true → w.sequence ≡ s.sequence w.proc → slice_get (s.taken a) k ≡ Some t → s.own t.frame ≡ Some o → o ≡ t.object

  abbrev pub WalkUnowned : Type 0
  WalkUnowned = (a k : ℕ) (w : Walking) (t : Taken) → v.walks a ≡ Some w → is_inside w.step ≡ true → w.sequence ≡ s.sequence w.proc → slice_get (s.taken a) k ≡ Some t → s.own t.frame ≡ None → s.mark t.frame ≡ false

  abbrev pub WalkKept : Type 0
  WalkKept = (a k : ℕ) (w : Walking) (t : Taken) → v.walks a ≡ Some w → is_inside w.step ≡ true → w.sequence ≡ s.sequence w.proc → slice_get (s.taken a) k ≡ Some t → k + unkept w.step < length (s.taken a) → s.mark t.frame ≡ true

  -- the page taken last has the entry that was rechecked; one that was writable is marked
  abbrev pub WalkLast : Type 0
  WalkLast = (a k : ℕ) (w : Walking) (t : Taken) (e : Entry) → v.walks a ≡ Some w → rechecked_entry w.step ≡ Some e → slice_get (s.taken a) k ≡ Some t → k + 1 ≡ length (s.taken a) → t.frame ≡ e.frame

  abbrev pub WalkWritable : Type 0
  WalkWritable = (a k : ℕ) (w : Walking) (t : Taken) (e : Entry) → v.walks a ≡ Some w → rechecked_entry w.step ≡ Some e → e.writable ≡ true → w.sequence ≡ s.sequence w.proc → slice_get (s.taken a) k ≡ Some t → k + 1 ≡ length (s.taken a) → s.mark t.frame ≡ true

  -- what actors are in the middle of
  abbrev pub PreparedOnce : Type 0
  PreparedOnce = (a f : ℕ) → s.prepared a ≡ Some f → v.references f ≡ 1

  abbrev pub PreparedUnmarked : Type 0
  PreparedUnmarked = (a f : ℕ) → s.prepared a ≡ Some f → s.mark f ≡ false

  abbrev pub PreparedUnowned : Type 0
  PreparedUnowned = (a f : ℕ) → s.prepared a ≡ Some f → s.own f ≡ None

  abbrev pub PreparedZero : Type 0
  PreparedZero = (a f w : ℕ) → s.prepared a ≡ Some f → words_written (v.forks a) ≤ w → s.word f w ≡ 0

  abbrev pub MarkingEntry : Type 0
  MarkingEntry = (a : ℕ) (m : Marking) → v.marks a ≡ Some m → frame_of (v.whole m.proc m.page) ≡ Some m.frame

  abbrev pub MarkingOwn : Type 0
  MarkingOwn = (a : ℕ) (m : Marking) → v.marks a ≡ Some m → s.own m.frame ≡ v.names m.proc m.page

  abbrev pub MovingOnce : Type 0
  MovingOnce = (a : ℕ) (m : Moving) → v.moves a ≡ Some m → m.count ≡ one → v.references m.entry.frame ≡ 1

  -- forks
  abbrev pub ForkFresh : Type 0
  ForkFresh = (a g : ℕ) (k : Forking) → v.forks a ≡ Some k → is_failing k.step ≡ false → (Contains k.done g → ⊥) → v.whole k.child g ≡ None

  abbrev pub ForkCopied : Type 0
  ForkCopied = (a g w : ℕ) (k : Forking) → v.forks a ≡ Some k → is_failing k.step ≡ false → Contains k.done g → w < words → s.copied k.child g w ≡ true

  abbrev pub ForkUncopied : Type 0
  ForkUncopied = (a g w : ℕ) (k : Forking) → v.forks a ≡ Some k → is_failing k.step ≡ false → (Contains k.done g → ⊥) → w < words → s.copied k.child g w ≡ nat_lt w (copied_words k.step g)

  abbrev pub ForkUndone : Type 0
  ForkUndone = (a g : ℕ) (k : Forking) → v.forks a ≡ Some k → step_page k.step ≡ Some g → Contains k.done g → ⊥

  abbrev pub ForkMapped : Type 0
  ForkMapped = (a g : ℕ) (k : Forking) → v.forks a ≡ Some k → step_page k.step ≡ Some g → s.right k.child g ≡ None → ⊥

  -- the child of one that fails has an entry
  abbrev pub ForkLeft : Type 0
  ForkLeft = (a : ℕ) (k : Forking) → v.forks a ≡ Some k → k.step ≡ failing → (g : ℕ) × IsSome (s.entry k.child g)

  -- a fork that has copied a word has prepared a frame
  abbrev pub CopyThere : Type 0
  CopyThere = (a g n : ℕ) (k : Forking) → v.forks a ≡ Some k → k.step ≡ copying g n → 0 < n → s.prepared a ≡ None → ⊥

  abbrev pub CopyWords : Type 0
  CopyWords = (a g n w f : ℕ) (k : Forking) → v.forks a ≡ Some k → k.step ≡ copying g n → s.prepared a ≡ Some f → w < n → s.word f w ≡ s.content (s.object k.child g) w

  -- what is shared is under no pin; then its entry is read-only, and then the frame is exclusive no more
  abbrev pub ShareHandle : Type 0
  ShareHandle = (a g h j : ℕ) (k : Forking) (e : Entry) → v.forks a ≡ Some k → shared_page k.step ≡ Some g → v.whole k.proc g ≡ Some e → slice_get (s.pinned h) j ≡ Some e.frame → ⊥

  abbrev pub ShareTaken : Type 0
  ShareTaken = (a g b j : ℕ) (k : Forking) (e : Entry) (t : Taken) → v.forks a ≡ Some k → shared_page k.step ≡ Some g → v.whole k.proc g ≡ Some e → slice_get (s.taken b) j ≡ Some t → is_open (v.walks b) ≡ false → t.frame ≡ e.frame → ⊥

  abbrev pub ShareLowered : Type 0
  ShareLowered = (a g : ℕ) (k : Forking) (e : Entry) → v.forks a ≡ Some k → lowered_page k.step ≡ Some g → v.whole k.proc g ≡ Some e → e.writable ≡ false

  abbrev pub ShareUnowned : Type 0
  ShareUnowned = (a g : ℕ) (k : Forking) (e : Entry) → v.forks a ≡ Some k → k.step ≡ cleared g → v.whole k.proc g ≡ Some e → s.own e.frame ≡ None

  -- mirrors
  abbrev pub MirrorNoted : Type 0
  MirrorNoted = (m f : ℕ) → s.mirrored m ≡ Some f → s.slot m ≡ None → ⊥

  abbrev pub MirrorBorn : Type 0
  MirrorBorn = (m f : ℕ) (noted : Noted) → s.mirrored m ≡ Some f → s.slot m ≡ Some noted → s.birth noted.proc ≡ born

  abbrev pub MirrorEntry : Type 0
  MirrorEntry = (m f : ℕ) (noted : Noted) → s.mirrored m ≡ Some f → s.slot m ≡ Some noted → frame_of (s.entry noted.proc noted.page) ≡ Some f

  abbrev pub MirrorNames : Type 0
  MirrorNames = (m f : ℕ) (noted : Noted) → s.mirrored m ≡ Some f → s.slot m ≡ Some noted → v.names noted.proc noted.page ≡ Some noted.object
