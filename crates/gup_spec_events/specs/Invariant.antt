-- What is true of every state that the core machine reaches: the count of a frame is that of its references, an
-- exclusive frame belongs to one page or to the pins that outlived it, what a fork shares and a mover moves is under no
-- pin, what a walk has taken is as good as pinned while no fork has begun, a process has as many walks as actors walk
-- it, frames have the bytes that the plain model says, and what is pinned for long is of the normal zone.
use Rattle.std.specs.Prelude.{◌≡◌, ℕ, ◌+◌, ◌<◌, ◌≤◌, ◌⊎◌, Bool, true, false, not, List, [], ◌∷◌, length, slice_get, Contains, sum_by, Option, Some, None, IsSome, suc}
use Rattle.gup_base.specs.declared.entry.Allowed.{Allowed}
use Rattle.gup_base.specs.declared.entry.Entry.{Entry}
use Rattle.gup_base.specs.declared.entry.Rights.TheVariants.{RW}
use Rattle.gup_plain.specs.Event.{CanHappen, words}
use Rattle.gup_plain.specs.State.{PlainState, Noted, failed, born, objects_of}
use Rattle.gup_plain.specs.declared.event.PlainEvent.{PlainEvent}
use Rattle.gup_spec_events.specs.State.{CoreState, Taken, Job, moving, forking, walking, Counted, one, ForkStep, counted, lowered, cleared, copying, failing, WalkStep, entered, grabbed, rechecked, differed, refused, dropping, over}
use Rattle.gup_spec_events.specs.Event.{CoreEvent, Can, happens, bias, bias_of, IsNormal}

-- 1. References: whatever may hold a frame

pub data Holder : Type 0 where
  -- an entry, and one that a mover has cleared
  entry_of_page : (p page : ℕ) → Holder
  cleared_by : (a : ℕ) → Holder
  -- a frame that an actor prepares, and one that it has yet to give back
  prepared_by : (a : ℕ) → Holder
  owed_by : (a : ℕ) → Holder
  got_as : (k : ℕ) → Holder
  -- a page of a handle, and one that a running pin has taken
  page_of_pin : (h k : ℕ) → Holder
  page_taken : (a k : ℕ) → Holder
  -- a frame that a walk has grabbed, before it reads the entry again or drops it
  grabbed_by : (a : ℕ) → Holder

abbrev pub frame_of : Option Entry → Option ℕ
frame_of None = None
frame_of (Some e) = Some e.frame

abbrev pub cleared_frame : Job → Option ℕ
cleared_frame (moving p page e allowed count) = Some e.frame
cleared_frame job = None

abbrev pub got_frame : Option (ℕ × ℕ) → Option ℕ
got_frame None = None
got_frame (Some got) = Some got.1

abbrev pub taken_frame : Option Taken → Option ℕ
taken_frame None = None
taken_frame (Some t) = Some t.frame

abbrev pub step_frame : WalkStep → Option ℕ
step_frame (grabbed page path e) = Some e.frame
step_frame (differed f) = Some f
step_frame step = None

abbrev pub grabbed_frame : Job → Option ℕ
grabbed_frame (walking p write long sequence step) = step_frame step
grabbed_frame job = None

-- the frame that it holds, if it holds one
abbrev pub holds : CoreState → Holder → Option ℕ
holds s (entry_of_page p page) = frame_of (s.entry p page)
holds s (cleared_by a) = cleared_frame (s.job a)
holds s (prepared_by a) = s.prepared a
holds s (owed_by a) = s.owed a
holds s (got_as k) = got_frame (s.got k)
holds s (page_of_pin h k) = slice_get (s.pinned h) k
holds s (page_taken a k) = taken_frame (slice_get (s.taken a) k)
holds s (grabbed_by a) = grabbed_frame (s.job a)

-- what it weighs in the frame's count, where a pin weighs so much
abbrev pub weight_by : (pin : ℕ) → Holder → ℕ
weight_by pin (page_of_pin h k) = pin
weight_by pin (page_taken a k) = pin
weight_by pin (grabbed_by a) = pin
weight_by pin holder = 1

-- where it weighs 1,024
abbrev pub weight : Holder → ℕ
weight = weight_by bias

abbrev pub HasNoRepetition : {X : Type 0} → List X → Type 0
HasNoRepetition [] = Unit {0}
HasNoRepetition (x ∷ xs) = (Contains xs x → ⊥) × HasNoRepetition xs

-- The holders of a frame are the elements of a list without repetition, and their weights add up to its count.
abbrev pub CountsReferences : CoreState → Type 0
CountsReferences s =
    (f : ℕ) → (holders : List Holder)
    × HasNoRepetition holders
    × ((x : Holder) → (holds s x ≡ Some f → Contains holders x) × (Contains holders x → holds s x ≡ Some f))
    × (sum_by (weight_by (bias_of s)) holders ≡ s.count f)

-- 2. Entries, those that a mover has cleared counted

-- the actor has cleared the entry of this page
abbrev pub HasCleared : CoreState → (a p page : ℕ) → Entry → Type 0
HasCleared s a p page e = (allowed : Allowed) × (count : Counted) × (s.job a ≡ moving p page e allowed count)

-- the page's entry, or the one that was cleared
abbrev pub IsEntry : CoreState → (p page : ℕ) → Entry → Type 0
IsEntry s p page e = (s.entry p page ≡ Some e) ⊎ ((a : ℕ) × HasCleared s a p page e)

-- the page names the object
abbrev pub Names : CoreState → (p page o : ℕ) → Type 0
Names s p page o = IsSome (s.right p page) × (s.object p page ≡ o)

-- 3. Settled pins: the pages of handles, and those that a slow pin has taken, or a walk that has read the sequence
-- again and found it the same

abbrev pub is_over : WalkStep → Bool
is_over over = true
is_over step = false

-- may the actor's walk have to drop what it has taken?
abbrev pub is_unsettled : Job → Bool
is_unsettled (walking p write long sequence step) = not (is_over step)
is_unsettled job = false

abbrev pub InHandle : CoreState → (f o : ℕ) → Type 0
InHandle s f o =
    (h : ℕ) × (k : ℕ) × (slice_get (s.pinned h) k ≡ Some f) × (slice_get (objects_of (s.handle h)) k ≡ Some o)

abbrev pub InPin : CoreState → (f o : ℕ) → Type 0
InPin s f o =
    (a : ℕ) × (t : Taken) × (is_unsettled (s.job a) ≡ false) × Contains (s.taken a) t × (t.frame ≡ f) × (t.object ≡ o)

-- a settled pin page has this frame and this object
abbrev pub IsSettled : CoreState → (f o : ℕ) → Type 0
IsSettled s f o = InHandle s f o ⊎ InPin s f o

-- 4. The exclusive rule

pub record IsExclusive (s : CoreState) : Type 0 where
  -- a writable entry's frame is marked, and, but for a failed child's, its page may be written
  pub writable : (p page : ℕ) (e : Entry) → IsEntry s p page e → e.writable ≡ true → (s.mark e.frame ≡ true) × ((s.birth p ≡ failed → ⊥) → s.right p page ≡ Some RW)
  -- a marked frame is in at most one entry
  pub one_entry : (p page q g : ℕ) (d e : Entry) → IsEntry s p page d → IsEntry s q g e → d.frame ≡ e.frame → s.mark e.frame ≡ true → (p ≡ q) × (page ≡ g)
  -- a page whose entry a mover has cleared has no entry
  pub cleared_gone : (a p page : ℕ) (e : Entry) → HasCleared s a p page e → s.entry p page ≡ None
  -- and no other mover has cleared it too
  pub cleared_once : (a b p page : ℕ) (d e : Entry) → HasCleared s a p page d → HasCleared s b p page e → a ≡ b
  -- a pinned frame is marked; it is in the entry of the page that names its object, and in no other
  pub pin_marked : (f o : ℕ) → IsSettled s f o → s.mark f ≡ true
  pub pin_entry : (f o p page : ℕ) → IsSettled s f o → Names s p page o → (e : Entry) × IsEntry s p page e × (e.frame ≡ f)
  pub pin_alone : (f o p page : ℕ) (e : Entry) → IsSettled s f o → IsEntry s p page e → e.frame ≡ f → Names s p page o
  -- two pinned pages have one frame exactly where they have one object
  pub one_object : (f g o u : ℕ) → IsSettled s f o → IsSettled s g u → (f ≡ g → o ≡ u) × (o ≡ u → f ≡ g)
  -- the process that names a pinned object has pinned
  pub pin_flag : (f o p page : ℕ) → IsSettled s f o → Names s p page o → s.has_pinned p ≡ true

-- 5. Forks and movers

abbrev pub IsUnpinned : CoreState → (f : ℕ) → Type 0
IsUnpinned s f = (o : ℕ) → IsSettled s f o → ⊥

-- the fork is in the middle of a share of this page
abbrev pub IsSharing : ForkStep → (page : ℕ) → Type 0
IsSharing (counted g) page = g ≡ page
IsSharing (lowered g) page = g ≡ page
IsSharing (cleared g) page = g ≡ page
IsSharing step page = ⊥

-- is the walk between its two readings of the sequence?
abbrev pub is_inside : WalkStep → Bool
is_inside entered = false
is_inside dropping = false
is_inside over = false
is_inside step = true

-- The process still has the even sequence that the walk has read: no fork of it has begun meanwhile.
abbrev pub IsUndisturbed : CoreState → (a p : ℕ) → WalkStep → Type 0
IsUndisturbed s a p step =
    (write long : Bool) × (sequence : ℕ) × (s.job a ≡ walking p write long sequence step) × (is_inside step ≡ true)
    × (s.sequence p ≡ sequence)

pub record IsParted (s : CoreState) : Type 0 where
  -- what a fork found not to be copied is under no settled pin, up to its share
  pub share : (a p c page : ℕ) (done : List ℕ) (step : ForkStep) (e : Entry) → s.job a ≡ forking p c done step → IsSharing step page → s.entry p page ≡ Some e → IsUnpinned s e.frame
  -- and each walk of that process is disturbed
  pub share_walk : (a p c page b : ℕ) (done : List ℕ) (step : ForkStep) (walk : WalkStep) → s.job a ≡ forking p c done step → IsSharing step page → IsUndisturbed s b p walk → ⊥
  -- a fork that fails has a child with an entry: who gives the last one back has ended it
  pub left : (a p c : ℕ) (done : List ℕ) → s.job a ≡ forking p c done failing → (page : ℕ) × IsSome (s.entry c page)
  -- the frame that a mover has cleared and counted once is under no settled pin, and no walk has taken it
  pub move : (a p page : ℕ) (e : Entry) (allowed : Allowed) → s.job a ≡ moving p page e allowed one → IsUnpinned s e.frame
  pub move_walk : (a p page b : ℕ) (e : Entry) (allowed : Allowed) (t : Taken) → s.job a ≡ moving p page e allowed one → Contains (s.taken b) t → t.frame ≡ e.frame → ⊥

-- 6. Bytes: what the plain state says of objects is so in frames

abbrev pub HasWords : CoreState → (f o : ℕ) → Type 0
HasWords s f o = (w : ℕ) → w < words → s.word f w ≡ s.content o w

-- no fork into the process is copying the page
abbrev pub IsUncopied : CoreState → (c page : ℕ) → Type 0
IsUncopied s c page = (a p word : ℕ) (done : List ℕ) → s.job a ≡ forking p c done (copying page word) → ⊥

pub record StandsFor (s : CoreState) : Type 0 where
  -- a page's entry, be it cleared, has the words of the page's object; a page without one has zeros
  pub entry_words : (p page : ℕ) (e : Entry) → IsEntry s p page e → IsSome (s.right p page) → HasWords s e.frame (s.object p page)
  pub untouched : (p page w : ℕ) → IsSome (s.right p page) → ((e : Entry) → IsEntry s p page e → ⊥) → IsUncopied s p page → w < words → s.content (s.object p page) w ≡ 0
  -- a pinned frame has the words of its object
  pub pin_words : (f o : ℕ) → IsSettled s f o → HasWords s f o
  -- a page that a fork has not reached has no entry in the child
  pub unreached : (a p c page : ℕ) (done : List ℕ) (step : ForkStep) → s.job a ≡ forking p c done step → (step ≡ failing → ⊥) → (Contains done page → ⊥) → s.entry c page ≡ None
  -- a fork that has copied a word of a page has prepared a frame; so it can only fail before the first word
  pub copy_there : (a p c page word : ℕ) (done : List ℕ) → s.job a ≡ forking p c done (copying page (suc word)) → IsSome (s.prepared a)
  -- what a fork has copied of a page is in that frame
  pub copy_words : (a p c page word w f : ℕ) (done : List ℕ) → s.job a ≡ forking p c done (copying page word) → s.prepared a ≡ Some f → w < word → s.word f w ≡ s.content (s.object c page) w
  -- the pages that a handle still has are the first of its objects
  pub handle_pages : (h : ℕ) → length (s.pinned h) ≤ length (objects_of (s.handle h))
  -- a filled mirror slot has the frame of its page's entry, and the page still names the slot's object
  pub mirror : (m f : ℕ) (noted : Noted) → s.mirrored m ≡ Some f → s.slot m ≡ Some noted → (s.birth noted.proc ≡ born) × ((e : Entry) × (s.entry noted.proc noted.page ≡ Some e) × (e.frame ≡ f)) × Names s noted.proc noted.page noted.object

-- 7. Walks

-- A frame and an object as those of a settled pin: the frame is in the entry of the page that names the object, and in
-- no other; no settled pin has one of them without the other; and the frame has the object's words.
pub record IsAsPinned (s : CoreState) (f o : ℕ) : Type 0 where
  pub entry : (p page : ℕ) → Names s p page o → (e : Entry) × IsEntry s p page e × (e.frame ≡ f)
  pub alone : (p page : ℕ) (e : Entry) → IsEntry s p page e → e.frame ≡ f → Names s p page o
  pub object : (g u : ℕ) → IsSettled s g u → (f ≡ g → o ≡ u) × (o ≡ u → f ≡ g)
  pub words : HasWords s f o

-- the walk has yet to read the mark of this frame, which it read through a read-only entry, or has read that it is clear
abbrev pub AwaitsMark : WalkStep → (f : ℕ) → Type 0
AwaitsMark (rechecked page e) f = (e.frame ≡ f) × (e.writable ≡ false)
AwaitsMark refused f = Unit {0}
AwaitsMark step f = ⊥

pub record IsWalked (s : CoreState) : Type 0 where
  -- the process of a walk has pinned
  pub flag : (a p sequence : ℕ) (write long : Bool) (step : WalkStep) → s.job a ≡ walking p write long sequence step → s.has_pinned p ≡ true
  -- a frame that a walk has grabbed isn't free
  pub grab : (a f : ℕ) → grabbed_frame (s.job a) ≡ Some f → s.count f ≡ 0 → ⊥
  -- What an undisturbed walk has taken: a marked frame is as a pinned one. All are marked but the last, before its mark
  -- is read and found.
  pub marked : (a p : ℕ) (step : WalkStep) (t : Taken) → IsUndisturbed s a p step → Contains (s.taken a) t → s.mark t.frame ≡ true → IsAsPinned s t.frame t.object
  pub unmarked : (a p k : ℕ) (step : WalkStep) (t : Taken) → IsUndisturbed s a p step → slice_get (s.taken a) k ≡ Some t → s.mark t.frame ≡ false → AwaitsMark step t.frame × (k + 1 ≡ length (s.taken a))
  -- two marked pages that undisturbed walks have taken, of whichever processes, have one frame exactly where they have
  -- one object
  pub pair : (a b p q : ℕ) (step next : WalkStep) (t u : Taken) → IsUndisturbed s a p step → IsUndisturbed s b q next → Contains (s.taken a) t → Contains (s.taken b) u → s.mark t.frame ≡ true → s.mark u.frame ≡ true → (t.frame ≡ u.frame → t.object ≡ u.object) × (t.object ≡ u.object → t.frame ≡ u.frame)

-- the process that a job walks
abbrev pub walked_process : Job → Option ℕ
walked_process (walking p write long sequence step) = Some p
walked_process job = None

-- The actors in a walk of a process are the elements of a list without repetition, and as many as its number of walks.
abbrev pub CountsWalks : CoreState → Type 0
CountsWalks s =
    (p : ℕ) → (walkers : List ℕ)
    × HasNoRepetition walkers
    × ((a : ℕ) → (walked_process (s.job a) ≡ Some p → Contains walkers a) × (Contains walkers a → walked_process (s.job a) ≡ Some p))
    × (length walkers ≡ s.walks p)

-- 8. Zones: what is pinned for long is out of the movable zone

pub record AreNormal (s : CoreState) : Type 0 where
  -- the frame of each page that a handle for long still has
  pub handle : (h k f : ℕ) → s.for_long h ≡ true → slice_get (s.pinned h) k ≡ Some f → IsNormal s f
  -- the frame of each page that a running pin for long has taken
  pub taken : (a : ℕ) (t : Taken) → Contains (s.taken a) t → t.long ≡ true → IsNormal s t.frame

-- What is known of a reachable state.
pub record Holds (s : CoreState) : Type 0 where
  pub counts : CountsReferences s
  pub exclusive : IsExclusive s
  pub parted : IsParted s
  pub stands : StandsFor s
  pub walked : IsWalked s
  pub walks : CountsWalks s
  pub normal : AreNormal s

-- The plain event that stands at a core event, if one does, can happen in the plain state that the core state
-- stands for.
abbrev pub CanTell : PlainState → Option PlainEvent → Type 0
CanTell s None = Unit {0}
CanTell s (Some e) = CanHappen s e

-- each event can happen in the state that those before it lead to
abbrev pub AllCan : CoreState → List CoreEvent → Type 0
AllCan s [] = Unit {0}
AllCan s (e ∷ es) = Can s e × AllCan (happens s e) es
