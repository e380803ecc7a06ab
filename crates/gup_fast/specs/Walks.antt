-- A lockless walk: where it stands, what its steps find, and what they are to a state of the core machine.
use Rattle.std.specs.Prelude.{◌≡◌, ℕ, ◌+◌, ◌-◌, ◌/◌, ◌%◌, ◌<◌, ◌≤◌, ◌^◌, ◌==◌, ◌&&◌, ◌||◌, not, nat_lt, Bool, true, false, if◌then◌else◌, List, [], ◌∷◌, ◌++◌, length, take, Option, Some, None, zero, suc}
use Rattle.gup_base.specs.Packing.{pack_of}
use Rattle.gup_base.specs.declared.entry.Entry.{Entry}
use Rattle.gup_base.specs.declared.entry.Want.{Want}
use Rattle.gup_frames.specs.Frames.{FramesValue, with_references, without_references}
use Rattle.gup_space.specs.Shows.{Change, ShowsFrames, ShowsSpace}
use Rattle.gup_space.specs.Space.{SpaceValue}
use Rattle.gup_spec_tables.specs.Tables.{TreeValue, link_to, word_of}
use Rattle.gup_spec_tables.specs.Paths.{entry_at, leads_still, path_to}
use Rattle.gup_tables.specs.Path.{tables_on}
use Rattle.gup_spec_events.specs.State.{CoreState, Job, idle, walking, Taken, WalkStep, entered, ready, reading, read, grabbed, rechecked, differed, refused, stopped, dropping}
use Rattle.gup_spec_events.specs.Event.{CoreEvent, is_odd, taken_frames, run, raise_flag, enter_walk, read_sequence, grab_frame, miss_frame, recheck_above, recheck_same, recheck_other, read_again, drop_grab, drop_last, drop_first, leave_walk}
use Rattle.gup_fast.specs.declared.walk.GiveUp.{GiveUp}
use Rattle.gup_fast.specs.declared.walk.Step.{Step}
use Rattle.gup_fast.specs.declared.walk.Step.TheVariants.{Flag, Sequence, Read, Grab, Recheck, Mark, Again, Drop, Nothing}
use Rattle.gup_fast.specs.declared.walk.GiveUp.TheVariants.{Odd, Changed, Absent, Rights, MovableFrame, CountZero, EntryChanged, Unmarked}

-- A walk has not begun, stands at a step, or is over.
pub data Stage : Type 0 where
  unbegun : Stage
  at : (step : WalkStep) → Stage
  left : Stage

-- The walk of a pin of n pages from `page` on: which sequence it has read, where it stands, and the frames that it has taken
-- and not dropped, in the order of their pages.
pub record WalkValue : Type 0 where
  pub page : ℕ
  pub n : ℕ
  pub want : Want
  pub sequence : ℕ
  pub stage : Stage
  pub taken : List ℕ

abbrev pub new_walk : (page n : ℕ) → Want → WalkValue
new_walk page n want = record { page = page; n = n; want = want; sequence = 0; stage = unbegun; taken = [] }

-- one that stands there
abbrev pub walk_at : (page n : ℕ) → Want → (sequence : ℕ) → Stage → (taken : List ℕ) → WalkValue
walk_at page n want sequence stage taken =
    record { page = page; n = n; want = want; sequence = sequence; stage = stage; taken = taken }

abbrev pub at_stage : Stage → WalkValue → WalkValue
at_stage stage w = record w { stage = stage }

-- the page after those that it has taken
abbrev pub next_page : WalkValue → ℕ
next_page w = w.page + length w.taken

-- The frames of the pages that it keeps: a page whose mark isn't read yet, or was found missing, is none of them, and a walk
-- that drops all has none.
abbrev pub kept_at : Stage → List ℕ → List ℕ
kept_at (at (rechecked page e)) taken = take (length taken - 1) taken
kept_at (at refused) taken = take (length taken - 1) taken
kept_at (at dropping) taken = []
kept_at stage taken = taken

-- what the next step may be

abbrev pub MayGrab : Stage → Type 0
MayGrab (at (read page path e)) = Unit {0}
MayGrab stage = ⊥

abbrev pub MayRecheck : Stage → Type 0
MayRecheck (at (grabbed page path e)) = Unit {0}
MayRecheck stage = ⊥

abbrev pub MayReadMark : Stage → Type 0
MayReadMark (at (rechecked page e)) = Unit {0}
MayReadMark stage = ⊥

-- after the last page, or where it stopped
abbrev pub MayReadAgain : WalkValue → Stage → Type 0
MayReadAgain w (at ready) = length w.taken ≡ w.n
MayReadAgain w (at stopped) = Unit {0}
MayReadAgain w stage = ⊥

-- ---- what its readings find: why the walk ends, stops, or keeps nothing

abbrev pub sequence_found : (sequence : ℕ) → Option GiveUp
sequence_found sequence = if is_odd sequence then Some (Odd sequence) else None

abbrev pub wrong_for : FramesValue → Want → Entry → Option GiveUp
wrong_for frames want e =
    if want.write && not e.writable then Some Rights
    else if want.long && nat_lt e.frame frames.movable then Some (MovableFrame e.frame)
    else None

abbrev pub entry_found : FramesValue → Want → Option Entry → Option GiveUp
entry_found frames want None = Some Absent
entry_found frames want (Some e) = wrong_for frames want e

abbrev pub count_found : (count : ℕ) → Option GiveUp
count_found zero = Some CountZero
count_found (suc n) = None

-- is this the same entry?
abbrev pub is_same : Entry → Option Entry → Bool
is_same e None = false
is_same e (Some d) = (e.frame == d.frame) && (if e.writable then d.writable else not d.writable)

abbrev pub entry_again : (was : Entry) → Option Entry → Option GiveUp
entry_again was now = if is_same was now then None else Some (EntryChanged (pack_of (Some was)) (pack_of now))

-- the word above that led to the path's last table, and what it is now
abbrev pub link_of : (path : List ℕ) → ℕ
link_of [] = 0
link_of (last ∷ path) = link_to (Some last)

abbrev pub link_now : TreeValue → (page : ℕ) → (path : List ℕ) → ℕ
link_now v page (last ∷ second ∷ path) = word_of v second (page / 512 % 512)
link_now v page path = 0

-- the word above is read again, and where it leads on as it did the entry
abbrev pub found_again : TreeValue → (page : ℕ) → (path : List ℕ) → (was : Entry) → Option GiveUp
found_again v page path was =
    if leads_still v path page then entry_again was (entry_at v path page)
    else Some (EntryChanged (link_of path) (link_now v page path))

abbrev pub mark_found : (writable mark : Bool) → Option GiveUp
mark_found writable mark = if writable || mark then None else Some Unmarked

abbrev pub sequence_again : (first last : ℕ) → Option GiveUp
sequence_again first last = if last == first then None else Some (Changed first last)

-- ---- where it stands after a step

abbrev pub after_sequence : (sequence : ℕ) → WalkValue → WalkValue
after_sequence sequence w = record w { sequence = sequence; stage = if is_odd sequence then left else at ready }

abbrev pub stopped_if : Option GiveUp → WalkStep → WalkStep
stopped_if (Some why) step = stopped
stopped_if None step = step

-- the entry that is read down the page's path
abbrev pub entry_down_in : TreeValue → (page : ℕ) → Option Entry
entry_down_in v page = entry_at v (path_to v page) page

abbrev pub step_after_read : FramesValue → Want → (page : ℕ) → (path : List ℕ) → Option Entry → WalkStep
step_after_read frames want page path None = stopped
step_after_read frames want page path (Some e) = stopped_if (wrong_for frames want e) (read page path e)

-- a frame that has a reference gets the weight of a pin
abbrev pub grabbed_frames : (f count : ℕ) → FramesValue → FramesValue
grabbed_frames f zero frames = frames
grabbed_frames f (suc n) frames = with_references f 1024 frames

abbrev pub step_after_grab : (page : ℕ) → (path : List ℕ) → Entry → (count : ℕ) → WalkStep
step_after_grab page path e zero = stopped
step_after_grab page path e (suc n) = grabbed page path e

-- is the word above as it was, and so the entry?
abbrev pub is_kept : TreeValue → (page : ℕ) → (path : List ℕ) → (was : Entry) → Bool
is_kept v page path was = leads_still v path page && is_same was (entry_at v path page)

abbrev pub after_recheck : TreeValue → (page : ℕ) → (path : List ℕ) → Entry → WalkValue → WalkValue
after_recheck v page path e w =
    if is_kept v page path e then record w { taken = w.taken ++ e.frame ∷ []; stage = at (rechecked page e) }
    else at_stage (at (differed e.frame)) w

abbrev pub step_after_mark : (writable mark : Bool) → WalkStep
step_after_mark writable mark = if writable || mark then ready else refused

-- where pages are left to be dropped
abbrev pub stage_left : List ℕ → Stage
stage_left [] = left
stage_left (f ∷ taken) = at dropping

abbrev pub after_again : (now : ℕ) → WalkValue → WalkValue
after_again now w = at_stage (if now == w.sequence then left else stage_left w.taken) w

-- ---- drops: a frame whose entry was another, the page whose mark was missing, or the first of all pages that are left

-- the frame that is dropped next
abbrev pub first_of : List ℕ → Option ℕ
first_of [] = None
first_of (f ∷ taken) = Some f

abbrev pub last_of : List ℕ → Option ℕ
last_of [] = None
last_of (f ∷ []) = Some f
last_of (f ∷ g ∷ taken) = last_of (g ∷ taken)

abbrev pub dropped_at : Stage → List ℕ → Option ℕ
dropped_at (at (differed f)) taken = Some f
dropped_at (at refused) taken = last_of taken
dropped_at (at dropping) taken = first_of taken
dropped_at stage taken = None

abbrev pub dropped_frames : Option ℕ → FramesValue → FramesValue
dropped_frames None frames = frames
dropped_frames (Some f) frames = without_references f 1024 frames

abbrev pub but_first : List ℕ → List ℕ
but_first [] = []
but_first (f ∷ taken) = taken

abbrev pub after_drop : Stage → WalkValue → WalkValue
after_drop (at (differed f)) w = at_stage (at stopped) w
after_drop (at refused) w = record w { taken = take (length w.taken - 1) w.taken; stage = at stopped }
after_drop (at dropping) w = record w { taken = but_first w.taken; stage = stage_left (but_first w.taken) }
after_drop stage w = w

-- ---- its next step

-- this step comes next
abbrev pub IsNext : WalkValue → Step → Type 0
IsNext w Flag = w.stage ≡ unbegun
IsNext w Sequence = w.stage ≡ at entered
IsNext w (Read page) = (w.stage ≡ at ready) × (length w.taken < w.n) × (page ≡ next_page w)
IsNext w (Grab page path e) = w.stage ≡ at (read page (tables_on path) e)
IsNext w (Recheck page path e) = w.stage ≡ at (grabbed page (tables_on path) e)
IsNext w (Mark page e) = w.stage ≡ at (rechecked page e)
IsNext w Again = MayReadAgain w w.stage
IsNext w (Drop f) = dropped_at w.stage w.taken ≡ Some f
IsNext w Nothing = w.stage ≡ left

-- ---- its core events, of actor a and process p

abbrev pub leaves_if : (over : Bool) → (a p : ℕ) → Want → (sequence : ℕ) → List CoreEvent
leaves_if over a p want sequence = if over then leave_walk a p want.write want.long sequence ∷ [] else []

abbrev pub flags : (a p : ℕ) → WalkValue → List CoreEvent
flags a p w = raise_flag a p ∷ enter_walk a p w.want.write w.want.long ∷ []

abbrev pub reads_sequence : (a p sequence : ℕ) → WalkValue → List CoreEvent
reads_sequence a p sequence w =
    read_sequence a p w.want.write w.want.long sequence ∷ leaves_if (is_odd sequence) a p w.want sequence

abbrev pub grabs : (a p page count : ℕ) → (path : List ℕ) → Entry → WalkValue → List CoreEvent
grabs a p page zero path e w = miss_frame a p w.want.write w.want.long w.sequence page path e ∷ []
grabs a p page (suc n) path e w = grab_frame a p w.want.write w.want.long w.sequence page path e ∷ []

abbrev pub rechecks_entry : (a p page : ℕ) → (path : List ℕ) → Entry → (same : Bool) → WalkValue → List CoreEvent
rechecks_entry a p page path e true w = recheck_same a p w.want.write w.want.long w.sequence page path e ∷ []
rechecks_entry a p page path e false w = recheck_other a p w.want.write w.want.long w.sequence page path e ∷ []

abbrev pub rechecks : (a p page : ℕ) → (path : List ℕ) → Entry → (leads same : Bool) → WalkValue → List CoreEvent
rechecks a p page path e leads same w =
    recheck_above a p w.want.write w.want.long w.sequence page path e leads
    ∷ (if leads then rechecks_entry a p page path e same w else [])

-- nothing is left to be dropped
abbrev pub is_none_left : List ℕ → Bool
is_none_left [] = true
is_none_left (f ∷ taken) = false

abbrev pub reads_again : (a p now : ℕ) → WalkStep → WalkValue → List CoreEvent
reads_again a p now step w =
    read_again a p w.want.write w.want.long w.sequence step now
    ∷ leaves_if ((now == w.sequence) || is_none_left w.taken) a p w.want w.sequence

abbrev pub drops_first : (a p : ℕ) → WalkValue → List Taken → List CoreEvent
drops_first a p w [] = []
drops_first a p w (t ∷ rest) =
    drop_first a p w.want.write w.want.long w.sequence t rest
    ∷ leaves_if (is_none_left (taken_frames rest)) a p w.want w.sequence

-- the same pages with one more at the front
abbrev pub one_before : Taken → Option (List Taken × Taken) → Option (List Taken × Taken)
one_before t None = None
one_before t (Some (rest, last)) = Some (t ∷ rest, last)

-- the pages but the last, and the last
abbrev pub split_last : List Taken → Option (List Taken × Taken)
split_last [] = None
split_last (t ∷ []) = Some ([], t)
split_last (t ∷ u ∷ taken) = one_before t (split_last (u ∷ taken))

abbrev pub drops_last : (a p : ℕ) → WalkValue → Option (List Taken × Taken) → List CoreEvent
drops_last a p w None = []
drops_last a p w (Some (rest, last)) = drop_last a p w.want.write w.want.long w.sequence rest last ∷ []

-- of the pages that the actor has taken
abbrev pub drops : (a p : ℕ) → WalkValue → Stage → List Taken → List CoreEvent
drops a p w (at (differed f)) taken = drop_grab a p w.want.write w.want.long w.sequence f ∷ []
drops a p w (at refused) taken = drops_last a p w (split_last taken)
drops a p w (at dropping) taken = drops_first a p w taken
drops a p w stage taken = []

-- ---- what it is to a state

abbrev pub job_at : (p : ℕ) → WalkValue → Stage → Job
job_at p w (at step) = walking p w.want.write w.want.long w.sequence step
job_at p w stage = idle

-- the state has this walk, of actor a and process p
pub record ShowsWalk (a p : ℕ) (w : WalkValue) (s : CoreState) : Type 0 where
  pub job : s.job a ≡ job_at p w w.stage
  pub taken : taken_frames (s.taken a) ≡ w.taken

-- how many walks run after a step of one of them that leads there
abbrev pub walks_left : Stage → (walks : ℕ) → ℕ
walks_left left walks = walks - 1
walks_left stage walks = walks

-- how many run after a step that leads from one stage to another: one more where this walk has begun, one less where it
-- is over
abbrev pub walks_after : (old new : Stage) → (walks : ℕ) → ℕ
walks_after (at step) new walks = walks_left new walks
walks_after unbegun (at step) walks = walks + 1
walks_after old new walks = walks

-- the process, when that has been counted
abbrev pub counted_in : (space : SpaceValue) → (old new : Stage) → (walks : ℕ) → SpaceValue
counted_in space old new walks = record space { walks = walks_after old new walks }

-- and after a step of a walk that runs, which leads there
abbrev pub left_in : (space : SpaceValue) → Stage → (walks : ℕ) → SpaceValue
left_in space new walks = record space { walks = walks_left new walks }

-- In whatever state the frames, the process and the walk stand, and whoever holds a lock: these events of its actor lead from
-- what was to what is. How many walks run in the process is the caller's to count.
abbrev pub AreWalkEvents : Change → (old new : WalkValue) → (events : CoreState → (a p : ℕ) → List CoreEvent) → Type 0
AreWalkEvents k old new events =
    (s : CoreState) (a p : ℕ) → ShowsFrames k.old_frames s → ShowsSpace p k.old_space s → ShowsWalk a p old s
    → ShowsFrames k.new_frames (run s (events s a p))
    × ShowsSpace p (counted_in k.new_space old.stage new.stage k.old_space.walks) (run s (events s a p))
    × ShowsWalk a p new (run s (events s a p))

-- ---- what is true of every walk

-- the walk is at a page of its pin, which it has not taken yet
pub record IsAhead (w : WalkValue) (page : ℕ) : Type 0 where
  pub here : page ≡ next_page w
  pub more : length w.taken < w.n

-- and at its last one that it has taken
pub record IsTakenLast (w : WalkValue) (page : ℕ) (e : Entry) : Type 0 where
  pub here : page + 1 ≡ next_page w
  pub frame : last_of w.taken ≡ Some e.frame

abbrev pub FitsStage : WalkValue → Stage → Type 0
FitsStage w unbegun = (w.taken ≡ []) × (w.sequence ≡ 0)
FitsStage w (at entered) = w.taken ≡ []
FitsStage w (at (reading page path)) = ⊥
FitsStage w (at (read page path e)) = IsAhead w page
FitsStage w (at (grabbed page path e)) = IsAhead w page
FitsStage w (at (rechecked page e)) = IsTakenLast w page e
FitsStage w (at refused) = 0 < length w.taken
FitsStage w (at dropping) = 0 < length w.taken
FitsStage w stage = Unit {0}

pub record IsWalk (w : WalkValue) : Type 0 where
  pub some : 1 ≤ w.n
  pub most : w.n ≤ 16
  pub range : w.page + w.n ≤ 2 ^ 35
  pub few : length w.taken ≤ w.n
  pub fits : FitsStage w w.stage
