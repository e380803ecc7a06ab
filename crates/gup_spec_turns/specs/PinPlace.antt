-- Where a pin stands between two turns.
use Rattle.std.specs.Prelude.{◌≡◌, ℕ, ◌+◌, ◌-◌, ◌*◌, ◌<◌, ◌≤◌, Bool, true, List, length, slice_get, Option, Some, None}
use Rattle.gup_base.specs.declared.entry.Entry.{Entry}
use Rattle.gup_base.specs.declared.entry.Want.{Want}
use Rattle.gup_plain.specs.Denial.{pin_denial}
use Rattle.gup_plain.specs.State.{unmade}
use Rattle.gup_script.specs.declared.op.Op.{Op}
use Rattle.gup_script.specs.declared.op.Op.TheVariants.{Pin}
use Rattle.gup_spec_events.specs.State.{CoreState, Taken, Job, idle, moving, unread, walking, WalkStep, entered, ready, reading, read, grabbed, rechecked, differed, refused, stopped, dropping, over}
use Rattle.gup_spec_turns.specs.CoreTurn.{zones_of}
use Rattle.gup_spec_turns.specs.Cost.{pin_turns, walk_turns}
use Rattle.gup_spec_turns.specs.JobPlace.{IsCount, IsMoving}

-- an actor that has no pin to do has taken no page
abbrev pub IsNoPin : Option Op → Type 0
IsNoPin (Some (Pin handle page n want fast)) = ⊥
IsNoPin op = Unit {0}

-- the pages that a pin of process p has taken are the first ones of it, so many
abbrev pub IsTakenPage : (p page : ℕ) → Want → (k : ℕ) → Taken → Type 0
IsTakenPage p page want k t = (t.proc ≡ p) × (t.page ≡ page + k) × (t.write ≡ want.write) × (t.long ≡ want.long)

pub record HasTaken (p page : ℕ) (want : Want) (got : ℕ) (taken : List Taken) : Type 0 where
  pub many : length taken ≡ got
  pub each : (k : ℕ) (t : Taken) → slice_get taken k ≡ Some t → IsTakenPage p page want k t

-- A long pin of actor a is in the middle of a move of this page of process p, which has pinned; nobody forks it. The page is
-- ready: its rights allow the pin, and so does the entry that was cleared, whose frame is marked.
pub record IsMovingPin (s : CoreState) (a p page : ℕ) (want : Want) (e : Entry) : Type 0 where
  pub long : want.long ≡ true
  pub moving : IsMoving s a p page
  pub unforked : s.structure p ≡ None
  pub flag : s.has_pinned p ≡ true
  pub undenied : pin_denial want.write (s.right p page) ≡ None
  pub marked : s.mark e.frame ≡ true
  pub may : want.write ≡ true → e.writable ≡ true

-- where the walk of a pin of n pages stands, which has taken so many, the next one after which is this page
abbrev pub IsAtStep : (page n got : ℕ) → WalkStep → Type 0
IsAtStep page n got entered = got ≡ 0
IsAtStep page n got ready = Unit {0}
IsAtStep page n got (reading g path) = ⊥
IsAtStep page n got (read g path e) = (g ≡ page) × (got < n)
IsAtStep page n got (grabbed g path e) = (g ≡ page) × (got < n)
IsAtStep page n got (rechecked g e) = (0 < got) × (g + 1 ≡ page)
IsAtStep page n got (differed f) = got < n
IsAtStep page n got refused = 0 < got
IsAtStep page n got stopped = got < n
IsAtStep page n got dropping = 0 < got
IsAtStep page n got over = ⊥

-- the frame of an entry that a walk has read is one of the machine
abbrev pub IsReadThere : CoreState → WalkStep → Type 0
IsReadThere s (read g path e) = e.frame < s.movable + s.normal
IsReadThere s step = Unit {0}

-- the walk is one of this pin of process p, which has pinned; before it reads the sequence, that is 0
pub record IsWalkingPin (s : CoreState) (p page n got : ℕ) (want : Want) (fast : Bool) (q : ℕ) (write long : Bool) (sequence : ℕ) (step : WalkStep) : Type 0 where
  pub walks : fast ≡ true
  pub of : q ≡ p
  pub writes : write ≡ want.write
  pub keeps : long ≡ want.long
  pub flag : s.has_pinned p ≡ true
  pub unread : step ≡ entered → sequence ≡ 0
  pub here : IsAtStep page n got step
  pub there : IsReadThere s step

-- where a pin of n pages stands that has taken so many, by the job of its actor; the next one is this page
abbrev pub StandsAtPage : CoreState → (a p page n got : ℕ) → Want → (fast : Bool) → Job → Type 0
StandsAtPage s a p page n got want fast idle = Unit {0}
StandsAtPage s a p page n got want fast (moving q g e allowed count) =
    (q ≡ p) × (g ≡ page) × (allowed ≡ zones_of want) × IsCount count × IsMovingPin s a p page want e
StandsAtPage s a p page n got want fast (walking q write long sequence step) =
    IsWalkingPin s p page n got want fast q write long sequence step
StandsAtPage s a p page n got want fast job = ⊥

-- all pages are taken in a walk alone
abbrev pub IsWithin : (n got : ℕ) → Job → Type 0
IsWithin n got (walking q write long sequence step) = got ≤ n
IsWithin n got job = got < n

-- the pages that are taken are the first ones, but where a walk drops them from the first one on
abbrev pub HasPages : (p page : ℕ) → Want → (got : ℕ) → List Taken → Job → Type 0
HasPages p page want got taken (walking q write long sequence dropping) =
    (dropped : ℕ) × HasTaken p (page + dropped) want got taken
HasPages p page want got taken job = HasTaken p page want got taken

-- how many turns are over of a page that a pin moves first, and of its walk at least
abbrev pub turns_over : Job → ℕ
turns_over (moving q g e allowed unread) = 1
turns_over (moving q g e allowed count) = 2
turns_over (walking q write long sequence step) = 1
turns_over job = 0

-- How many turns of a pin of n pages are over at most, which has taken so many, by the job of its actor: of one that walks, by the
-- step of its walk, or those of the whole walk and of its slow pages.
abbrev pub steps_over : (n got : ℕ) → WalkStep → ℕ
steps_over n got entered = 1
steps_over n got ready = 4 * got + 2
steps_over n got (reading g path) = 4 * got + 2
steps_over n got (read g path e) = 4 * got + 3
steps_over n got (grabbed g path e) = 4 * got + 4
steps_over n got (rechecked g e) = 4 * got + 1
steps_over n got (differed f) = 4 * got + 5
steps_over n got refused = 4 * got + 2
steps_over n got stopped = 4 * got + 7
steps_over n got dropping = walk_turns true n - got
steps_over n got over = walk_turns true n

abbrev pub most_over : (fast long : Bool) → (n got : ℕ) → Job → ℕ
most_over fast long n got (walking q write kept sequence step) = steps_over n got step
most_over fast long n got job = walk_turns fast n + pin_turns long got + turns_over job

-- a pin of n pages has got so many, stands at the next one, and its handle is yet to be made
pub record StandsPin (s : CoreState) (a p handle page n : ℕ) (want : Want) (fast : Bool) (got : ℕ) : Type 0 where
  pub within : IsWithin n got (s.job a)
  pub yet : s.handle handle ≡ unmade
  pub taken : HasPages p page want got (s.taken a) (s.job a)
  pub at : StandsAtPage s a p (page + got) n got want fast (s.job a)
