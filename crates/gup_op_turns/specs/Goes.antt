-- What a turn of an operation is over among all that the machine has, and what it needs of that.
use Rattle.std.specs.Prelude.{◌≡◌, ℕ, ◌+◌, ◌==◌, ◌<◌, ◌^◌, ◌&&◌, Bool, true, length, slice_get, List, Option, Some, None}
use Rattle.arrayvec.specs.ArrayVec.{ArrayVec}
use Rattle.gup_base.specs.declared.entry.Want.{Want}
use Rattle.gup_script.specs.Valid.{IsOp, made_by}
use Rattle.gup_base.specs.declared.entry.Zone.{Zone}
use Rattle.gup_script.specs.declared.op.Op.{Op}
use Rattle.gup_script.specs.declared.op.Op.TheVariants.{Pin, Take, Mirror, Look, Move, Fork}
use Rattle.gup_frames.specs.Frames.{FramesValue, frames_of}
use Rattle.gup_space.specs.Space.{SpaceParts, space_of}
use Rattle.gup_handles.specs.Handles.{handles_of, unmade, IsGivenTo as IsKeptFor}
use Rattle.gup_spec_events.specs.State.{CoreState, Taken}
use Rattle.gup_law_base.specs.Sound.{IsSound}
use Rattle.gup_spec_journal.specs.Place.{Doer}
use Rattle.gup_spec_events.specs.Event.{run}
use Rattle.gup_spec_turns.specs.Turn.{own_turn, turn_of}
use Rattle.gup_spec_turns.specs.Waits.{waiting_for}
use Rattle.gup_law_turns.specs.Slots.{EmptiesSlots}
use Rattle.gup_law_tables.specs.Standing.{TablesStand, IsSomewhere}
use Rattle.gup_tables.specs.Pool.{PoolValue}
use Rattle.gup_space.specs.Shows.{ShowsPool}
use Rattle.gup_spec_events.specs.Invariant.{AllCan}
use Rattle.gup_notify.specs.Mirrors.{MirrorsValue}
use Rattle.gup_notify.specs.Shows.{ShowsMirrors}
use Rattle.gup_spec_turns.specs.JobPlace.{JobPlace as Place, place_in}
use Rattle.gup_op_base.specs.declared.jobs.JobPlace.{JobPlace}
use Rattle.gup_op_base.specs.Far.{HasFar, far_in}
use Rattle.gup_op_base.specs.Jobs.{place_of}
use Rattle.gup_op_fork.specs.Forked.{IsReadyAt}
use Rattle.gup_op_pins.specs.Pins.{IsReferred, IsWeighed}
use Rattle.gup_op_move.specs.Moving.{IsReadyToMove}
use Rattle.gup_op_pins.specs.Pins.{IsReadyToPin, IsCountedWalk, IsWithinPin, EndAt, last_page}
use Rattle.gup_op_pins.specs.Held.{slots_in}
use Rattle.gup_op_base.specs.Tidy.{IsTidy, needs_table}
use Rattle.gup_op_waits.specs.declared.births.Birth.{Birth}
use Rattle.gup_op_waits.specs.declared.parts.Parts.{Parts}
use Rattle.gup_op_waits.specs.Doers.{HasProcess, IsProcessOf}
use Rattle.gup_op_waits.specs.Parts.{EachSpace, ShowsParts}
use Rattle.gup_op_waits.specs.Stands.{StandsAt}

-- The parts of a machine, where the job of an actor stands, and where those of others do and what they have taken.
pub record AllView : Type 0 where
  pub parts : Parts
  pub job : JobPlace
  pub others : ℕ → Place
  pub left : ℕ → List Taken

abbrev pub all_view : Parts → JobPlace → (others : ℕ → Place) → (left : ℕ → List Taken) → AllView
all_view parts job others left = record { parts = parts; job = job; others = others; left = left }

-- a pin's walk that drops its pages has those left that end where its job says
abbrev pub EndsAt : Op → JobPlace → List Taken → Type 0
EndsAt (Pin handle page n want fast) job taken = EndAt (last_page job) taken
EndsAt op job taken = Unit {0}

-- the state has all that, of actor a that does this operation
pub record ShowsAll (a : ℕ) (op : Op) (view : AllView) (s : CoreState) : Type 0 where
  pub parts : ShowsParts view.parts s
  pub job : place_of view.job ≡ place_in s a
  pub ends : EndsAt op view.job (s.taken a)
  pub others : (b : ℕ) → (b ≡ a → ⊥) → place_in s b ≡ view.others b
  pub left : (b : ℕ) → (b ≡ a → ⊥) → s.taken b ≡ view.left b

-- the state is sound, and actor a, which waits for nothing, stands there before a turn of the operation
pub record StandsFree (a : ℕ) (who : Doer) (far : ℕ) (op : Op) (s : CoreState) : Type 0 where
  pub sound : IsSound s
  pub at : StandsAt s a who.proc far op
  pub free : waiting_for s who far op ≡ None

-- the same, where the state has these mirror slots
pub record StandsWith (mirrors : MirrorsValue) (a : ℕ) (who : Doer) (far : ℕ) (op : Op) (s : CoreState) : Type 0 where
  pub free : StandsFree a who far op s
  pub slots : ShowsMirrors mirrors s

-- the store of the actor has so many slots
abbrev pub HasSlots : Parts → (a slots : ℕ) → Type 0
HasSlots parts a slots = (store : Option (List ℕ)) → slice_get parts.stores.items a ≡ Some store → slots_in store ≡ slots

-- the parts and the free page tables
pub record WholeView : Type 0 where
  pub all : AllView
  pub pool : PoolValue

abbrev pub whole_view : AllView → PoolValue → WholeView
whole_view all pool = record { all = all; pool = pool }

-- the state has all that
pub record ShowsWhole (a : ℕ) (op : Op) (view : WholeView) (s : CoreState) : Type 0 where
  pub all : ShowsAll a op view.all s
  pub pool : ShowsPool view.pool s

-- From each such state the operation's own turn, if it empties the slots which it is to empty, leads to one that has the new ones.
abbrev pub TakesOwnMirrors : (parts : Parts) → (a : ℕ) → (proc : Option ℕ) → (far : ℕ) → Op → JobPlace → (old new : MirrorsValue) → Type 0
TakesOwnMirrors parts a proc far op job old new =
    (s : CoreState) (who : Doer) (k : ℕ) (others : ℕ → Place) (left : ℕ → List Taken) → who.actor ≡ a → IsProcessOf who proc
    → far ≡ far_in (Some op) k → ShowsAll a op (all_view parts job others left) s → StandsWith old a who k op s
    → EmptiesSlots s (Some op) (own_turn s who k op) → ShowsMirrors new (run s (own_turn s who k op).events)

-- and so does the turn with the tables that it changes
abbrev pub TakesMirrors : (parts : Parts) → PoolValue → (a : ℕ) → (proc : Option ℕ) → (far : ℕ) → Op → JobPlace → (old new : MirrorsValue) → Type 0
TakesMirrors parts pool a proc far op job old new =
    (s : CoreState) (who : Doer) (k : ℕ) (others : ℕ → Place) (left : ℕ → List Taken) → who.actor ≡ a → IsProcessOf who proc
    → far ≡ far_in (Some op) k → ShowsWhole a op (whole_view (all_view parts job others left) pool) s → StandsWith old a who k op s
    → EmptiesSlots s (Some op) (turn_of s who k op) → ShowsMirrors new (run s (turn_of s who k op).events)

-- A state that has all that, from which the actor's turn can be taken: each of its page tables is free or of one process, and there
-- are none but the pool's.
pub record IsFrom (parts : Parts) (pool : PoolValue) (mirrors : MirrorsValue) (a : ℕ) (proc : Option ℕ) (far : ℕ) (op : Op) (job : JobPlace) : Type 0 where
  pub state : CoreState
  pub who : Doer
  pub k : ℕ
  pub others : ℕ → Place
  pub left : ℕ → List Taken
  pub actor : who.actor ≡ a
  pub process : IsProcessOf who proc
  pub slots : HasSlots parts a who.slots
  pub gone : far ≡ far_in (Some op) k
  pub shown : ShowsWhole a op (whole_view (all_view parts job others left) pool) state
  pub stands : StandsWith mirrors a who k op state
  pub tables : TablesStand state
  pub few : (table : ℕ) → IsSomewhere state table → table < pool.tables
  pub can : AllCan state (turn_of state who k op).events

-- an operation that neither fills a mirror slot nor looks through one
abbrev pub IsNoMirror : Op → Type 0
IsNoMirror (Mirror mirror proc page) = ⊥
IsNoMirror (Look mirror word) = ⊥
IsNoMirror op = Unit {0}

-- What a turn of actor a's fork of process p into this child needs: they are two processes, and what is true between two
-- turns.
pub record IsForkReady (frames : FramesValue) (spaces : List SpaceParts) (births : List Birth) (a p child : ℕ) (fork : JobPlace) : Type 0 where
  pub apart : p ≡ child → ⊥
  pub there : child < length spaces
  pub declared : child < length births
  pub few_forks : EachSpace (λ space. space.sequence < 2 ^ 40) spaces
  pub stands : (parent kid : SpaceParts) → slice_get spaces p ≡ Some parent → slice_get spaces child ≡ Some kid → IsReadyAt frames a (place_of fork) (space_of parent) (space_of kid)

-- each store has as many slots as before
abbrev pub KeepsSlots : (old new : List (Option (List ℕ))) → Type 0
KeepsSlots old new =
    (a : ℕ) (was now : Option (List ℕ)) → slice_get old a ≡ Some was → slice_get new a ≡ Some now → slots_in now ≡ slots_in was

-- an operation that is never in the middle of anything, and takes no pages: no pin, no move and no fork
abbrev pub IsSingle : Op → Type 0
IsSingle (Pin handle page n want fast) = ⊥
IsSingle (Move q page zone) = ⊥
IsSingle (Fork child) = ⊥
IsSingle op = Unit {0}

-- What a turn of an operation needs that has gone so far, and whose job stands there: its numbers are in range, it is of
-- process p where it is of one, each process is tidy, counts are small and so are the walks that run, a pin that walks is one of
-- these, nobody holds a lock that it needs, pins have the weight of their pages and references that of theirs, and the handle
-- that it makes is unmade.
pub record IsReady (parts : Parts) (a p : ℕ) (op : Op) (gone : ℕ) (place : JobPlace) : Type 0 where
  pub there : HasProcess op → p < length parts.spaces.items
  pub tidy : EachSpace (IsTidy (frames_of parts.frames)) parts.spaces.items
  pub few_counts : (f : ℕ) → (frames_of parts.frames).count f < 2 ^ 40
  pub table : (space : SpaceParts) → slice_get parts.spaces.items p ≡ Some space → IsSingle op → needs_table (space_of space) op ≡ true → (space_of space).table ≡ None
  pub in_range : IsOp op
  pub far : HasFar op gone
  pub fork : (child : ℕ) → op ≡ Fork child → IsForkReady (frames_of parts.frames) parts.spaces.items parts.births.items a p child place
  pub move : (q page : ℕ) (zone : Zone) (space : SpaceParts) → op ≡ Move q page zone → slice_get parts.spaces.items p ≡ Some space → IsReadyToMove (frames_of parts.frames) page (place_of place) (space_of space)
  pub weighed : (h : ℕ) → IsWeighed (frames_of parts.frames) (handles_of parts.handles h)
  pub referred : (h : ℕ) → IsReferred (frames_of parts.frames) (handles_of parts.handles h)
  pub yet : (handle : ℕ) → made_by op ≡ Some handle → handles_of parts.handles handle ≡ unmade
  pub taken : (pages : ArrayVec ℕ) (handle page n : ℕ) (want : Want) (fast : Bool) → slice_get parts.taken.items a ≡ Some pages → op ≡ Pin handle page n want fast → IsWithinPin n (length pages.items) (place_of place)
  pub pin : (space : SpaceParts) (pages : ArrayVec ℕ) (handle page n : ℕ) (want : Want) (fast : Bool) → op ≡ Pin handle page n want fast → slice_get parts.spaces.items p ≡ Some space → slice_get parts.taken.items a ≡ Some pages → IsReadyToPin (frames_of parts.frames) pages.items (page + length pages.items) n want (fast && gone == 0) (place_of place) (space_of space)
  pub few_walks : EachSpace (λ space. space.walks < 2 ^ 40) parts.spaces.items
  pub walk : (space : SpaceParts) (handle page n : ℕ) (want : Want) (fast : Bool) → op ≡ Pin handle page n want fast → slice_get parts.spaces.items p ≡ Some space → IsCountedWalk (place_of place) (space_of space)
  pub given : (handle : ℕ) → op ≡ Take handle → IsKeptFor (handles_of parts.handles handle) a
  pub actor_taken : a < length parts.taken.items
  pub actor_store : a < length parts.stores.items
