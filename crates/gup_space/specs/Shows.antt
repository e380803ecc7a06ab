-- What frames, a process and the free page tables are to a state of the core machine.
use Rattle.std.specs.Prelude.{◌≡◌, ℕ, true, List, None}
use Rattle.gup_frames.specs.Frames.{FramesValue, FrameLists, frames_of}
use Rattle.gup_tables.specs.Pool.{PoolValue}
use Rattle.gup_space.specs.Space.{SpaceValue, SpaceParts, space_of}
use Rattle.gup_spec_events.specs.State.{CoreState}
use Rattle.gup_spec_events.specs.Event.{CoreEvent, run}

-- The state has these frames, and its entries need page tables.
pub record ShowsFrames (frames : FramesValue) (s : CoreState) : Type 0 where
  pub movable : s.movable ≡ frames.movable
  pub normal : s.normal ≡ frames.normal
  pub count : (f : ℕ) → s.count f ≡ frames.count f
  pub mark : (f : ℕ) → s.mark f ≡ frames.mark f
  pub word : (f w : ℕ) → s.word f w ≡ frames.word f w
  pub needs_tables : s.needs_tables ≡ true

-- the state has this process as process p
pub record ShowsSpace (p : ℕ) (space : SpaceValue) (s : CoreState) : Type 0 where
  pub right : (page : ℕ) → s.right p page ≡ space.right page
  pub pages : s.pages p ≡ space.pages
  pub entry : (page : ℕ) → s.entry p page ≡ space.entry page
  pub sequence : s.sequence p ≡ space.sequence
  pub has_pinned : s.has_pinned p ≡ space.has_pinned
  pub structure : s.structure p ≡ space.structure
  pub table : s.table p ≡ space.table
  pub walks : s.walks p ≡ space.walks
  pub place : s.place p ≡ space.place
  pub retired : s.retired p ≡ space.retired

-- the state has these free page tables
abbrev pub ShowsPool : PoolValue → CoreState → Type 0
ShowsPool pool s = s.free_table ≡ pool.free

-- Frames and a process, before a call and after it.
pub record Change : Type 0 where
  pub old_frames : FramesValue
  pub new_frames : FramesValue
  pub old_space : SpaceValue
  pub new_space : SpaceValue

-- from these lists and parts to those
abbrev pub change_of : (old_frames new_frames : FrameLists) → (old_space new_space : SpaceParts) → Change
change_of old_frames new_frames old_space new_space =
    record {
      old_frames = frames_of old_frames;
      new_frames = frames_of new_frames;
      old_space = space_of old_space;
      new_space = space_of new_space;
    }

-- the process, its table lock free
abbrev pub unlocked : SpaceValue → SpaceValue
unlocked space = record space { table = None }

-- Whoever holds the table lock, or nobody, it stays so. And in whatever state the frames and the process stand, its table
-- lock free there, these events of an actor lead from what was to what is.
pub record AreEvents (c : Change) (events : (a p : ℕ) → List CoreEvent) : Type 0 where
  pub table : c.new_space.table ≡ c.old_space.table
  pub lead : (s : CoreState) (a p : ℕ) → ShowsFrames c.old_frames s → ShowsSpace p (unlocked c.old_space) s → ShowsFrames c.new_frames (run s (events a p)) × ShowsSpace p (unlocked c.new_space) (run s (events a p))
