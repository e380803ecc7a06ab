-- What the events of a move make of frames and of the process whose page is moved.
use Rattle.std.specs.Prelude.{◌≡◌, ℕ, List, [], ◌∷◌, Some, None}
use Rattle.gup_base.specs.declared.entry.Allowed.{Allowed}
use Rattle.gup_base.specs.declared.entry.Entry.{Entry}
use Rattle.gup_frames.specs.Frames.{FramesValue, taken, copied, with_mark, without_references}
use Rattle.gup_space.specs.Shows.{Change}
use Rattle.gup_space.specs.Space.{SpaceValue, with_entry}
use Rattle.gup_spec_events.specs.State.{Counted}
use Rattle.gup_spec_events.specs.Event.{CoreEvent, take_frame, put_entry, clear_entry, count_moved, place_frame, restore_entry, entry_of}

-- the event is one of a move of a page of process p
pub data IsMoveEvent (p : ℕ) : CoreEvent → Type 0 where
  clearing : (a page : ℕ) (e : Entry) (allowed : Allowed) → IsMoveEvent p (clear_entry a p page e allowed)
  counting : (a page : ℕ) (e : Entry) (allowed : Allowed) (count : ℕ) → IsMoveEvent p (count_moved a p page e allowed count)
  taking : (a f : ℕ) → IsMoveEvent p (take_frame a f)
  placing : (a page f : ℕ) (e : Entry) (allowed : Allowed) → IsMoveEvent p (place_frame a p page f e allowed)
  putting : (a f : ℕ) → IsMoveEvent p (put_entry a f)
  restoring : (a page : ℕ) (e : Entry) (allowed : Allowed) (count : Counted) → IsMoveEvent p (restore_entry a p page e allowed count)

-- each of them is
abbrev pub AreOfMove : (p : ℕ) → List CoreEvent → Type 0
AreOfMove p [] = Unit {0}
AreOfMove p (e ∷ es) = IsMoveEvent p e × AreOfMove p es

-- the frames and the process after such an event
abbrev pub frames_behind : CoreEvent → FramesValue → FramesValue
frames_behind (take_frame a f) frames = taken f frames
frames_behind (place_frame a p page f e allowed) frames = copied e.frame f (with_mark f (frames.mark e.frame) frames)
frames_behind (put_entry a f) frames = without_references f 1 frames
frames_behind e frames = frames

abbrev pub space_behind : CoreEvent → SpaceValue → SpaceValue
space_behind (clear_entry a p page e allowed) space = record (with_entry page None space) { table = Some a }
space_behind (place_frame a p page f e allowed) space =
    record (with_entry page (Some (entry_of f e.writable)) space) { table = None }
space_behind (restore_entry a p page e allowed count) space = record (with_entry page (Some e) space) { table = None }
space_behind e space = space

-- and after a list of them
abbrev pub all_frames_behind : List CoreEvent → FramesValue → FramesValue
all_frames_behind [] frames = frames
all_frames_behind (e ∷ es) frames = all_frames_behind es (frames_behind e frames)

abbrev pub all_space_behind : List CoreEvent → SpaceValue → SpaceValue
all_space_behind [] space = space
all_space_behind (e ∷ es) space = all_space_behind es (space_behind e space)

-- The events, each of them of the move, lead from what was before a call to what is after it.
pub record IsMadeByMove (k : Change) (p : ℕ) (es : List CoreEvent) : Type 0 where
  pub own : AreOfMove p es
  pub frames : k.new_frames ≡ all_frames_behind es k.old_frames
  pub space : k.new_space ≡ all_space_behind es k.old_space
