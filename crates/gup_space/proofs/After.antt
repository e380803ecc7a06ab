-- What the events of faults, mappings, pins, references and data make of frames and of one process.
use Rattle.std.specs.Prelude.{◌≡◌, ℕ, ◌-◌, ◌%◌, Bool, true, false, List, [], ◌∷◌, Option, Some, None}
use Rattle.gup_base.specs.declared.entry.Entry.{Entry}
use Rattle.gup_base.specs.declared.entry.Rights.{Rights}
use Rattle.gup_plain.specs.Event.{words}
use Rattle.gup_plain.specs.Put.{put}
use Rattle.gup_frames.specs.Frames.{FramesValue, taken, with_references, without_references, with_mark, with_word, copied}
use Rattle.gup_space.specs.Shows.{Change, unlocked}
use Rattle.gup_space.specs.Space.{SpaceValue, with_entry, with_rights, with_pages}
use Rattle.gup_spec_events.specs.Event.{CoreEvent, entry_of, take_frame, fill, count_one, set_mark, upgrade, break_entry, put_entry, drop_entry, discard_entry, map_pages, lower_entry, protect_pages, load, store, raise_flag, pin_page, make_handle, unpin_page, give_handle, take_handle, get_reference, put_reference, move_out, move_in, bias}

-- the event is one of faults, mappings, pins, references or data that concerns process p alone, or no process
pub data IsOf (p : ℕ) : CoreEvent → Type 0 where
  taking : (a f : ℕ) → IsOf p (take_frame a f)
  filling : (a page f : ℕ) → IsOf p (fill a p page f)
  counting : (a page f : ℕ) (writable : Bool) → IsOf p (count_one a p page f writable)
  marking_it : (a page f : ℕ) → IsOf p (set_mark a p page f)
  upgrading : (a page f : ℕ) → IsOf p (upgrade a p page f)
  breaking : (a page old new : ℕ) (was writable : Bool) → IsOf p (break_entry a p page old new was writable)
  putting : (a f : ℕ) → IsOf p (put_entry a f)
  dropping : (a page : ℕ) (was : Option Entry) → IsOf p (drop_entry a p page was)
  discarding : (a page : ℕ) (was : Option Entry) → IsOf p (discard_entry a p page was)
  mapping : (a page n : ℕ) (rights : Rights) → IsOf p (map_pages a p page n rights)
  lowering : (a page f : ℕ) → IsOf p (lower_entry a p page f)
  protecting : (a page n : ℕ) (rights : Rights) → IsOf p (protect_pages a p page n rights)
  loading : (a page word f value : ℕ) → IsOf p (load a p page word f value)
  storing : (a page word f value : ℕ) → IsOf p (store a p page word f value)
  flagging : (a : ℕ) → IsOf p (raise_flag a p)
  pinning : (a page : ℕ) (e : Entry) (write long : Bool) → IsOf p (pin_page a p page e write long)
  making : (a h : ℕ) → IsOf p (make_handle a h)
  unpinning : (a h f : ℕ) (left : List ℕ) → IsOf p (unpin_page a h f left)
  giving : (a h to : ℕ) → IsOf p (give_handle a h to)
  taking_over : (a h : ℕ) → IsOf p (take_handle a h)
  getting : (a page f k : ℕ) (writable : Bool) → IsOf p (get_reference a p page f k writable)
  putting_back : (a f k : ℕ) → IsOf p (put_reference a f k)
  moving_out : (a h index slot f value : ℕ) → IsOf p (move_out a h index slot f value)
  moving_in : (a h index slot f value : ℕ) → IsOf p (move_in a h index slot f value)

-- each of them is
abbrev pub AreOf : (p : ℕ) → List CoreEvent → Type 0
AreOf p [] = Unit {0}
AreOf p (e ∷ es) = IsOf p e × AreOf p es

-- the frames after such an event
abbrev pub frames_after : CoreEvent → FramesValue → FramesValue
frames_after (take_frame a f) frames = taken f frames
frames_after (fill a p page f) frames = with_mark f true frames
frames_after (set_mark a p page f) frames = with_mark f true frames
frames_after (break_entry a p page old new was writable) frames = with_mark new true (copied old new frames)
frames_after (put_entry a f) frames = without_references f 1 frames
frames_after (store a p page word f value) frames = with_word f word value frames
frames_after (pin_page a p page e write long) frames = with_references e.frame bias frames
frames_after (unpin_page a h f left) frames = without_references f bias frames
frames_after (get_reference a p page f k writable) frames = with_references f 1 frames
frames_after (put_reference a f k) frames = without_references f 1 frames
frames_after (move_in a h index slot f value) frames = with_word f (index % words) value frames
frames_after e frames = frames

-- the process after such an event of its own
abbrev pub space_after : CoreEvent → SpaceValue → SpaceValue
space_after (fill a p page f) space = with_entry page (Some (entry_of f false)) space
space_after (count_one a p page f writable) space = record space { table = Some a }
space_after (set_mark a p page f) space = record space { table = None }
space_after (upgrade a p page f) space = with_entry page (Some (entry_of f true)) space
space_after (break_entry a p page old new was writable) space = with_entry page (Some (entry_of new writable)) space
space_after (drop_entry a p page was) space =
    record (with_entry page None space) { right = put page None space.right; pages = space.pages - 1 }
space_after (discard_entry a p page was) space = with_entry page None space
space_after (map_pages a p page n rights) space = with_pages page n rights space
space_after (lower_entry a p page f) space = with_entry page (Some (entry_of f false)) space
space_after (protect_pages a p page n rights) space = with_rights page n rights space
space_after (raise_flag a p) space = record space { has_pinned = true }
space_after e space = space

-- and after a list of them
abbrev pub all_frames_after : List CoreEvent → FramesValue → FramesValue
all_frames_after [] frames = frames
all_frames_after (e ∷ es) frames = all_frames_after es (frames_after e frames)

abbrev pub all_space_after : List CoreEvent → SpaceValue → SpaceValue
all_space_after [] space = space
all_space_after (e ∷ es) space = all_space_after es (space_after e space)

-- a state that shows the one process shows the other as well
pub record IsShownAs (space other : SpaceValue) : Type 0 where
  pub right : (page : ℕ) → space.right page ≡ other.right page
  pub pages : space.pages ≡ other.pages
  pub entry : (page : ℕ) → space.entry page ≡ other.entry page
  pub sequence : space.sequence ≡ other.sequence
  pub has_pinned : space.has_pinned ≡ other.has_pinned
  pub structure : space.structure ≡ other.structure
  pub table : space.table ≡ other.table
  pub walks : space.walks ≡ other.walks
  pub place : space.place ≡ other.place
  pub retired : space.retired ≡ other.retired

-- The events, each of them of the one process, lead from what was before a call to what is after it, its table lock free
-- for both; the call left that lock as it was.
pub record IsMadeBy (c : Change) (p : ℕ) (es : List CoreEvent) : Type 0 where
  pub own : AreOf p es
  pub frames : c.new_frames ≡ all_frames_after es c.old_frames
  pub space : IsShownAs (all_space_after es (unlocked c.old_space)) (unlocked c.new_space)
  pub table : c.new_space.table ≡ c.old_space.table
