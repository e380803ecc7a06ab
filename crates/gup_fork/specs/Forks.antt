-- What a step of a fork does to frames, to the parent and to its child.
use Rattle.std.specs.Prelude.{◌≡◌, ℕ, ◌+◌, ◌-◌, ◌==◌, ◌&&◌, ◌||◌, nat_le, nat_lt, if◌then◌else◌, Bool, false, List, [], ◌∷◌, Option, Some, None, zero, suc}
use Rattle.gup_base.specs.declared.entry.Entry.{Entry}
use Rattle.gup_plain.specs.Event.{page_numbers}
use Rattle.gup_plain.specs.Pages.{mapped_pages}
use Rattle.gup_frames.specs.Frames.{FramesValue, FrameLists, frames_of, with_mark, with_references, without_references}
use Rattle.gup_space.specs.Shows.{ShowsFrames, ShowsSpace}
use Rattle.gup_space.specs.Space.{SpaceValue, SpaceParts, space_of, with_entry}
use Rattle.gup_spec_events.specs.State.{CoreState, ForkStep, between}
use Rattle.gup_spec_events.specs.Event.{CoreEvent, bias, entry_of, share_entry, share_mark, share_child, run}

-- frames, a parent and its child, before a call and after it
pub record ForkChange : Type 0 where
  pub old_frames : FramesValue
  pub new_frames : FramesValue
  pub old_parent : SpaceValue
  pub new_parent : SpaceValue
  pub old_child : SpaceValue
  pub new_child : SpaceValue

abbrev pub fork_change_of : (old_frames new_frames : FrameLists) → (old_parent new_parent old_child new_child : SpaceParts) → ForkChange
fork_change_of old_frames new_frames old_parent new_parent old_child new_child =
    record {
      old_frames = frames_of old_frames;
      new_frames = frames_of new_frames;
      old_parent = space_of old_parent;
      new_parent = space_of new_parent;
      old_child = space_of old_child;
      new_child = space_of new_child;
    }

-- the same, where the parent's structure lock, or its table lock, is held so after it
abbrev pub with_structure : Option ℕ → ForkChange → ForkChange
with_structure holder k = record k { new_parent = record k.new_parent { structure = holder } }

abbrev pub with_table : Option ℕ → ForkChange → ForkChange
with_table holder k = record k { new_parent = record k.new_parent { table = holder } }

-- In whatever state they stand, as two processes: these events lead from what was to what is.
abbrev pub AreForkEvents : ForkChange → (events : (p c : ℕ) → List CoreEvent) → Type 0
AreForkEvents k events =
    (s : CoreState) (p c : ℕ) → (p ≡ c → ⊥)
    → ShowsFrames k.old_frames s → ShowsSpace p k.old_parent s → ShowsSpace c k.old_child s
    → ShowsFrames k.new_frames (run s (events p c)) × ShowsSpace p k.new_parent (run s (events p c))
    × ShowsSpace c k.new_child (run s (events p c))

-- the child has its parent's mappings, and as many pages as have rights in them
abbrev pub with_maps_of : (parent child : SpaceValue) → SpaceValue
with_maps_of parent child = record child { right = parent.right; pages = mapped_pages parent.right }

-- a frame that the fork copies: it is exclusive, the process has pinned, and it may be pinned
abbrev pub copies_frame : FramesValue → SpaceValue → (f : ℕ) → Bool
copies_frame frames parent f = frames.mark f && (parent.has_pinned && nat_le bias (frames.count f))

-- the events of a share
abbrev pub shares : (a p c : ℕ) → List ℕ → (page : ℕ) → Entry → List CoreEvent
shares a p c done page e =
    share_entry a p c done page e.frame e.writable ∷ share_mark a p c done page e.frame false
    ∷ share_child a p c done page e.frame false ∷ []

-- the frame of a shared page: it loses its mark and gains a reference
abbrev pub shared : (f : ℕ) → FramesValue → FramesValue
shared f frames = with_references f 1 (with_mark f false frames)

-- parent and child have read-only entries of that frame
abbrev pub with_shared : (page f : ℕ) → SpaceValue → SpaceValue
with_shared page f space = with_entry page (Some (entry_of f false)) space

-- ---- a fork that fails

-- the frame of a page's entry has a reference less
abbrev pub without_entry : Option Entry → FramesValue → FramesValue
without_entry None frames = frames
without_entry (Some e) frames = without_references e.frame 1 frames

-- the frames of the n pages from the first on that have an entry have a reference less for each
abbrev pub without_entries : (ℕ → Option Entry) → (first n : ℕ) → FramesValue → FramesValue
without_entries entry first zero frames = frames
without_entries entry first (suc n) frames = without_entries entry (first + 1) n (without_entry (entry first) frames)

-- the frame is that of the entry
abbrev pub is_entry_of : Option Entry → (f : ℕ) → Bool
is_entry_of None f = false
is_entry_of (Some e) f = e.frame == f

-- how many of the n pages from the first on have an entry of the frame
abbrev pub entries_of : (ℕ → Option Entry) → (first n f : ℕ) → ℕ
entries_of entry first zero f = 0
entries_of entry first (suc n) f =
    (if is_entry_of (entry first) f then 1 else 0) + entries_of entry (first + 1) n f

-- Each frame has as many references less as the child has entries of it, and its mark goes with the last reference. No word
-- changes.
abbrev pub given_back : (ℕ → Option Entry) → FramesValue → FramesValue
given_back entry frames =
    record frames {
      count = λ f. frames.count f - entries_of entry 0 page_numbers f;
      mark = λ f. frames.mark f && (frames.count f == 0 || nat_lt (entries_of entry 0 page_numbers f) (frames.count f));
    }

-- who holds the parent's table lock after a failure at this step: a fork that is within a page has it, and gives it back
abbrev pub table_behind : ForkStep → Option ℕ → Option ℕ
table_behind between holder = holder
table_behind step holder = None

-- no page is mapped
abbrev pub without_maps : SpaceValue → SpaceValue
without_maps space = record space { right = λ _. None; pages = 0 }

-- no page is mapped, and none has an entry; its page tables stay
abbrev pub emptied : SpaceValue → SpaceValue
emptied space = record (without_maps space) { entry = λ _. None }
