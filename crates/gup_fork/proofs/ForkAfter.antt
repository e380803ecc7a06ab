-- What the events of a fork make of frames, of the parent and of its child.
use Rattle.std.specs.Prelude.{◌≡◌, ℕ, ◌+◌, Bool, true, false, if◌then◌else◌, List, [], ◌∷◌, Some, None}
use Rattle.gup_base.specs.declared.entry.Entry.{Entry}
use Rattle.gup_base.specs.declared.entry.Rights.{Rights}
use Rattle.gup_frames.specs.Frames.{FramesValue, with_mark, with_word, with_references, without_references}
use Rattle.gup_space.specs.Space.{SpaceValue, with_entry}
use Rattle.gup_space.proofs.After.{IsShownAs}
use Rattle.gup_spec_events.specs.State.{ForkStep}
use Rattle.gup_spec_events.specs.Event.{CoreEvent, begin_fork, count_page, share_entry, share_mark, share_child, copy_word, place_child, pass_page, end_fork, fail_fork, put_child, entry_of, is_writable}
use Rattle.gup_fork.specs.Forks.{ForkChange, with_maps_of, with_shared, table_behind, without_maps}

-- the event is one of a fork of process p into c by actor a
pub data IsForkEvent (a p c : ℕ) : CoreEvent → Type 0 where
  beginning : IsForkEvent a p c (begin_fork a p c)
  counting : (done : List ℕ) (page : ℕ) (entry : Entry) (copies : Bool) → IsForkEvent a p c (count_page a p c done page entry copies)
  lowering : (done : List ℕ) (page f : ℕ) (writable : Bool) → IsForkEvent a p c (share_entry a p c done page f writable)
  unmarking : (done : List ℕ) (page f : ℕ) (writable : Bool) → IsForkEvent a p c (share_mark a p c done page f writable)
  giving : (done : List ℕ) (page f : ℕ) (writable : Bool) → IsForkEvent a p c (share_child a p c done page f writable)
  passing : (done : List ℕ) (page : ℕ) → IsForkEvent a p c (pass_page a p c done page)
  ending : (done : List ℕ) → IsForkEvent a p c (end_fork a p c done)
  writing : (done : List ℕ) (page word to : ℕ) (entry : Entry) → IsForkEvent a p c (copy_word a p c done page word to entry)
  placing : (done : List ℕ) (page to : ℕ) (rights : Rights) → IsForkEvent a p c (place_child a p c done page to rights)
  failing_at : (done : List ℕ) (step : ForkStep) (ends : Bool) → IsForkEvent a p c (fail_fork a p c done step ends)
  putting : (done : List ℕ) (page : ℕ) (entry : Entry) (ends : Bool) → IsForkEvent a p c (put_child a p c done page entry ends)

-- each of them is
abbrev pub AreOfFork : (a p c : ℕ) → List CoreEvent → Type 0
AreOfFork a p c [] = Unit {0}
AreOfFork a p c (e ∷ es) = IsForkEvent a p c e × AreOfFork a p c es

-- the frames, the parent and the child after such an event
abbrev pub frames_behind : CoreEvent → FramesValue → FramesValue
frames_behind (share_mark a p c done page f writable) frames = with_mark f false frames
frames_behind (share_child a p c done page f writable) frames = with_references f 1 frames
frames_behind (copy_word a p c done page word to e) frames = with_word to word (frames.word e.frame word) frames
frames_behind (place_child a p c done page to rights) frames = with_mark to true frames
frames_behind (put_child a p c done page e ends) frames = without_references e.frame 1 frames
frames_behind e frames = frames

abbrev pub parent_behind : CoreEvent → SpaceValue → SpaceValue
parent_behind (begin_fork a p c) parent = record parent { sequence = parent.sequence + 1; structure = Some a }
parent_behind (count_page a p c done page e copies) parent = record parent { table = Some a }
parent_behind (share_entry a p c done page f writable) parent = with_shared page f parent
parent_behind (share_child a p c done page f writable) parent = record parent { table = None }
parent_behind (end_fork a p c done) parent = record parent { sequence = parent.sequence + 1; structure = None }
parent_behind (place_child a p c done page to rights) parent = record parent { table = None }
parent_behind (fail_fork a p c done step ends) parent =
    record parent {
      sequence = parent.sequence + 1;
      table = table_behind step parent.table;
      structure = if ends then None else parent.structure;
    }
parent_behind (put_child a p c done page e ends) parent =
    record parent { structure = if ends then None else parent.structure }
parent_behind e parent = parent

abbrev pub child_behind : CoreEvent → (parent child : SpaceValue) → SpaceValue
child_behind (begin_fork a p c) parent child = with_maps_of parent child
child_behind (share_child a p c done page f writable) parent child = with_shared page f child
child_behind (place_child a p c done page to rights) parent child = with_entry page (Some (entry_of to (is_writable rights))) child
child_behind (fail_fork a p c done step ends) parent child = without_maps child
child_behind (put_child a p c done page e ends) parent child = with_entry page None child
child_behind e parent child = child

-- and after a list of them
abbrev pub all_frames_behind : List CoreEvent → FramesValue → FramesValue
all_frames_behind [] frames = frames
all_frames_behind (e ∷ es) frames = all_frames_behind es (frames_behind e frames)

abbrev pub all_parent_behind : List CoreEvent → SpaceValue → SpaceValue
all_parent_behind [] parent = parent
all_parent_behind (e ∷ es) parent = all_parent_behind es (parent_behind e parent)

abbrev pub all_child_behind : List CoreEvent → (parent child : SpaceValue) → SpaceValue
all_child_behind [] parent child = child
all_child_behind (e ∷ es) parent child = all_child_behind es (parent_behind e parent) (child_behind e parent child)

-- The events, each of them of the fork, lead from what was before a call to what is after it.
pub record IsMadeByFork (k : ForkChange) (a p c : ℕ) (es : List CoreEvent) : Type 0 where
  pub own : AreOfFork a p c es
  pub frames : k.new_frames ≡ all_frames_behind es k.old_frames
  pub parent : k.new_parent ≡ all_parent_behind es k.old_parent
  pub child : k.new_child ≡ all_child_behind es k.old_parent k.old_child

-- the same, where the child's rights and entries need only be the same page by page
pub record IsShownByFork (k : ForkChange) (a p c : ℕ) (es : List CoreEvent) : Type 0 where
  pub own : AreOfFork a p c es
  pub frames : k.new_frames ≡ all_frames_behind es k.old_frames
  pub parent : k.new_parent ≡ all_parent_behind es k.old_parent
  pub child : IsShownAs (all_child_behind es k.old_parent k.old_child) k.new_child
