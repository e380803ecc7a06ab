-- What a turn of a fork is over, and what it finds where the fork stands.
use Rattle.std.specs.Prelude.{◌≡◌, ℕ, ◌≤◌, Bool, true, false, Some, None, IsSome}
use Rattle.gup_plain.specs.Event.{words}
use Rattle.gup_plain.specs.State.{Birth, growing, born, failed}
use Rattle.gup_base.specs.declared.entry.Allowed.TheVariants.{Any}
use Rattle.gup_base.specs.declared.entry.Entry.{Entry}
use Rattle.gup_frames.specs.Frames.{FramesValue, FrameLists, frames_of, IsFrame}
use Rattle.gup_space.specs.Space.{SpaceValue, SpaceParts, space_of, lacking}
use Rattle.gup_space.specs.Found.{found_for}
use Rattle.gup_space.specs.Shows.{ShowsFrames, ShowsSpace}
use Rattle.gup_spec_events.specs.State.{CoreState}
use Rattle.gup_spec_turns.specs.JobPlace.{JobPlace, place_in, KeepsFrame, StandsFork, unbegun, from_page, at_page, wants_frame, at_word}
use Rattle.gup_op_base.specs.declared.jobs.JobPlace.{JobPlace as KeptPlace}
use Rattle.gup_op_base.specs.declared.jobs.JobPlace.TheVariants.{Unbegun}
use Rattle.gup_op_fork.specs.declared.forks.Forked.{Forked}
use Rattle.gup_op_fork.specs.declared.forks.Forked.TheVariants.{Goes, Born, Failed}

-- a page that was counted has an entry of the parent, and none yet of the child, which has it mapped
abbrev pub IsCountedIn : (page : ℕ) → (parent child : SpaceValue) → Type 0
IsCountedIn page parent child = IsSome (parent.entry page) × IsSome (child.right page) × (child.entry page ≡ None)

-- a frame that the page is copied into is there, is not free, and is not the page's own
abbrev pub IsCopyOf : FramesValue → (page to : ℕ) → (parent : SpaceValue) → Type 0
IsCopyOf frames page to parent =
    IsFrame frames to × (frames.count to ≡ 0 → ⊥) × ((e : Entry) → parent.entry page ≡ Some e → to ≡ e.frame → ⊥)

-- What a fork of actor a finds where it stands. From its first turn on the actor has the parent's structure lock. Where it has
-- a frame to copy the page into, its child lacks none of the page's tables.
abbrev pub IsReadyAt : FramesValue → (a : ℕ) → JobPlace → (parent child : SpaceValue) → Type 0
IsReadyAt frames a unbegun parent child = Unit {0}
IsReadyAt frames a (from_page page) parent child = parent.structure ≡ Some a
IsReadyAt frames a (at_page page) parent child = (parent.structure ≡ Some a) × IsCountedIn page parent child
IsReadyAt frames a (wants_frame page) parent child = (parent.structure ≡ Some a) × IsCountedIn page parent child
IsReadyAt frames a (at_word page word to) parent child =
    (parent.structure ≡ Some a) × IsCountedIn page parent child × IsCopyOf frames page to parent × (word ≤ words)
    × (lacking child page ≡ 0)
IsReadyAt frames a place parent child = ⊥

-- where a fork can't go on: its child lacks a page table for the page that is to be shared, or no frame is found for the page
-- that is to be copied
abbrev pub IsHeldUp : FramesValue → JobPlace → (child : SpaceValue) → Type 0
IsHeldUp frames (at_page page) child = lacking child page ≡ 0 → ⊥
IsHeldUp frames (wants_frame page) child = found_for frames child page Any ≡ None
IsHeldUp frames place child = ⊥

-- whether the fork is over, with a child that is born or has failed
abbrev pub is_over : Forked → Bool
is_over (Goes place) = false
is_over Born = true
is_over Failed = true

-- where it stands then
abbrev pub place_after : Forked → KeptPlace
place_after (Goes place) = place
place_after Born = Unbegun
place_after Failed = Unbegun

-- what its child is then: it grows until the fork is over
abbrev pub birth_after : (parent : ℕ) → Forked → Birth
birth_after parent (Goes place) = growing parent
birth_after parent Born = born
birth_after parent Failed = failed

-- frames, a parent and its child, where the fork stands, and what the child is
pub record ForkingView : Type 0 where
  pub frames : FramesValue
  pub parent : SpaceValue
  pub child : SpaceValue
  pub place : JobPlace
  pub birth : Birth

abbrev pub forking_view : FrameLists → (parent child : SpaceParts) → JobPlace → Birth → ForkingView
forking_view frames parent child place birth =
    record { frames = frames_of frames; parent = space_of parent; child = space_of child; place = place; birth = birth }

-- the state has all that, of actor a's fork of process p into process c
pub record ShowsForking (a p c : ℕ) (view : ForkingView) (s : CoreState) : Type 0 where
  pub frames : ShowsFrames view.frames s
  pub parent : ShowsSpace p view.parent s
  pub child : ShowsSpace c view.child s
  pub place : place_in s a ≡ view.place
  pub birth : s.birth c ≡ view.birth

-- parent and child are two processes; the actor is in the middle of their fork, or it has not begun
pub record StandsAsFork (a p c : ℕ) (s : CoreState) : Type 0 where
  pub apart : p ≡ c → ⊥
  pub keeps : KeepsFrame (s.job a) (s.prepared a)
  pub at : StandsFork s a p c (s.job a) (s.prepared a)
