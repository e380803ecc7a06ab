-- What a turn of a move is over, and what it finds where the move stands.
use Rattle.std.specs.Prelude.{◌≡◌, ℕ, Bool, true, false, None, IsSome}
use Rattle.gup_base.specs.declared.entry.Zone.{Zone}
use Rattle.gup_frames.specs.Frames.{FramesValue, FrameLists, frames_of, IsFrame}
use Rattle.gup_space.specs.Space.{SpaceValue, SpaceParts, space_of, lacking}
use Rattle.gup_space.specs.Shows.{ShowsFrames, ShowsSpace}
use Rattle.gup_spec_events.specs.State.{CoreState}
use Rattle.gup_spec_turns.specs.JobPlace.{JobPlace, place_in, KeepsFrame, StandsMove, unbegun, moving_page}

-- What a move of this page finds where it stands: the page whose entry it has cleared is mapped and has none, and lacks none of
-- its page tables, and the frame of that entry is there, and not free.
abbrev pub IsReadyToMove : FramesValue → (page : ℕ) → JobPlace → SpaceValue → Type 0
IsReadyToMove frames page unbegun space = Unit {0}
IsReadyToMove frames page (moving_page g e count) space =
    (g ≡ page) × IsSome (space.right page) × (space.entry page ≡ None) × IsFrame frames e.frame
    × (frames.count e.frame ≡ 0 → ⊥) × (lacking space page ≡ 0)
IsReadyToMove frames page place space = ⊥

-- a move that stands at its beginning after a turn is over
abbrev pub is_over : JobPlace → Bool
is_over unbegun = true
is_over place = false

-- frames, the process whose page is moved, and where the move stands
pub record MovingView : Type 0 where
  pub frames : FramesValue
  pub space : SpaceValue
  pub place : JobPlace

abbrev pub moving_view : FrameLists → SpaceParts → JobPlace → MovingView
moving_view frames space place = record { frames = frames_of frames; space = space_of space; place = place }

-- the state has all that, of actor a's move of a page of process p
pub record ShowsMoving (a p : ℕ) (view : MovingView) (s : CoreState) : Type 0 where
  pub frames : ShowsFrames view.frames s
  pub space : ShowsSpace p view.space s
  pub place : place_in s a ≡ view.place

-- the actor is in the middle of this move, or it has not begun
pub record StandsAsMove (a p page : ℕ) (zone : Zone) (s : CoreState) : Type 0 where
  pub keeps : KeepsFrame (s.job a) (s.prepared a)
  pub at : StandsMove s a p page zone (s.job a)
