-- What the turns of mirror slots are over, and what that is to a state.
use Rattle.std.specs.Prelude.{ℕ, List, Option}
use Rattle.gup_frames.specs.Frames.{FramesValue, FrameLists, frames_of}
use Rattle.gup_space.specs.Space.{SpaceValue, SpaceParts, space_of}
use Rattle.gup_space.specs.Shows.{ShowsFrames, ShowsSpace}
use Rattle.gup_notify.specs.Mirrors.{Filled, MirrorsValue, mirrors_of}
use Rattle.gup_notify.specs.Shows.{ShowsMirrors}
use Rattle.gup_spec_events.specs.State.{CoreState}

-- frames, one process, and the slots
pub record MirroringView : Type 0 where
  pub frames : FramesValue
  pub space : SpaceValue
  pub mirrors : MirrorsValue

abbrev pub mirroring_view : FrameLists → SpaceParts → List (Option Filled) → MirroringView
mirroring_view frames space mirrors =
    record { frames = frames_of frames; space = space_of space; mirrors = mirrors_of mirrors }

-- the state has them, the process as process p
pub record ShowsMirroring (p : ℕ) (view : MirroringView) (s : CoreState) : Type 0 where
  pub frames : ShowsFrames view.frames s
  pub space : ShowsSpace p view.space s
  pub mirrors : ShowsMirrors view.mirrors s

-- frames and the slots: a look is over no process
pub record LookingView : Type 0 where
  pub frames : FramesValue
  pub mirrors : MirrorsValue

abbrev pub looking_view : FrameLists → List (Option Filled) → LookingView
looking_view frames mirrors = record { frames = frames_of frames; mirrors = mirrors_of mirrors }

-- the state has them
pub record ShowsLooking (view : LookingView) (s : CoreState) : Type 0 where
  pub frames : ShowsFrames view.frames s
  pub mirrors : ShowsMirrors view.mirrors s
