-- The operations whose turns are over one process and the frames, and what those are to a state.
use Rattle.std.specs.Prelude.{ℕ}
use Rattle.gup_script.specs.declared.op.Op.{Op}
use Rattle.gup_script.specs.declared.op.Op.TheVariants.{Pin, Unpin, Give, Take, Transfer, Get, Put, Mirror, Look, Fork, Move}
use Rattle.gup_frames.specs.Frames.{FramesValue, FrameLists, frames_of}
use Rattle.gup_space.specs.Space.{SpaceValue, SpaceParts, space_of}
use Rattle.gup_space.specs.Shows.{ShowsFrames, ShowsSpace}
use Rattle.gup_spec_events.specs.State.{CoreState}

abbrev pub IsAlone : Op → Type 0
IsAlone (Pin handle page n want fast) = ⊥
IsAlone (Unpin handle) = ⊥
IsAlone (Give handle to) = ⊥
IsAlone (Take handle) = ⊥
IsAlone (Transfer handle outward slot parts) = ⊥
IsAlone (Get handle page) = ⊥
IsAlone (Put handle) = ⊥
IsAlone (Mirror mirror proc page) = ⊥
IsAlone (Look mirror word) = ⊥
IsAlone (Move proc page zone) = ⊥
IsAlone (Fork child) = ⊥
IsAlone op = Unit {0}

-- frames and one process
pub record AloneView : Type 0 where
  pub frames : FramesValue
  pub space : SpaceValue

abbrev pub alone_view : FrameLists → SpaceParts → AloneView
alone_view frames space = record { frames = frames_of frames; space = space_of space }

-- the state has them, the process as process p
pub record ShowsAlone (p : ℕ) (view : AloneView) (s : CoreState) : Type 0 where
  pub frames : ShowsFrames view.frames s
  pub space : ShowsSpace p view.space s
