use Rattle.gup_frames.specs.Frames.{frames_of}
use Rattle.gup_space.specs.Space.{space_of}
use Rattle.gup_fork.proofs.Steps.{ended}
use Rattle.gup_fork.proofs.end.Goals as goal

pub returns-clause-events : goal.returns-clause-events
returns-clause-events c a done frames child =
    ended (frames_of frames) (space_of c.args.parent.now) (space_of c.raise.new.self) (space_of child) a done c.raise.ensures
