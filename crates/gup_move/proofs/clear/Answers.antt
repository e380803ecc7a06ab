use Rattle.gup_frames.specs.Frames.{frames_of}
use Rattle.gup_space.specs.Space.{space_of}
use Rattle.gup_move.proofs.MoveSteps.{cleared}
use Rattle.gup_move.proofs.clear.Goals as goal

pub returns-clause-events : goal.returns-clause-events
returns-clause-events c a frames allowed =
    cleared (frames_of frames) (space_of c.args.space.now) (space_of c.take_entry.new.self) a c.args.page c.unwrap.result allowed c.take_entry.ensures.taken
