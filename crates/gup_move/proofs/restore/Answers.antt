use Rattle.gup_frames.specs.Frames.{frames_of}
use Rattle.gup_space.specs.Space.{space_of}
use Rattle.gup_move.proofs.MoveSteps.{restored}
use Rattle.gup_move.proofs.restore.Goals as goal

pub returns-clause-events : goal.returns-clause-events
returns-clause-events c a frames allowed count =
    restored (frames_of frames) (space_of c.args.space.now) (space_of c.set_entry.new.self) a c.args.page c.args.was allowed count c.set_entry.ensures
