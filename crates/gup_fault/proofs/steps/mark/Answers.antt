use Rattle.gup_frames.specs.Frames.{frames_of}
use Rattle.gup_space.specs.Space.{space_of}
use Rattle.gup_fault.proofs.FaultSteps.{marked_at, keeps_marked_at}
use Rattle.gup_fault.proofs.steps.mark.Goals as goal

pub returns-in-Some-clause-events : goal.returns-in-Some-clause-events
returns-in-Some-clause-events c e is =
    marked_at (frames_of c.args.frames.now) (frames_of c.set_mark.new.self) (space_of c.args.space.now) c.args.page e c.in-Some.entry is c.in-Some.ensures c.set_mark.ensures

pub returns-in-Some-clause-bytes : goal.returns-in-Some-clause-bytes
returns-in-Some-clause-bytes c =
    keeps_marked_at (frames_of c.args.frames.now) (frames_of c.set_mark.new.self) (space_of c.args.space.now) c.in-Some.entry.frame c.set_mark.ensures
