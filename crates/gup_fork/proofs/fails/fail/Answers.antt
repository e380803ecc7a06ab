use Rattle.std.proofs.Common.{◌∙◌}
use Rattle.gup_frames.specs.Frames.{frames_of}
use Rattle.gup_space.specs.Space.{space_of}
use Rattle.gup_fork.proofs.FailSteps.{failed}
use Rattle.gup_fork.proofs.GivenBack.{are_given_back}
use Rattle.gup_fork.proofs.fails.fail.Goals as goal

pub returns-clause-events : goal.returns-clause-events
returns-clause-events c a done step =
    failed (frames_of c.args.frames.now) (frames_of c.empty.new.frames) (space_of c.args.parent.now) (space_of c.raise.new.self) (space_of c.args.child.now) (space_of c.empty.new.child) a done step
    c.raise.ensures c.empty.ensures.child c.empty.ensures.frames c.empty.ensures.below

pub returns-clause-frames : goal.returns-clause-frames
returns-clause-frames c =
    c.empty.ensures.frames ∙ are_given_back (space_of c.args.child.now).entry (frames_of c.args.frames.now)
