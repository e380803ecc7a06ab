use Rattle.std.proofs.Common.{rules}
use Rattle.gup_frames.specs.Frames.{frames_of}
use Rattle.gup_space.specs.Space.{space_of}
use Rattle.gup_fast.proofs.Ends.{dropping_one}
use Rattle.gup_fast.proofs.walk.Walk.drop_one.Goals as goal

pub returns-in_default-clause-frames : goal.returns-in_default-clause-frames
returns-in_default-clause-frames c = search rules

pub returns-in_default-clause-events : goal.returns-in_default-clause-events
returns-in_default-clause-events c space =
    dropping_one (frames_of c.args.frames.now) _ (space_of space) c.args.self.now c.take_dropped.new.self c.take_dropped.ensures.was
    (returns-in_default-clause-frames c) c.take_dropped.ensures.walk

pub returns-clause-frames : goal.returns-clause-frames
returns-clause-frames c = search rules

pub returns-clause-events : goal.returns-clause-events
returns-clause-events c space =
    dropping_one (frames_of c.args.frames.now) _ (space_of space) c.args.self.now c.take_dropped.new.self c.take_dropped.ensures.was
    (returns-clause-frames c) c.take_dropped.ensures.walk
