use Rattle.std.proofs.Common.{rules}
use Rattle.gup_frames.specs.Frames.{frames_of}
use Rattle.gup_space.specs.Space.{space_of}
use Rattle.gup_fast.proofs.Pages.{grabbing}
use Rattle.gup_fast.proofs.walk.Walk.grab.Goals as goal

pub returns-clause-frames : goal.returns-clause-frames
returns-clause-frames c page path e is = search rules

pub returns-clause-walk : goal.returns-clause-walk
returns-clause-walk c page path e is = search rules

pub returns-clause-events : goal.returns-clause-events
returns-clause-events c space page path e is =
    grabbing (frames_of c.args.frames.now) _ (space_of space) c.args.self.now _ page path e _ is
    (returns-clause-frames c page path e is) (returns-clause-walk c page path e is)
