use Rattle.std.proofs.Common.{rules}
use Rattle.gup_frames.specs.Frames.{frames_of}
use Rattle.gup_space.specs.Space.{space_of}
use Rattle.gup_fast.proofs.ReadingDown.{reading_down}
use Rattle.gup_fast.proofs.walk.Walk.read.Goals as goal

pub returns-in_default-clause-walk : goal.returns-in_default-clause-walk
returns-in_default-clause-walk c = search rules

pub returns-in_default-clause-events : goal.returns-in_default-clause-events
returns-in_default-clause-events c =
    reading_down (frames_of c.args.frames.now) (space_of c.args.space.now) c.args.self.now _ _ c.requires.at (returns-in_default-clause-walk c)

pub returns-then-not-entry-clause-walk : goal.returns-then-not-entry-clause-walk
returns-then-not-entry-clause-walk c = search rules

pub returns-then-not-entry-clause-events : goal.returns-then-not-entry-clause-events
returns-then-not-entry-clause-events c =
    reading_down (frames_of c.args.frames.now) (space_of c.args.space.now) c.args.self.now _ _ c.requires.at (returns-then-not-entry-clause-walk c)

pub returns-then-eq-clause-walk : goal.returns-then-eq-clause-walk
returns-then-eq-clause-walk c = search rules

pub returns-then-eq-clause-events : goal.returns-then-eq-clause-events
returns-then-eq-clause-events c =
    reading_down (frames_of c.args.frames.now) (space_of c.args.space.now) c.args.self.now _ _ c.requires.at (returns-then-eq-clause-walk c)

pub returns-clause-walk : goal.returns-clause-walk
returns-clause-walk c = search rules

pub returns-clause-events : goal.returns-clause-events
returns-clause-events c =
    reading_down (frames_of c.args.frames.now) (space_of c.args.space.now) c.args.self.now _ _ c.requires.at (returns-clause-walk c)
