use Rattle.std.proofs.Common.{subst, refl, rules}
use Rattle.gup_frames.specs.Frames.{frames_of}
use Rattle.gup_space.specs.Space.{space_of}
use Rattle.gup_fast.specs.Walks.{IsWalk}
use Rattle.gup_fast.proofs.Begins.{begins, none_read}
use Rattle.gup_fast.proofs.walk.Walk.flag.Goals as goal

pub returns-clause-space : goal.returns-clause-space
returns-clause-space c = search rules

pub returns-clause-walk : goal.returns-clause-walk
returns-clause-walk c = rw (← c.self.view_is) refl

pub returns-clause-events : goal.returns-clause-events
returns-clause-events c frames =
    begins (frames_of frames) (space_of c.args.space.now) _ c.args.self.now _ c.requires.at
    (none_read c.args.self.now (subst IsWalk c.self.view_is c.self.invariant) c.requires.at)
    (returns-clause-walk c) (returns-clause-space c)
