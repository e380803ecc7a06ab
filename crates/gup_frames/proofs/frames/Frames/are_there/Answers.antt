use Rattle.std.proofs.Common.{◌<◌, ◌+◌, length, arith}
use Rattle.gup_frames.proofs.There.{held_there, marked_there, written_there}
use Rattle.gup_frames.proofs.frames.Frames.are_there.Goals as goal

pub returns-clause-held : goal.returns-clause-held
returns-clause-held c f held =
    rw (← c.self.view_is)
    (let inside : f < length c.self.inside.counts.items = held_there c.self.inside.counts.items f (rw (← c.self.view_is) at held) in omega (arith, c.self.invariant.counts))

pub returns-clause-marked : goal.returns-clause-marked
returns-clause-marked c f marked =
    rw (← c.self.view_is)
    (let inside : f < length c.self.inside.marks.items = marked_there c.self.inside.marks.items f (rw (← c.self.view_is) at marked) in omega (arith, c.self.invariant.marks))

pub returns-clause-written : goal.returns-clause-written
returns-clause-written c f w written =
    rw (← c.self.view_is)
    (written_there c.self.inside.words.items (c.self.inside.movable + c.self.inside.normal) f w c.self.invariant.few_words (rw (← c.self.view_is) at written))
