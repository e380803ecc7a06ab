use Rattle.std.proofs.Common.{◌+◌, ◌*◌, ◌<◌, ◌≤◌, vec_len, arith}
use Rattle.gup_frames.proofs.Keeps.{kept-words}
use Rattle.gup_frames.proofs.frames.Frames.take.Goals as goal

pub invariant_of-self : goal.invariant_of-self
invariant_of-self c =
    let there : c.in-Some.place < c.self.inside.movable + c.self.inside.normal = rw (← c.self.view_is) at c.in-Some.ensures.there in
    let few : vec_len c.self.inside.words ≤ 512 * (c.self.inside.movable + c.self.inside.normal) = omega (arith, c.self.invariant.few_words) in
    let within : vec_len c.clear.new.words ≤ 512 * (c.self.inside.movable + c.self.inside.normal) = c.clear.ensures.within (c.self.inside.movable + c.self.inside.normal) there few in
    kept-words _ _ _ _ _ c.self.invariant c.clear.new.words.items _ c.clear.ensures.room (omega (arith, within))
