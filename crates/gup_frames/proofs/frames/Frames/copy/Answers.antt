use Rattle.std.proofs.Common.{◌+◌, ◌*◌, ◌<◌, ◌≤◌, vec_len, arith}
use Rattle.gup_frames.proofs.Keeps.{kept-words}
use Rattle.gup_frames.proofs.frames.Frames.copy.Goals as goal

pub invariant_of-self : goal.invariant_of-self
invariant_of-self c =
    let from : c.args.from < c.self.inside.movable + c.self.inside.normal = rw (← c.self.view_is) at c.requires.from in
    let to : c.args.to < c.self.inside.movable + c.self.inside.normal = rw (← c.self.view_is) at c.requires.to in
    let few : vec_len c.self.inside.words ≤ 512 * (c.self.inside.movable + c.self.inside.normal) = omega (arith, c.self.invariant.few_words) in
    let within : vec_len c.copy.new.words ≤ 512 * (c.self.inside.movable + c.self.inside.normal) = c.copy.ensures.within (c.self.inside.movable + c.self.inside.normal) (rw c.get.ensures.value from) (rw c.get-2.ensures.value to) few in
    kept-words _ _ _ _ _ c.self.invariant c.copy.new.words.items _ c.copy.ensures.room (omega (arith, within))
