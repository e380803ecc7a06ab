use Rattle.std.proofs.Common.{◌+◌, ◌*◌, ◌<◌, ◌≤◌, vec_len, arith}
use Rattle.gup_frames.proofs.Keeps.{kept-words}
use Rattle.gup_frames.proofs.frames.Frames.set_word.Goals as goal

pub invariant_of-self : goal.invariant_of-self
invariant_of-self c =
    let there : c.args.frame < c.self.inside.movable + c.self.inside.normal = rw (← c.self.view_is) at c.requires in
    let few : vec_len c.self.inside.words ≤ 512 * (c.self.inside.movable + c.self.inside.normal) = omega (arith, c.self.invariant.few_words) in
    let within : vec_len c.write.new.words ≤ 512 * (c.self.inside.movable + c.self.inside.normal) = c.write.ensures.within (c.self.inside.movable + c.self.inside.normal) (rw c.get.ensures.value there) few in
    kept-words _ _ _ _ _ c.self.invariant c.write.new.words.items _ c.write.ensures.room (omega (arith, within))
