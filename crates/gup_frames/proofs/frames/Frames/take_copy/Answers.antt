use Rattle.std.proofs.Common.{◌≡◌, ◌∙◌, ◌+◌, ◌*◌, ◌<◌, ◌≤◌, vec_len, arith}
use Rattle.gup_frames.specs.Frames.{FrameLists, frames_of, word_in}
use Rattle.gup_frames.proofs.Keeps.{kept-words, taken_copied}
use Rattle.gup_frames.proofs.frames.Frames.take_copy.Goals as goal

pub returns-clause-taken : goal.returns-clause-taken
returns-clause-taken c =
    let was = c.self.inside in
    let lists : FrameLists = record { movable = was.movable; normal = was.normal; counts = was.counts.items; marks = was.marks.items; words = was.words.items } in
    let apart : c.args.from ≡ c.in-Some.place → ⊥ = λ e. c.requires.held (rw e c.in-Some.ensures.free) in
    let words = rw c.get.ensures.value at c.copy.ensures.words in
    rw (c.claim.ensures.frame, ← c.self.view_is)
    (c.claim.ensures.claimed ∙ taken_copied (frames_of lists) (word_in c.copy.new.words.items) c.args.from c.in-Some.place apart words)

pub invariant_of-self : goal.invariant_of-self
invariant_of-self c =
    let from : c.args.from < c.self.inside.movable + c.self.inside.normal = rw (← c.self.view_is) at c.requires.there in
    let to : c.in-Some.place < c.self.inside.movable + c.self.inside.normal = rw (← c.self.view_is) at c.in-Some.ensures.there in
    let few : vec_len c.self.inside.words ≤ 512 * (c.self.inside.movable + c.self.inside.normal) = omega (arith, c.self.invariant.few_words) in
    let within : vec_len c.copy.new.words ≤ 512 * (c.self.inside.movable + c.self.inside.normal) = c.copy.ensures.within (c.self.inside.movable + c.self.inside.normal) (rw c.get.ensures.value from) to few in
    kept-words _ _ _ _ _ c.self.invariant c.copy.new.words.items _ c.copy.ensures.room (omega (arith, within))
