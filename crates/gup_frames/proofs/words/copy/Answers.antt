use Rattle.std.proofs.Common.{◌∙◌, ap, arith}
use Rattle.gup_plain.specs.Put.{put}
use Rattle.gup_frames.proofs.FrameWords.{copied_words}
use Rattle.gup_frames.proofs.words.copy.Goals as goal

pub returns-clause-words : goal.returns-clause-words
returns-clause-words c =
    let h = c.copy_within.ensures.by_index in
    copied_words c.reach-2.new.words.items c.copy_within.new.self.items c.args.from c.args.to h.0 h.1 h.2
    ∙ ap (λ word. put c.args.to (word c.args.from) word) (c.reach-2.ensures.words ∙ c.reach.ensures.words)

pub returns-clause-within : goal.returns-clause-within
returns-clause-within c frames from to few =
    let first = c.reach.ensures.within frames from few in
    let second = c.reach-2.ensures.within frames to first in
    omega (arith, second, c.copy_within.ensures.len)
