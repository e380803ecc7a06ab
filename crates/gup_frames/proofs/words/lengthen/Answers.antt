use Rattle.std.proofs.Common.{rules, ◌≤◌, length, arith}
use Rattle.gup_frames.proofs.FrameWords.{longer_words}
use Rattle.gup_frames.proofs.words.lengthen.Goals as goal

pub returns-clause-words : goal.returns-clause-words
returns-clause-words c =
    let by = c.resize.ensures.by_index in
    let longer : length c.args.words.now.items ≤ c.args.end = omega (arith, c.requires.longer, c.type_inv.words) in
    longer_words c.args.words.now.items c.resize.new.self.items c.args.end longer (search rules)
    (λ k d below before. by.0 k d below (omega (arith, before)))
    (λ k d behind within. by.1 k d (search rules) (omega (arith, behind)) within)
