use Rattle.std.proofs.Common.{◌≡◌, ◌<◌, drop}
use Rattle.gup_base.specs.Parts.{words_of, word_at}
use Rattle.gup_dio.proofs.job.Job.index.Given as goal

-- the word is among the parts that are left
abbrev pub invariant-loop-part : goal.invariant-loop-part
invariant-loop-part l =
    (l.left < words_of (drop l.part-index l.self.parts))
    × (word_at (drop l.part-index l.self.parts) l.left ≡ word_at l.self.parts l.k)
