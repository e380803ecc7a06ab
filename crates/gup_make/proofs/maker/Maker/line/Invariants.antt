use Rattle.std.proofs.Common.{◌≡◌, ◌∷◌, drop, map}
use Rattle.std.specs.Prelude.{codes}
use Rattle.gup_make.specs.Made.{line}
use Rattle.gup_make.specs.Written.{spelled, more, next_words}
use Rattle.gup_make.proofs.maker.Maker.line.Given as goal

abbrev pub invariant-loop-word : goal.invariant-loop-word
invariant-loop-word l = more (codes "\n") (next_words (drop l.word-index l.words) l.self) ≡ line (l.first ∷ map spelled l.words) l.fn.self
