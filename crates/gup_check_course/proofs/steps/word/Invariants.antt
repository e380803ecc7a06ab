use Rattle.std.proofs.Common.{◌≡◌, ◌+◌, ◌≤◌, drop}
use Rattle.gup_base.specs.Parts.{words_of, word_at}
use Rattle.gup_check_course.proofs.steps.word.Given as goal

-- the word is among the parts that are left, if it is among all
abbrev pub invariant-loop-part : goal.invariant-loop-part
invariant-loop-part l =
    (words_of (drop l.part-index l.parts) + l.k ≡ words_of l.parts + l.left) × (l.left ≤ l.k)
    × (word_at (drop l.part-index l.parts) l.left ≡ word_at l.parts l.k)
