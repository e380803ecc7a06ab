use Rattle.std.proofs.Common.{◌≡◌, ◌+◌, take}
use Rattle.gup_base.specs.Parts.{words_of}
use Rattle.gup_conditions.proofs.answers.has_words.Given as goal

abbrev pub invariant-loop-part : goal.invariant-loop-part
invariant-loop-part l = l.left + words_of (take l.part-index l.parts) ≡ l.n
