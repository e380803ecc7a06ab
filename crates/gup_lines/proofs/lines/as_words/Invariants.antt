use Rattle.std.proofs.Common.{◌≡◌, take}
use Rattle.gup_lines.proofs.lines.as_words.Given as goal

-- the words so far are put on
abbrev pub invariant-loop-word : goal.invariant-loop-word
invariant-loop-word l = l.words ≡ take l.word-index l.kept
