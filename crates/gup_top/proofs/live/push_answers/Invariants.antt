use Rattle.std.proofs.Common.{◌≡◌, ◌++◌, take}
use Rattle.std.specs.List.{flat_map}
use Rattle.gup_lines.specs.Text.{line_of}
use Rattle.gup_top.proofs.live.push_answers.Given as goal

-- the lines of the answers so far
abbrev pub invariant-loop-answer : goal.invariant-loop-answer
invariant-loop-answer l = l.text.items ≡ l.fn.text.items ++ flat_map (line_of l.script) (take l.answer-index l.answers)
