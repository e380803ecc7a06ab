use Rattle.std.proofs.Common.{◌≡◌, ◌++◌, drop}
use Rattle.gup_lines.specs.Moved.{words_of}
use Rattle.gup_lines.specs.Text.{outcomes_from, outcomes_of}
use Rattle.gup_lines.proofs.lines.told_in.Given as goal

-- those found so far, and after them what the other notes tell, are all
abbrev pub invariant-loop-note : goal.invariant-loop-note
invariant-loop-note l = l.found.items ++ outcomes_from (words_of l.moved) (drop l.note-index l.notes) ≡ outcomes_of l.notes
