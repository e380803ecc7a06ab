use Rattle.std.proofs.Common.{ap, ◌∙◌}
use Rattle.gup_lines.specs.Moved.{words_of}
use Rattle.gup_lines.proofs.Moved.{none_moved}
use Rattle.gup_lines.proofs.kept.Moved.new.Goals as goal

-- nobody has any
pub returns : goal.returns
returns c = ap words_of c.in_ok-none_kept.ensures ∙ none_moved 81
