use Rattle.std.proofs.Common.{length}
use Rattle.gup_read.specs.StageViews.{stage_value}
use Rattle.gup_read.proofs.Cuts.{AreAhead}
use Rattle.gup_read.proofs.read.lines.Given as goal

abbrev pub invariant-loop-line : goal.invariant-loop-line
invariant-loop-line l = AreAhead l.text l.number (stage_value l.stage) l.rest

abbrev pub decreases-loop-line : goal.decreases-loop-line
decreases-loop-line l = length l.rest
