use Rattle.std.proofs.Common.{length}
use Rattle.gup_read_trace.proofs.Ahead.{IsAhead}
use Rattle.gup_read_trace.proofs.lines.part.Given as goal

abbrev pub invariant-loop-line : goal.invariant-loop-line
invariant-loop-line l = IsAhead l.text l.front l.lines l.rest

abbrev pub decreases-loop-line : goal.decreases-loop-line
decreases-loop-line l = length l.rest
