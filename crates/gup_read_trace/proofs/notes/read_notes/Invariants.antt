use Rattle.std.proofs.Common.{length}
use Rattle.gup_read_trace.proofs.Taken.{AreTaken}
use Rattle.gup_read_trace.proofs.notes.read_notes.Given as goal

abbrev pub invariant-loop-rest : goal.invariant-loop-rest
invariant-loop-rest l = AreTaken l.script l.text l.lines l.journal.notes l.number l.rest

abbrev pub decreases-loop-rest : goal.decreases-loop-rest
decreases-loop-rest l = length l.rest
