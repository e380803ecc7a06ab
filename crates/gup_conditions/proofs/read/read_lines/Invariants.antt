use Rattle.std.proofs.Common.{map, take}
use Rattle.gup_conditions.specs.Reading.{ArePieces}
use Rattle.gup_conditions.proofs.read.read_lines.Given as goal

abbrev pub invariant-loop-piece : goal.invariant-loop-piece
invariant-loop-piece l = ArePieces l.script (take l.piece-index (map (λ piece. piece.now) l.piece-items)) l.lines.items
