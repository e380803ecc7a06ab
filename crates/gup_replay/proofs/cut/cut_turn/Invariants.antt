use Rattle.std.proofs.Common.{take}
use Rattle.gup_replay.specs.Turns.{AreOfTurn}
use Rattle.gup_replay.proofs.cut.cut_turn.Given as goal

-- all notes so far are of the first one's turn
abbrev pub invariant-loop-end : goal.invariant-loop-end
invariant-loop-end l = AreOfTurn l.first.turn l.first.actor (take l.end l.notes)
