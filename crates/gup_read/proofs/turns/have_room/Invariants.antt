use Rattle.std.proofs.Common.{◌≡◌, ◌+◌, drop, length}
use Rattle.gup_read.specs.Runs.{spread}
use Rattle.gup_read.proofs.turns.have_room.Given as goal

abbrev pub invariant-loop-run : goal.invariant-loop-run
invariant-loop-run l = l.total + length (spread (drop l.run-index l.runs)) ≡ l.turns + length (spread l.runs)
