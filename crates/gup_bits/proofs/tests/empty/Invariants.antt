use Rattle.std.proofs.Common.{◌≤◌}
use Rattle.gup_bits.specs.Bits.{room_of}
use Rattle.gup_bits.proofs.tests.empty.Given as goal

abbrev pub invariant-loop-k : goal.invariant-loop-k
invariant-loop-k l = l.room ≤ room_of l.set
