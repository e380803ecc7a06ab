use Rattle.std.proofs.Common.{◌≡◌}
use Rattle.gup_make.specs.Made.{rounds}
use Rattle.gup_make.proofs.maker.Maker.rounds.Given as goal

abbrev pub invariant-loop-k : goal.invariant-loop-k
invariant-loop-k l = l.self ≡ rounds l.k l.fn.self
