use Rattle.std.proofs.Common.{◌≡◌, take}
use Rattle.gup_search.specs.Pools.{standing}
use Rattle.gup_search.proofs.pools.read.Given as goal

-- what stands at the numbers so far is read
abbrev pub invariant-loop-number : goal.invariant-loop-number
invariant-loop-number g l = l.items.items ≡ standing l.pool (take l.number-index l.numbers)
