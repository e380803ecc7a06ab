use Rattle.std.proofs.Common.{take}
use Rattle.gup_search.specs.Pools.{AreNumbers}
use Rattle.gup_search.proofs.pools.numbers_in.Given as goal

-- the things so far have their numbers
abbrev pub invariant-loop-item : goal.invariant-loop-item
invariant-loop-item g l = AreNumbers g.T.PartialEq.eq l.pool.keys (take l.item-index l.items) l.numbers.items
