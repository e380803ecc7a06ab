use Rattle.std.proofs.Common.{take}
use Rattle.gup_search.specs.Pools.{Grows, AreNumbers}
use Rattle.gup_search.proofs.pools.put_in.Given as goal

-- the things so far are in, and have their numbers
abbrev pub invariant-loop-item : goal.invariant-loop-item
invariant-loop-item g l =
    Grows l.fn.pool.keys l.pool.keys × AreNumbers g.T.PartialEq.eq l.pool.keys (take l.item-index l.items) l.numbers.items
