use Rattle.std.proofs.Common.{sym, subst}
use Rattle.gup_tables.specs.Pool.{PoolValue, pool_of}
use Rattle.gup_space.specs.Space.{SpaceValue, no_space, OwnsTables}
use Rattle.gup_test_parts.proofs.tables.start.Goals as goal

none_owned : (pool : PoolValue) → OwnsTables no_space pool
none_owned pool table has = absurd cc

pub returns : goal.returns
returns c =
    subst (λ (s : SpaceValue). OwnsTables s (pool_of c.in_ok-pool.pool)) (sym c.in_ok-space.ensures)
    (none_owned (pool_of c.in_ok-pool.pool))
