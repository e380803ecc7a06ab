use Rattle.std.proofs.Common.{sym, ap, subst}
use Rattle.gup_tables.specs.Pool.{PoolValue, pool_of}
use Rattle.gup_space.specs.Space.{SpaceValue, no_space, OwnsTables}
use Rattle.gup_test_pages.proofs.tables.start.Goals as goal

none_owned : (pool : PoolValue) → OwnsTables no_space pool
none_owned pool table has = absurd cc

pub returns-clause-own : goal.returns-clause-own
returns-clause-own c =
    subst (λ (s : SpaceValue). OwnsTables s (pool_of c.in_ok-pool.pool)) (sym c.in_ok-space.ensures)
    (none_owned (pool_of c.in_ok-pool.pool))

pub returns-clause-empty : goal.returns-clause-empty
returns-clause-empty c g = ap (λ (s : SpaceValue). s.entry g) c.in_ok-space.ensures
