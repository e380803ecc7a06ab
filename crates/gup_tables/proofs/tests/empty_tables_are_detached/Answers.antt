use Rattle.std.proofs.Common.{ap, ◌∙◌}
use Rattle.gup_tables.specs.Pool.{PoolValue}
use Rattle.gup_tables.proofs.tests.empty_tables_are_detached.Goals as goal

pub is_detached-requires-clause-used : goal.is_detached-requires-clause-used
is_detached-requires-clause-used g c = ap (λ (p : PoolValue). p.free 3) c.in_ok-is_added-4.ensures.pool

pub is_detached-requires-2-clause-used : goal.is_detached-requires-2-clause-used
is_detached-requires-2-clause-used g c =
    ap (λ (p : PoolValue). p.free 2) c.in_ok-is_detached.ensures
    ∙ ap (λ (p : PoolValue). p.free 2) c.in_ok-is_added-4.ensures.pool
    ∙ ap (λ (p : PoolValue). p.free 2) c.in_ok-is_added-3.ensures.pool

pub is_detached-requires-3-clause-used : goal.is_detached-requires-3-clause-used
is_detached-requires-3-clause-used g c =
    ap (λ (p : PoolValue). p.free 1) c.in_ok-is_detached-2.ensures
    ∙ ap (λ (p : PoolValue). p.free 1) c.in_ok-is_detached.ensures
    ∙ ap (λ (p : PoolValue). p.free 1) c.in_ok-is_added-4.ensures.pool
    ∙ ap (λ (p : PoolValue). p.free 1) c.in_ok-is_added-3.ensures.pool
    ∙ ap (λ (p : PoolValue). p.free 1) c.in_ok-is_added-2.ensures.pool
