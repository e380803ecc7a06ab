use Rattle.std.proofs.Common.{sym, subst}
use Rattle.gup_tables.specs.Pool.{pool_of}
use Rattle.gup_space.specs.Space.{SpaceValue, OwnsTables}
use Rattle.gup_test_pages.proofs.faults.ready_once_grown.Goals as goal

pub grown-requires : goal.grown-requires
grown-requires g c =
    subst (λ (s : SpaceValue). OwnsTables s (pool_of c.in_ok-space.pool)) (sym c.refused.ensures)
    (c.map_page.ensures (pool_of c.in_ok-space.pool) c.in_ok-space.ensures.own)
