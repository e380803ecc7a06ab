use Rattle.std.proofs.Common.{sym, subst}
use Rattle.gup_tables.specs.Pool.{pool_of}
use Rattle.gup_space.specs.Space.{SpaceValue, OwnsTables}
use Rattle.gup_test_pages.proofs.tables.unmapped.Goals as goal

pub retire-requires : goal.retire-requires
retire-requires g c =
    subst (λ (s : SpaceValue). OwnsTables s (pool_of c.args.pool.now)) (sym c.take_entry-was.ensures.taken)
    (subst (λ (s : SpaceValue). OwnsTables s (pool_of c.args.pool.now)) (sym c.unmap_page.ensures.unmapped) c.requires)
