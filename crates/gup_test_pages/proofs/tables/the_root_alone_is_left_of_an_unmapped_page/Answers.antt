use Rattle.gup_tables.specs.Pool.{pool_of}
use Rattle.gup_test_pages.proofs.tables.the_root_alone_is_left_of_an_unmapped_page.Goals as goal

pub grown-requires : goal.grown-requires
grown-requires g c = c.map_page.ensures (pool_of c.loop-page.pool) c.loop-page.invariant

pub loop-page-preserved : goal.loop-page-preserved
loop-page-preserved g c = c.touch.ensures (pool_of c.grown.new.pool) c.grown.ensures.own
