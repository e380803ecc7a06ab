use Rattle.gup_tables.specs.Pool.{pool_of}
use Rattle.gup_test_pages.proofs.tables.a_page_s_path_ends_with_its_entry.Goals as goal

pub grown-requires : goal.grown-requires
grown-requires g c = c.map_page.ensures (pool_of c.loop-number.pool) c.loop-number.invariant

pub loop-number-preserved : goal.loop-number-preserved
loop-number-preserved g c = c.touch.ensures (pool_of c.grown.new.pool) c.grown.ensures.own
