use Rattle.gup_tables.specs.Pool.{pool_of}
use Rattle.gup_space.specs.Space.{space_of, OwnsTables}
use Rattle.gup_test_pages.proofs.tables.the_root_alone_is_left_of_an_unmapped_page.Given as goal

abbrev pub invariant-loop-page : goal.invariant-loop-page
invariant-loop-page g l = OwnsTables (space_of l.space) (pool_of l.pool)
