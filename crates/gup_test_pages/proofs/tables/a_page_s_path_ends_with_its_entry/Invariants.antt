use Rattle.gup_tables.specs.Pool.{pool_of}
use Rattle.gup_space.specs.Space.{space_of, OwnsTables}
use Rattle.gup_test_pages.proofs.tables.a_page_s_path_ends_with_its_entry.Given as goal

abbrev pub invariant-loop-number : goal.invariant-loop-number
invariant-loop-number g l = OwnsTables (space_of l.space) (pool_of l.pool)
