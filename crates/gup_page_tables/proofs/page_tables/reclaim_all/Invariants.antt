use Rattle.std.proofs.Common.{◌≡◌, ℕ, ◌<◌, true, false, length}
use Rattle.gup_tables.specs.Pool.{pool_of}
use Rattle.gup_page_tables.specs.PageTables.{freed_by, cleared}
use Rattle.gup_page_tables.proofs.page_tables.reclaim_all.Given as goal
use Rattle.gup_spec_tables.specs.Tables.{is_among, AreApart}

-- what comes of reclaiming what is left is what comes of reclaiming all
abbrev pub invariant-loop-table : goal.invariant-loop-table
invariant-loop-table l = record {
  apart : AreApart l.limbo.retired;
  own : (table : ℕ) → is_among l.limbo.retired table ≡ true → (table < (pool_of l.pool).tables) × ((pool_of l.pool).free table ≡ false);
  limbo : cleared l.limbo ≡ cleared l.initial.limbo;
  pool : freed_by l.limbo (pool_of l.pool) ≡ freed_by l.initial.limbo (pool_of l.initial.pool);
}

abbrev pub decreases-loop-table : goal.decreases-loop-table
decreases-loop-table l = length l.limbo.retired
