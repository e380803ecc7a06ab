-- The page tables that a process keeps, with the pool, as a state of the core machine has them.
use Rattle.std.specs.Prelude.{◌≡◌, ℕ, ◌≤◌, ◌==◌, nat_lt, Bool, false, if◌then◌else◌}
use Rattle.gup_spec_tables.specs.Tables.{table_numbers, lacks}
use Rattle.gup_tables.specs.Pool.{PoolValue, free_tables}
use Rattle.gup_page_tables.specs.PageTables.{Both, reclaims, grows, shrinks}
use Rattle.gup_spec_events.specs.State.{CoreState}

-- A process of the state has these entries and these tables, in its tree and taken out of it, and these walks; and the pool's
-- tables are the free ones.
pub record ShowsTables (p : ℕ) (b : Both) (s : CoreState) : Type 0 where
  pub entry : s.entry p ≡ b.tables.tree.entry
  pub place : s.place p ≡ b.tables.tree.place
  pub retired : s.retired p ≡ b.tables.limbo.retired
  pub walks : s.walks p ≡ b.tables.limbo.walks
  pub free : s.free_table ≡ b.pool.free

-- a pool has no more tables than there are numbers, and none is free that isn't its own
pub record IsPool (pool : PoolValue) : Type 0 where
  pub few : pool.tables ≤ table_numbers
  pub no_others : (table : ℕ) → pool.tables ≤ table → pool.free table ≡ false

-- Are too few free for what the page lacks, after those have come free that may?
abbrev pub wants_tables : (page : ℕ) → Both → Bool
wants_tables page b = nat_lt (free_tables (reclaims b).pool) (lacks b.tables.tree page)

-- what becomes of both when the page gets the tables that it lacks, or none
abbrev pub grown : (page : ℕ) → Both → Both
grown page b = if wants_tables page b then reclaims b else grows page (lacks b.tables.tree page) (reclaims b)

-- and when its empty tables go
abbrev pub shrunk : (page : ℕ) → Both → Both
shrunk page b = reclaims record { tables = shrinks page 3 b.tables; pool = b.pool }

-- another process keeps what it has
pub record KeepsOthers (p : ℕ) (s t : CoreState) : Type 0 where
  pub place : (q : ℕ) → (q == p) ≡ false → t.place q ≡ s.place q
  pub retired : (q : ℕ) → (q == p) ≡ false → t.retired q ≡ s.retired q
