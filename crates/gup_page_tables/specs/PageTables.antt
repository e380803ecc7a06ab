-- The page tables of one process, and what becomes of them and of the pool.
use Rattle.std.specs.Prelude.{◌≡◌, ℕ, ◌<◌, ◌≤◌, ◌==◌, ◌||◌, Bool, true, false, is_some, if◌then◌else◌, List, [], Option, None, Some, zero, suc}
use Rattle.gup_limbo.specs.Limbo.{LimboValue, no_limbo, with_retired}
use Rattle.gup_plain.specs.Put.{lowest}
use Rattle.gup_tables.specs.Pool.{PoolValue, with_free}
use Rattle.gup_tables.specs.Rows.{RowLists}
use Rattle.gup_spec_tables.specs.declared.place.Place.{Place}
use Rattle.gup_spec_tables.specs.Tables.{TreeValue, no_tree, with_table, without_table, detachable, is_among}
use Rattle.gup_tables.specs.Tree.{tree_of}

-- the tree of a process, and the numbers of the tables that were taken out of it, with its walks
pub record TablesValue : Type 0 where
  pub tree : TreeValue
  pub limbo : LimboValue ℕ

abbrev pub no_tables : (room : ℕ) → TablesValue
no_tables room = record { tree = no_tree room; limbo = no_limbo room }

-- there is no table, neither in the tree nor taken out of it
abbrev pub IsBare : (place : ℕ → Option Place) → (retired : List ℕ) → Type 0
IsBare place retired = ((table : ℕ) → place table ≡ None) × (retired ≡ [])

-- what they are kept as
pub record TablesParts : Type 0 where
  pub rows : RowLists
  pub limbo : LimboValue ℕ

abbrev pub tables_of : TablesParts → TablesValue
tables_of p = record { tree = tree_of p.rows; limbo = p.limbo }

-- does the process have the table, in its tree or taken out of it?
abbrev pub has_table : TablesValue → (table : ℕ) → Bool
has_table v table = is_some (v.tree.place table) || is_among v.limbo.retired table

-- the process and the pool together
pub record Both : Type 0 where
  pub tables : TablesValue
  pub pool : PoolValue

-- a tree and what was taken out of it, alone and with a pool
abbrev pub some_of : RowLists → LimboValue ℕ → TablesValue
some_of rows limbo = record { tree = tree_of rows; limbo = limbo }

abbrev pub all_of : RowLists → LimboValue ℕ → PoolValue → Both
all_of rows limbo pool = record { tables = some_of rows limbo; pool = pool }

abbrev pub both : TablesParts → PoolValue → Both
both parts pool = record { tables = tables_of parts; pool = pool }

-- the tables of the process are the pool's, of which there are no more than it has room for, and they aren't free
pub record IsOf (b : Both) : Type 0 where
  pub room : b.pool.tables ≤ b.tables.tree.room
  pub own : (table : ℕ) → has_table b.tables table ≡ true → (table < b.pool.tables) × (b.pool.free table ≡ false)

-- The tables that were taken out come free, unless a walk runs.
abbrev pub freed : List ℕ → PoolValue → PoolValue
freed tables pool = record pool { free = λ table. pool.free table || is_among tables table }

abbrev pub freed_by : LimboValue ℕ → PoolValue → PoolValue
freed_by limbo pool = if limbo.walks == 0 then freed limbo.retired pool else pool

abbrev pub cleared : LimboValue ℕ → LimboValue ℕ
cleared limbo = if limbo.walks == 0 then record limbo { retired = [] } else limbo

abbrev pub reclaims : Both → Both
reclaims b =
    record {
      tables = record (b.tables) { limbo = cleared b.tables.limbo };
      pool = freed_by b.tables.limbo b.pool;
    }

-- the lowest free table is put in, at the highest place that the page lacks
abbrev pub takes : (page : ℕ) → Option ℕ → Both → Both
takes page None b = b
takes page (Some table) b =
    record {
      tables = record (b.tables) { tree = with_table table page b.tables.tree };
      pool = with_free table false b.pool;
    }

abbrev pub grows : (page n : ℕ) → Both → Both
grows page zero b = b
grows page (suc n) b = grows page n (takes page (lowest 0 b.pool.tables b.pool.free) b)

-- the lowest table of the page's path is taken out, if it can be
abbrev pub retires : Option ℕ → TablesValue → TablesValue
retires None v = v
retires (Some table) v = record v { tree = without_table table v.tree; limbo = with_retired table v.limbo }

abbrev pub shrinks : (page n : ℕ) → TablesValue → TablesValue
shrinks page zero v = v
shrinks page (suc n) v = shrinks page n (retires (detachable v.tree page) v)
