-- The tables of the table zone, and which of them are free.
use Rattle.std.specs.Prelude.{◌≡◌, ℕ, ◌≤◌, nat_lt, Bool, false, if◌then◌else◌, List}
use Rattle.gup_bits.specs.Bits.{has, room_of}
use Rattle.gup_plain.specs.Pages.{sum_below}
use Rattle.gup_plain.specs.Put.{put}

-- how many tables there are, and which of their numbers are those of free ones
pub record PoolValue : Type 0 where
  pub tables : ℕ
  pub free : ℕ → Bool

abbrev pub all_free : (tables : ℕ) → PoolValue
all_free tables = record { tables = tables; free = λ table. nat_lt table tables }

-- how many are free
abbrev pub free_tables : PoolValue → ℕ
free_tables pool = sum_below pool.tables (λ table. if pool.free table then 1 else 0)

-- the table is free from now on, or isn't
abbrev pub with_free : (table : ℕ) → Bool → PoolValue → PoolValue
with_free table is_free pool = record pool { free = put table is_free pool.free }

-- what a pool is kept as: the set of the free ones
pub record PoolParts : Type 0 where
  pub set : List ℕ
  pub tables : ℕ

abbrev pub pool_of : PoolParts → PoolValue
pool_of p = record { tables = p.tables; free = has p.set }

-- There are at most 8,192, there is room for all, and no others are free. So many are free.
pub record IsKept (set : List ℕ) (tables free : ℕ) : Type 0 where
  pub few : tables ≤ 8192
  pub room : tables ≤ room_of set
  pub no_others : (table : ℕ) → tables ≤ table → has set table ≡ false
  pub counted : free ≡ free_tables (record { tables = tables; free = has set })
