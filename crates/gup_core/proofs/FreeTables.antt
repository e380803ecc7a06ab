-- The free page tables of a machine are those of each state that it shows.
use Rattle.std.proofs.Common.{◌≡◌, ℕ, ◌≤◌, Bool, false, if◌then◌else◌, ap, ◌∙◌}
use Rattle.gup_plain.specs.Pages.{sum_below}
use Rattle.gup_tables.specs.Pool.{PoolValue, free_tables as free_in}
use Rattle.gup_spec_tables.specs.Tables.{table_numbers}
use Rattle.gup_space.specs.Shows.{ShowsPool}
use Rattle.gup_spec_events.specs.State.{CoreState}
use Rattle.gup_spec_events.specs.Growth.{free_tables}
use Rattle.gup_space.proofs.Pools.{count_among}

pub tables_shown : (pool : PoolValue) (s : CoreState) → pool.tables ≤ 8192 → ((table : ℕ) → pool.tables ≤ table → pool.free table ≡ false) → ShowsPool pool s → free_tables s ≡ free_in pool
unfolding Rattle.gup_spec_tables.specs.Tables.table_numbers
tables_shown pool s few no_others h =
    ap (λ (free : ℕ → Bool). sum_below table_numbers (λ table. if free table then 1 else 0)) h
    ∙ count_among pool.tables table_numbers (λ table. if pool.free table then 1 else 0) few
    (λ table least. ap (λ (free : Bool). if free then 1 else 0) (no_others table least))
