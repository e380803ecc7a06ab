use Rattle.std.proofs.Common.{ℕ, ◌+◌, ◌<◌, ◌≤◌, length, get_or}
use Rattle.gup_maps.specs.Table.{pages_of}
use Rattle.gup_maps.proofs.table.search.Given as goal

-- the rows before low are below the page, and those from low + size on aren't
abbrev pub invariant-loop-size : goal.invariant-loop-size
invariant-loop-size g l = record {
  within : l.low + l.size ≤ length l.rows;
  before : (i : ℕ) → i < l.low → get_or (pages_of l.rows) i 0 < l.page;
  behind : (i : ℕ) → l.low + l.size ≤ i → i < length (pages_of l.rows) → l.page ≤ get_or (pages_of l.rows) i 0;
}

abbrev pub decreases-loop-size : goal.decreases-loop-size
decreases-loop-size g l = l.size
