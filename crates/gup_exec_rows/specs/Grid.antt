-- What processes have at their pages.
use Rattle.std.specs.Prelude.{ℕ, Option}
use Rattle.std.specs.BTreeMap.{get}
use Rattle.std.specs.Ordering.{nat_cmp}
use Rattle.gup_exec_rows.specs.declared.grid.Grid.{Grid}
use Rattle.gup_exec_rows.specs.Row.{at}

-- the value at a page of a process, if there is one
unfoldable pub found : {V : Type 0} → Grid V → ℕ → ℕ → Option V
found grid p = get nat_cmp (at grid.rows p)
