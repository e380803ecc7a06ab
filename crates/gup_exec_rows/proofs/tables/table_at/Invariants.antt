use Rattle.std.proofs.Common.{◌≡◌, ℕ, ◌<◌, false}
use Rattle.gup_spec_tables.specs.Tables.{is_at}
use Rattle.gup_exec_rows.specs.Grid.{found}
use Rattle.gup_exec_rows.proofs.tables.table_at.Given as goal

-- none of the tables so far stands there
abbrev pub invariant-loop-k : goal.invariant-loop-k
invariant-loop-k l = (j : ℕ) → j < l.k → is_at l.place (found l.places l.p j) ≡ false
