use Rattle.gup_tables.proofs.RowCount.{counted_rows}
use Rattle.gup_tables.proofs.rows.Rows.is_counted.Goals as goal

pub returns : goal.returns
returns c = rw (← c.self.view_is) (counted_rows _ _ _ _ c.self.invariant)
