use Rattle.gup_maps.proofs.CountedRows.{counted_table}
use Rattle.gup_maps.proofs.table.Table.is_counted.Goals as goal

pub returns : goal.returns
returns g c = rw (← c.self.view_is) (counted_table c.self.inside.rows c.self.invariant)
