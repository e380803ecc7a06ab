use Rattle.std.proofs.Common.{arith}
use Rattle.gup_exec_rows.proofs.RowLemmas.{at_put}
use Rattle.gup_exec_rows.proofs.row.Row.set.Goals as goal

pub returns : goal.returns
returns g c = let small = c.requires in rw (← c.self.view_is) (at_put c.self.inside.blank.value c.self.inside.items.items c.args.k c.args.value (omega (arith, c.self.inside.items.ok.0, c.self.invariant)))
