use Rattle.gup_exec_rows.proofs.RowLemmas.{at_none}
use Rattle.gup_exec_rows.proofs.row.Row.new.Goals as goal

pub returns : goal.returns
returns g c = rw c.in_ok-blank.ensures.ok (at_none c.args.blank c.in_ok-items.items.items c.in_ok-items.ensures.none)
