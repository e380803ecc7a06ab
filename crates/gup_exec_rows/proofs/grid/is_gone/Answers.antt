use Rattle.gup_exec_rows.proofs.GridLemmas.{gone_is}
use Rattle.gup_exec_rows.proofs.grid.is_gone.Goals as goal

pub returns : goal.returns
returns c = gone_is c.args.row.now c.is_empty.result c.args.gone c.is_empty.ensures
