use Rattle.std.proofs.Common.{arith}
use Rattle.gup_exec_rows.specs.Row.{at}
use Rattle.gup_exec_rows.proofs.TableLemmas.{one_more_among}
use Rattle.gup_exec_rows.proofs.tables.let_go.Goals as goal

pub loop-k-preserved : goal.loop-k-preserved
loop-k-preserved c =
    let test = c.loop-k-test.true in
    rw (c.put.ensures, c.loop-k.invariant, c.index-tables-k.is)
    (one_more_among (at c.args.free.now) c.args.tables.now c.loop-k.k c.index-tables-k.result (omega arith))
