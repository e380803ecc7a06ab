use Rattle.std.proofs.Common.{arith}
use Rattle.gup_exec_rows.proofs.row.Row+V+8192.put.Goals as goal

pub set-requires : goal.set-requires
set-requires g c = let small = c.get.ensures.below in omega arith
