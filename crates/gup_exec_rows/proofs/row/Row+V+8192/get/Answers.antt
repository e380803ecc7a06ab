use Rattle.std.proofs.Common.{arith}
use Rattle.gup_exec_rows.proofs.row.Row+V+8192.get.Goals as goal

pub value-requires : goal.value-requires
value-requires g c = let small = c.get.ensures.below in omega arith
