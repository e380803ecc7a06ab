use Rattle.std.proofs.Common.{sym, refl}
use Rattle.gup_exec_parts.proofs.TakenLemmas.{agreed-is}
use Rattle.gup_exec_parts.proofs.taken.agreed.Goals as goal

pub returns-then-all_write : goal.returns-then-all_write
returns-then-all_write c =
    agreed-is c.args.taken.now c.in-Some.first.now c.write-write.result (sym c.in-Some.ensures.value) c.write-write.ensures (c.if-all_write.ensures.0 refl)
