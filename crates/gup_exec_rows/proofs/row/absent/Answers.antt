use Rattle.std.proofs.Common.{None, refl, arith}
use Rattle.gup_exec_parts.proofs.TableLemmas.{place_push}
use Rattle.gup_exec_rows.proofs.row.absent.Goals as goal

pub loop-k-preserved : goal.loop-k-preserved
loop-k-preserved g c =
    let len = c.in_ok-push.ensures.len in
    record {
      len = omega arith;
      none = rw c.in_ok-push.ensures.items (place_push (λ o. o) None c.loop-k.items.items None refl c.loop-k.invariant.none);
    }
