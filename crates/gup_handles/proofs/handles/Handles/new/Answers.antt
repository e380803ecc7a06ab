use Rattle.std.proofs.Common.{arith}
use Rattle.gup_handles.proofs.Unmade.{still_unmade}
use Rattle.gup_handles.proofs.handles.Handles.new.Goals as goal

pub loop-h-preserved : goal.loop-h-preserved
loop-h-preserved c =
    let len = c.in_ok-push.ensures.len in
    record {
      len = omega arith;
      unmade = rw c.in_ok-push.ensures.items (still_unmade c.loop-h.handles.items c.unmade.result c.unmade.ensures c.loop-h.invariant.unmade);
    }
