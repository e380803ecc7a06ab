use Rattle.std.proofs.Common.{arith}
use Rattle.gup_plain.specs.State.{Handle, unmade}
use Rattle.gup_exec_parts.proofs.TableLemmas.{place_push}
use Rattle.gup_exec_parts.proofs.pin.pins.Goals as goal

pub loop-h-preserved : goal.loop-h-preserved
loop-h-preserved c =
    let len = c.in_ok-push.ensures.len in
    record { len = omega arith; unmade = rw c.in_ok-push.ensures.items (place_push (λ (h : Handle). h) unmade c.loop-h.pins.items c.unmade.result c.unmade.ensures c.loop-h.invariant.unmade) }
