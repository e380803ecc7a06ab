use Rattle.std.proofs.Common.{Option, None, refl, arith}
use Rattle.gup_plain.specs.State.{Noted}
use Rattle.gup_exec_parts.proofs.TableLemmas.{place_push}
use Rattle.gup_exec_parts.proofs.mirror.mirrors.Goals as goal

pub loop-m-preserved : goal.loop-m-preserved
loop-m-preserved c =
    let len = c.in_ok-push.ensures.len in
    record { len = omega arith; empty = rw c.in_ok-push.ensures.items (place_push (λ (n : Option Noted). n) None c.loop-m.mirrors.items None refl c.loop-m.invariant.empty) }
