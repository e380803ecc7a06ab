use Rattle.std.proofs.Common.{arith}
use Rattle.gup_exec_parts.specs.Space.{seen, blank}
use Rattle.gup_exec_parts.proofs.TableLemmas.{place_push}
use Rattle.gup_exec_parts.proofs.space.spaces.Goals as goal

pub loop-p-preserved : goal.loop-p-preserved
loop-p-preserved c =
    let len = c.in_ok-push.ensures.len in
    record { len = omega arith; blank = rw c.in_ok-push.ensures.items (place_push seen blank c.loop-p.spaces.items c.new.result c.new.ensures c.loop-p.invariant.blank) }
