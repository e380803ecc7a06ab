use Rattle.std.proofs.Common.{◌≡◌, arith}
use Rattle.gup_exec_parts.proofs.TableLemmas.{place_push}
use Rattle.gup_check_pages.specs.Mapped.{number_in}
use Rattle.gup_check_pages.proofs.numbers.Numbers.none.Goals as goal

pub loop-p-preserved : goal.loop-p-preserved
loop-p-preserved c =
    let len = c.in_ok-push.ensures.len in
    let none : number_in c.new.result ≡ (λ _. 0) = rw c.new.ensures.empty in
    record { len = omega arith; none = rw c.in_ok-push.ensures.items (place_push number_in (λ _. 0) c.loop-p.spaces.items c.new.result none c.loop-p.invariant.none) }
