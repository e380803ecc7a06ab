use Rattle.std.proofs.Common.{◌≡◌, length, sym, ◌∙◌, arith}
use Rattle.gup_orders.proofs.Repeats.{one_more_read, first_time, is_other, no_other}
use Rattle.gup_orders.proofs.turns.put_before.Goals as goal
use Rattle.gup_orders.proofs.turns.put_before.Goals.{else-count-gt0-via-then-count-gt0+else-get, else-count-gt0-via-else-count-gt0}

pub returns-then-get-clause-put : goal.returns-then-get-clause-put
returns-then-get-clause-put c these is =
    one_more_read c.args.back.now.items these c.args.actor c.len-count.result c.index.result.now c.index_mut.result.now is (omega (arith, c.len-count.ensures, c.args.back.now.ok)) c.if-count-gt0.true
    c.index.ensures c.index_mut.ensures.value (sym c.get.ensures.value ∙ c.if-get.true ∙ c.get-then-count-gt0.ensures.value)

pub returns-in_ok-push-clause-put : goal.returns-in_ok-push-clause-put
returns-in_ok-push-clause-put c these is =
    let items = c.args.back.now.items in
    let count : c.len-count.result ≡ length items = omega (arith, c.len-count.ensures, c.args.back.now.ok) in
    c.in_ok-push.ensures.items
    ∙ elim c.else-count-gt0.branch [
      | else-count-gt0-via-then-count-gt0+else-get w ↦
          first_time items these c.args.actor is
          (is_other items c.args.actor c.len-count.result w.index.result.now count w.index.ensures (λ same. w.if-get.false (w.get.ensures.value ∙ same ∙ sym w.get-then-count-gt0.ensures.value)))
      | else-count-gt0-via-else-count-gt0 w ↦ first_time items these c.args.actor is (no_other items c.args.actor c.len-count.result count w.if-count-gt0.false)
    ]
