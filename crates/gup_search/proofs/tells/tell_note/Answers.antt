use Rattle.std.proofs.Common.{◌≡◌, ◌+◌, List, Some, length, sym, ap, subst, ◌∙◌}
use Rattle.gup_plain.specs.declared.note.What.{What}
use Rattle.gup_spec_orders.specs.Orders.{told_of}
use Rattle.gup_spec_orders.specs.declared.told.Tell.{Tell}
use Rattle.gup_search.specs.Search.{KeepsOrder}
use Rattle.gup_search.proofs.Lists.{read_at}
use Rattle.gup_search.proofs.Loops.{TellsTo, tells_step, tells_skip, tells_all}
use Rattle.gup_search.proofs.tells.tell_note.Goals as goal
use Rattle.gup_search.proofs.tells.tell_note.Goals.{then-is_note_of+in_ok-put_tell, else-is_note_of}

pub loop-name-preserved : goal.loop-name-preserved
loop-name-preserved c =
    let named = c.args.named.now in
    let old = c.args.tells.now.items in
    let note = c.args.note.now in
    let i = c.loop-name.name in
    let operation = c.index-named-name.result in
    let at = read_at named i operation c.loop-name-test.true c.index-named-name.is in
    let is : told_of note.what ≡ Some c.in-Some.told = ap (λ (w : What). told_of w) (sym c.what.ensures) ∙ sym c.telling.ensures ∙ c.in-Some.is in
    elim c.if-is_note_of.branch [
      | then-is_note_of+in_ok-put_tell w ↦
          subst (λ (ts : List Tell). TellsTo named old ts note (i + 1) × KeepsOrder named old ts) (sym (ap (λ v. v.items) w.tells-is)) (
            tells_step named old c.loop-name.tells.items w.put_tell.new.tells.items note c.in-Some.told i operation is at (sym c.is_note_of.ensures ∙ w.if-is_note_of.true) w.in_ok-put_tell.ensures.puts c.loop-name.invariant.0,
            λ up. w.in_ok-put_tell.ensures.in_order (length named) c.loop-name-test.true (c.loop-name.invariant.1 up),
          )
      | else-is_note_of w ↦
          subst (λ (ts : List Tell). TellsTo named old ts note (i + 1) × KeepsOrder named old ts) (sym (ap (λ v. v.items) w.tells-is)) (
            tells_skip named old c.loop-name.tells.items note c.in-Some.told i operation is at (sym c.is_note_of.ensures ∙ w.if-is_note_of.false) c.loop-name.invariant.0,
            c.loop-name.invariant.1,
          )
    ]

pub returns-clause-tells : goal.returns-clause-tells
returns-clause-tells c = tells_all c.args.named.now c.args.tells.now.items c.loop-name.tells.items c.args.note.now c.loop-name.name c.loop-name-test.false c.loop-name.invariant.0
