use Rattle.std.proofs.Common.{◌≡◌, ◌<◌, ◌+◌, ◌++◌, ℕ, List, Option, sym, ap, subst, ◌∙◌, get_or, length, arith}
use Rattle.std.specs.Option.{IfSome}
use Rattle.gup_plain.specs.declared.note.Waiting.{Waiting}
use Rattle.gup_script.specs.Script.{ScriptValue}
use Rattle.gup_front.specs.Lines.{stuck_of}
use Rattle.gup_orders.specs.Text.{stuck_among}
use Rattle.gup_orders.proofs.Written.{stuck_more, one_more}
use Rattle.gup_orders.proofs.text.push_stuck.Goals as goal

one_stuck_more : (script : ScriptValue) (waits : List (Option Waiting)) (before now after : List ℕ) (k a i : ℕ) (waiting : Option Waiting) → a ≡ k → i ≡ k → k < length waits → waiting ≡ get_or waits i waiting → now ≡ before ++ stuck_among script waits k → after ≡ now ++ stuck_of script a waiting → after ≡ before ++ stuck_among script waits (k + 1)
one_stuck_more script waits before now after k a i waiting number index within at so_far more =
    let here : waiting ≡ get_or waits k waiting = at ∙ ap (λ (n : ℕ). get_or waits n waiting) index in
    one_more before now after (stuck_among script waits k) (stuck_of script a waiting) so_far more
    ∙ ap (λ (n : ℕ). before ++ (stuck_among script waits k ++ stuck_of script n waiting)) number
    ∙ ap (λ (w : Option Waiting). before ++ (stuck_among script waits k ++ stuck_of script k w)) here
    ∙ ap (λ (t : List ℕ). before ++ t) (sym (stuck_more script waits k waiting within))

pub loop-k-preserved : goal.loop-k-preserved
loop-k-preserved c =
    one_stuck_more c.args.script.now c.args.waits.now c.args.text.now.items c.loop-k.text.items c.push_stuck_line.new.text.items c.loop-k.k _ _ c.index-waits-from.result
    (subst (λ (o : Option ℕ). IfSome o (λ n. n ≡ c.from.result)) c.unwrap-actor.ensures c.new.ensures.value ∙ c.from.ensures)
    c.from-in-loop-k.ensures
    (omega (arith, c.requires.named.all, c.loop-k-test.true, c.actors-k-end.ensures.count))
    c.index-waits-from.is c.loop-k.invariant c.in_ok-push_stuck_line.ensures
