use Rattle.std.proofs.Common.{◌≡◌, ◌<◌, ◌-◌, ◌++◌, ℕ, List, [], ◌∷◌, length, codes, sym, ap, ◌∙◌, take, get_or, arith}
use Rattle.std.specs.List.{flat_map}
use Rattle.std.proofs.lemmas.List.{flat_map_more, take_more, length-reverse}
use Rattle.gup_orders.specs.Turns.{repeats, repeat_text}
use Rattle.gup_orders.specs.declared.turns.Repeat.{Repeat}
use Rattle.gup_orders.proofs.Repeats.{back_at}
use Rattle.gup_orders.proofs.turns.push_turns.Goals as goal

pub loop-k-preserved : goal.loop-k-preserved
loop-k-preserved c =
    let these : List Repeat = repeats c.args.order.now in
    let back : List Repeat = c.in_ok-back.back.items in
    let k = c.loop-k.k in
    let it : Repeat = c.index.result.now in
    let text = repeat_text c.args.script.now in
    let begun : List ℕ = c.args.text.now.items ++ codes "turns" in
    let count : length back ≡ length these = ap (λ (rs : List Repeat). length rs) c.in_ok-back.ensures ∙ length-reverse these in
    let within : k < length back = omega (arith, c.loop-k-test.true, c.len-k-end.ensures, c.in_ok-back.back.ok) in
    let long : c.len.result ≡ length back = omega (arith, c.len.ensures, c.in_ok-back.back.ok) in
    let here : it ≡ get_or these k it =
    back_at these back k it c.in_ok-back.ensures within (c.index.ensures ∙ ap (λ (n : ℕ). get_or back (n - 1 - k) it) long) in
    c.in_ok-push_repeat.ensures
    ∙ ap (λ (t : List ℕ). t ++ text it) c.loop-k.invariant
    ∙ flat_map_more text begun (take k these) it
    ∙ ap (λ (r : Repeat). begun ++ flat_map text (take k these ++ r ∷ [])) here
    ∙ ap (λ (rs : List Repeat). begun ++ flat_map text rs) (sym (take_more these k it (omega (arith, count, within))))
