use Rattle.std.proofs.Common.{◌+◌, ◌++◌, ℕ, List, sym, ap, ◌∙◌, take}
use Rattle.gup_conditions.specs.declared.shown.Shown.{Shown}
use Rattle.gup_orders.specs.Text.{outcomes_from, outcome_text}
use Rattle.gup_orders.proofs.Written.{outcomes_more, one_more}
use Rattle.gup_orders.proofs.text.push_outcomes.Goals as goal

pub loop-k-preserved : goal.loop-k-preserved
loop-k-preserved c =
    let script = c.args.script.now in
    let common = c.args.common.now in
    let shown = c.index-outcomes-k.result in
    let so_far : List ℕ = outcomes_from script common 1 (take c.loop-k.k c.args.outcomes.now) in
    one_more c.args.text.now.items c.loop-k.text.items c.push_outcome.new.text.items so_far (outcome_text script common (c.loop-k.k + 1) shown) c.loop-k.invariant c.in_ok-push_outcome.ensures
    ∙ ap (λ (s : Shown). c.args.text.now.items ++ (so_far ++ outcome_text script common (c.loop-k.k + 1) s)) c.index-outcomes-k.is
    ∙ ap (λ (t : List ℕ). c.args.text.now.items ++ t) (sym (outcomes_more script common c.args.outcomes.now c.loop-k.k shown c.loop-k-test.true))
