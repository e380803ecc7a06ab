use Rattle.std.proofs.Common.{List, sym, subst, ◌∙◌}
use Rattle.gup_spec_orders.specs.declared.told.Named.{Named}
use Rattle.gup_orders.specs.Shows.{AreShownOf}
use Rattle.gup_orders.proofs.ShownOutcomes.{are_findings}
use Rattle.gup_orders.proofs.found.Found.of.Goals as goal

pub returns : goal.returns
returns c =
    let outcomes = c.in_ok-explored.explored.outcomes.items in
    let shown = c.in_ok-outcomes.outcomes.items in
    let one = c.as_slice.ensures.value in
    let two = c.as_slice-2.ensures.value in
    are_findings c.args.script.now c.args.asked.now.behind c.args.asked.now.limit c.args.conditions.now c.as_slice.result.now outcomes shown c.in_ok-explored.explored.states c.in_ok-explored.explored.is_open
    c.tells_are_lines.ensures c.actors-actors.ensures.valid (one ∙ c.in_ok-named.ensures.named)
    (subst (λ (ns : List Named). AreShownOf ns outcomes shown) (two ∙ sym one) c.in_ok-outcomes.ensures)
    c.in_ok-explored.ensures.happen c.in_ok-explored.ensures.all c.in_ok-explored.ensures.full c.in_ok-explored.ensures.states c.in_ok-explored.ensures.no_others
