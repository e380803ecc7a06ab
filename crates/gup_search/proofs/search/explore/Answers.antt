use Rattle.std.proofs.Common.{ℕ, ◌+◌, Bool, if◌then◌else◌, List, sym, subst, ◌∙◌, length, ◌≤◌, arith}
use Rattle.gup_spec_orders.specs.Orders.{AreOfOrders, AreOfAllOrders}
use Rattle.gup_spec_orders.specs.declared.told.Outcome.{Outcome}
use Rattle.gup_search.specs.Reach.{ReachesStates, ReachesAllStates}
use Rattle.gup_search.proofs.Searches.{all_found, states_reached, all_reached}
use Rattle.gup_search.proofs.search.explore.Goals as goal

pub returns-clause-happen : goal.returns-clause-happen
returns-clause-happen c =
    subst (λ (os : List Outcome). AreOfOrders c.args.script.now c.args.behind c.args.named.now os) (sym c.into_outcomes.ensures) c.loop-i.invariant.found.happen

pub returns-clause-all : goal.returns-clause-all
returns-clause-all c =
    let most : length c.loop-i.graph.states ≤ c.loop-i.i = let test = c.loop-i-test.false in let len = c.len.ensures in omega arith in
    λ left.
    subst (λ (os : List Outcome). AreOfAllOrders c.args.script.now c.args.behind c.args.named.now os) (sym c.into_outcomes.ensures)
    (all_found c.args.script.now c.args.behind c.args.named.now c.args.limit c.loop-i.graph c.loop-i.ends c.loop-i.i c.loop-i.invariant most (sym c.is_open.ensures ∙ left))

pub returns-clause-states : goal.returns-clause-states
returns-clause-states c =
    let limit = c.args.limit in
    subst (λ (n : ℕ). ReachesStates c.args.script.now c.args.behind c.args.named.now (if c.is_open.result then limit + 1 else n)) (sym c.len-2.ensures)
    (
    subst (λ (left : Bool). ReachesStates c.args.script.now c.args.behind c.args.named.now (if left then limit + 1 else length c.loop-i.graph.states)) (sym c.is_open.ensures)
    (states_reached c.args.script.now c.args.behind c.args.named.now limit c.loop-i.graph c.loop-i.invariant.graph)
    )

pub returns-clause-few : goal.returns-clause-few
returns-clause-few c =
    let states = c.len-2.ensures in
    let few = c.loop-i.invariant.graph.states.few in
    λ left. omega arith

pub returns-clause-no_others : goal.returns-clause-no_others
returns-clause-no_others c =
    let most : length c.loop-i.graph.states ≤ c.loop-i.i = let test = c.loop-i-test.false in let len = c.len.ensures in omega arith in
    λ left.
    subst (λ (n : ℕ). ReachesAllStates c.args.script.now c.args.behind c.args.named.now n) (sym c.len-2.ensures)
    (all_reached c.args.script.now c.args.behind c.args.named.now c.args.limit c.loop-i.graph c.loop-i.ends c.loop-i.i c.loop-i.invariant most (sym c.is_open.ensures ∙ left))
