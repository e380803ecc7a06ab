use Rattle.std.proofs.Common.{ℕ, List, [], ◌∷◌, suc, refl, sym, subst, ◌∙◌}
use Rattle.gup_search.specs.Search.{AreReady}
use Rattle.gup_search.proofs.Lists.{there_is, no_items, on_ok, on_ok_three}
use Rattle.gup_search.proofs.Graphs.{grows_same, there_grown, can_go_grown, steps_on}
use Rattle.gup_search.proofs.Searches.{can_go_at, search_on, closed_over, closed_led}
use Rattle.gup_search.proofs.expand.expand.Goals as goal

pub step-requires-clause-can : goal.step-requires-clause-can
step-requires-clause-can c =
    let keys = c.args.graph.now.states in
    let m = c.in_ok-machine.machine in
    let state = there_is keys c.args.i c.requires.there in
    let ready : List ℕ = c.in-Some.first.now ∷ c.in-Some.others.now in
    let are : AreReady m ready = subst (λ (xs : List ℕ). AreReady m xs) (sym c.as_slice.ensures.value ∙ c.in-Some.ensures.cases.0) c.in_ok-ready.ensures in
    can_go_at c.args.task.now.script.now keys c.args.i m state.0 ready 0 c.in-Some.first.now c.images_are_exact.ensures state.1 c.in_ok-machine.ensures are refl

pub step_each-requires-clause-there : goal.step_each-requires-clause-there
step_each-requires-clause-there c = there_grown c.args.graph.now c.step.new.graph c.args.i c.in_ok-step-in-Some.ensures.grows c.requires.there

pub step_each-requires-clause-can : goal.step_each-requires-clause-can
step_each-requires-clause-can c =
    let script = c.args.task.now.script.now in
    let keys = c.args.graph.now.states in
    let m = c.in_ok-machine.machine in
    let state = there_is keys c.args.i c.requires.there in
    let ready : List ℕ = c.in-Some.first.now ∷ c.in-Some.others.now in
    let are : AreReady m ready = subst (λ (xs : List ℕ). AreReady m xs) (sym c.as_slice.ensures.value ∙ c.in-Some.ensures.cases.0) c.in_ok-ready.ensures in
    λ k a there.
    can_go_grown script c.args.graph.now c.step.new.graph c.args.i a state.0 state.1 c.in_ok-step-in-Some.ensures.grows
    (can_go_at script keys c.args.i m state.0 ready (suc k) a c.images_are_exact.ensures state.1 c.in_ok-machine.ensures are there)

pub returns-in-None : goal.returns-in-None
returns-in-None c =
    let task = c.args.task.now in
    let graph = c.args.graph.now in
    let m = c.in_ok-machine.machine in
    let is = c.in_ok-machine.ensures in
    let state = there_is graph.states c.args.i c.requires.there in
    let are : AreReady m [] = subst (λ (xs : List ℕ). AreReady m xs) (sym c.as_slice.ensures.value ∙ no_items c.as_slice.result.now c.in-None.ensures.cases) c.in_ok-ready.ensures in
    on_ok_three c.end.result _ _ _ _
    (
    λ found keeps ends.
    search_on task.script.now task.behind task.named.now task.limit graph graph c.args.ends.now c.end.new.ends c.args.i state.0 state.1 c.requires.search c.requires.search.graph found (grows_same graph) keeps
    (λ left. closed_over task.script.now task.named.now graph m state.0 c.end.new.ends.outcomes.items c.images_are_exact.ensures is.same (is.image state.0 state.1) are (ends state.0 state.1))
    )
    c.end.ensures.found c.end.ensures.keeps c.end.ensures.ends

pub returns-in_ok-step-in-Some : goal.returns-in_ok-step-in-Some
returns-in_ok-step-in-Some c =
    let task = c.args.task.now in
    let graph = c.args.graph.now in
    let new = c.step_each.new.graph in
    let ends = c.args.ends.now in
    let first = c.in-Some.first.now in
    let others = c.in-Some.others.now in
    let m = c.in_ok-machine.machine in
    let is = c.in_ok-machine.ensures in
    let state = there_is graph.states c.args.i c.requires.there in
    let are : AreReady m (first ∷ others) = subst (λ (xs : List ℕ). AreReady m xs) (sym c.as_slice.ensures.value ∙ c.in-Some.ensures.cases.0) c.in_ok-ready.ensures in
    on_ok c.step_each.result _ _
    (
    λ two.
    let all = steps_on task.script.now task.behind task.named.now task.limit c.args.i graph c.step.new.graph new (first ∷ []) others c.in_ok-step-in-Some.ensures two in
    search_on task.script.now task.behind task.named.now task.limit graph new ends ends c.args.i state.0 state.1 c.requires.search all.graph c.requires.search.found all.grows (λ k o there. there)
    (λ left. closed_led task.script.now task.named.now new m state.0 ends.outcomes.items (first ∷ others) first c.images_are_exact.ensures is.same (is.image state.0 state.1) are refl (λ k a there. all.leads left k a state.0 there state.1))
    )
    c.step_each.ensures
