use Rattle.std.proofs.Common.{ℕ, List, subst}
use Rattle.std.proofs.lemmas.List.{take_all}
use Rattle.gup_search.specs.Graph.{IsSteppedBy}
use Rattle.gup_search.proofs.Lists.{there_is, read_at}
use Rattle.gup_search.proofs.Graphs.{steps_none, steps_next, there_grown, can_go_grown}
use Rattle.gup_search.proofs.expand.step_each.Goals as goal

pub loop-actor-init : goal.loop-actor-init
loop-actor-init c = steps_none c.args.task.now.script.now c.args.task.now.behind c.args.task.now.named.now c.args.task.now.limit c.args.i c.args.graph.now c.requires.graph

pub machine_at-requires-clause-there : goal.machine_at-requires-clause-there
machine_at-requires-clause-there c = there_grown c.args.graph.now c.loop-actor.graph c.args.i c.loop-actor.invariant.grows c.requires.there

pub step-requires-clause-there : goal.step-requires-clause-there
step-requires-clause-there c = there_grown c.args.graph.now c.loop-actor.graph c.args.i c.loop-actor.invariant.grows c.requires.there

pub step-requires-clause-can : goal.step-requires-clause-can
step-requires-clause-can c =
    let state = there_is c.args.graph.now.states c.args.i c.requires.there in
    let there = read_at c.args.actors.now c.loop-actor.actor-index c.actor-item.result c.loop-actor-test.true c.actor-item.is in
    can_go_grown c.args.task.now.script.now c.args.graph.now c.loop-actor.graph c.args.i c.actor-item.result state.0 state.1 c.loop-actor.invariant.grows
    (c.requires.can c.loop-actor.actor-index c.actor-item.result there)

pub loop-actor-preserved : goal.loop-actor-preserved
loop-actor-preserved c =
    steps_next c.args.task.now.script.now c.args.task.now.behind c.args.task.now.named.now c.args.task.now.limit c.args.i c.args.graph.now c.loop-actor.graph c.step.new.graph c.args.actors.now c.loop-actor.actor-index c.actor-item.result c.loop-actor-test.true c.actor-item.is c.loop-actor.invariant c.in_ok-step.ensures

pub returns : goal.returns
returns c =
    subst (λ (xs : List ℕ). IsSteppedBy c.args.task.now.script.now c.args.task.now.behind c.args.task.now.named.now c.args.task.now.limit c.args.i c.args.graph.now c.loop-actor.graph xs)
    (take_all c.loop-actor.actor-index c.args.actors.now c.loop-actor-test.false)
    c.loop-actor.invariant
