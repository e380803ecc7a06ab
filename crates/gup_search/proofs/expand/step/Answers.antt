use Rattle.std.proofs.Common.{Some, ap}
use Rattle.gup_search.specs.States.{State}
use Rattle.gup_search.specs.declared.graph.Step.{Step}
use Rattle.gup_search.proofs.Lists.{on_ok, there_is}
use Rattle.gup_search.proofs.Graphs.{stepped, adds_as}
use Rattle.gup_search.proofs.expand.step.Goals as goal

pub returns : goal.returns
returns c =
    let task = c.args.task.now in
    let old = c.args.graph.now in
    let new = c.add.new.self in
    let s = there_is old.states c.args.i c.requires.there in
    let state : State = record { facts = c.in_ok-facts.facts.items; tells = c.tell_turn.new.tells.items } in
    let step : Step = record { parent = c.args.i; actor = c.args.actor } in
    on_ok c.add.result _ _
    (
    λ adds.
    stepped task.script.now task.behind task.named.now task.limit old new c.args.i c.args.actor c.args.machine c.tell_turn.new.machine s.0 state c.in_ok-tells.tells.items c.images_are_exact.ensures c.requires.graph s.1 c.requires.at c.requires.can c.tell_turn.ensures.script (c.in_ok-tells.ensures s.0 s.1) c.in_ok-tell_turn.ensures.turn c.in_ok-facts.ensures
    (adds_as task.limit old new (Some c.in_ok-step.step) (Some step) c.as_slice.result.now state.facts c.as_slice-2.result.now state.tells (ap (λ (x : Step). Some x) c.in_ok-step.ensures) c.as_slice.ensures.value c.as_slice-2.ensures.value adds)
    )
    c.add.ensures
