use Rattle.std.proofs.Common.{ℕ, List, [], None, refl, subst}
use Rattle.gup_spec_orders.specs.Orders.{setup}
use Rattle.gup_search.specs.Search.{Stands}
use Rattle.gup_search.specs.States.{State}
use Rattle.gup_search.proofs.Graphs.{stands_first, graph_first, adds_as}
use Rattle.gup_search.proofs.expand.begin.Goals as goal

pub returns : goal.returns
returns c =
    let task = c.args.task.now in
    let script = task.script.now in
    let state : State = record { facts = c.in_ok-facts.facts.items; tells = c.tell_turns.new.tells.items } in
    let m = c.tell_turns.new.machine in
    let first = stands_first script task.named.now c.in_ok-machine.machine c.new-tells.result.items c.new-tells.ensures.items c.in_ok-machine.ensures in
    let stands : Stands script task.named.now (setup script task.behind) m state.tells =
    subst (λ (order : List ℕ). Stands script task.named.now order m state.tells) c.setup-written.ensures.turns (c.in_ok-tell_turns.ensures.stands script [] first) in
    graph_first script task.behind task.named.now task.limit m c.new-graph.result c.add.new.self state c.new-graph.ensures.states c.new-graph.ensures.steps c.new-graph.ensures.left_out c.in_ok-facts.ensures stands
    (adds_as task.limit c.new-graph.result c.add.new.self None None c.as_slice.result.now state.facts c.as_slice-2.result.now state.tells refl c.as_slice.ensures.value c.as_slice-2.ensures.value c.in_ok-add.ensures)
