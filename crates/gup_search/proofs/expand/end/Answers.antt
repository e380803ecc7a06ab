use Rattle.std.proofs.Common.{ℕ, List, sym, subst}
use Rattle.gup_search.specs.Graph.{IsLed}
use Rattle.gup_search.specs.Explored.{EndsIn}
use Rattle.gup_search.specs.States.{State}
use Rattle.gup_spec_orders.specs.declared.told.Outcome.{Outcome}
use Rattle.gup_search.proofs.Lists.{there_is, same_at, on_ok, on_ok_both}
use Rattle.gup_search.proofs.Searches.{happen_added, keeps_added, ends_added}
use Rattle.gup_search.proofs.expand.end.Goals as goal

pub returns-clause-found : goal.returns-clause-found
returns-clause-found c =
    let task = c.args.task.now in
    let s = there_is c.args.graph.now.states c.args.i c.requires.there in
    let state = s.0 in
    let outcome : Outcome = record { tells = c.in_ok-tells.tells; waits = c.in_ok-waits.waits; path = c.in_ok-path.path } in
    let told = c.in_ok-tells.ensures s.0 s.1 in
    let r = c.requires.graph.states.reached c.args.i state s.1 in
    let led : IsLed task.script.now task.behind task.named.now c.in_ok-path.path.items state.facts state.tells =
    subst (λ (xs : List ℕ). IsLed task.script.now task.behind task.named.now xs state.facts state.tells) (sym (c.in_ok-path.ensures r.0 r.1)) r.2 in
    on_ok_both c.add.result _ _ _
    (
    λ known adds.
    record {
      known = known;
      happen = happen_added task.script.now task.behind task.named.now c.args.machine.now state c.args.ends.now.outcomes.items c.add.new.self.outcomes.items outcome c.images_are_exact.ensures c.requires.at.same (c.requires.at.image state s.1) c.requires.over c.in_ok-waits.ensures told led adds c.requires.found.happen;
    }
    )
    c.add.ensures.known c.add.ensures.adds

pub returns-clause-keeps : goal.returns-clause-keeps
returns-clause-keeps c =
    let outcome : Outcome = record { tells = c.in_ok-tells.tells; waits = c.in_ok-waits.waits; path = c.in_ok-path.path } in
    on_ok c.add.result _ _ (λ adds. keeps_added c.args.ends.now.outcomes.items c.add.new.self.outcomes.items outcome adds) c.add.ensures.adds

pub returns-clause-ends : goal.returns-clause-ends
returns-clause-ends c =
    let task = c.args.task.now in
    let s = there_is c.args.graph.now.states c.args.i c.requires.there in
    let state = s.0 in
    let told = c.in_ok-tells.ensures s.0 s.1 in
    on_ok c.add.result _ _
    (
    λ adds other there.
    subst (λ (t : State). EndsIn task.script.now task.named.now c.add.new.self.outcomes.items t) (same_at c.args.graph.now.states c.args.i state other s.1 there)
    (ends_added task.script.now task.named.now c.args.machine.now state c.in_ok-tells.tells.items c.in_ok-waits.waits.items c.add.new.self.outcomes.items c.images_are_exact.ensures c.requires.at.same (c.requires.at.image state s.1) c.in_ok-waits.ensures told adds.found)
    )
    c.add.ensures.adds
