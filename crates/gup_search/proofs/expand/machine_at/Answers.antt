use Rattle.std.proofs.Common.{ℕ, ◌<◌, List, ◌++◌, length, reverse, refl, sym, subst, ◌∙◌}
use Rattle.std.specs.List.{All}
use Rattle.gup_core.specs.Images.{IsImage, imaged}
use Rattle.gup_core.specs.Machine.{Shows}
use Rattle.gup_image.specs.Alike.{image_in}
use Rattle.gup_spec_turns.specs.Run.{turned, run_start}
use Rattle.gup_spec_orders.specs.Orders.{beginning, setup}
use Rattle.gup_search.specs.States.{State}
use Rattle.gup_search.proofs.Lists.{there_is, same_at}
use Rattle.gup_search.proofs.Turns.{goes_within}
use Rattle.gup_search.proofs.Graphs.{image_at}
use Rattle.gup_search.proofs.expand.machine_at.Goals as goal

pub path_to-requires : goal.path_to-requires
path_to-requires c =
    let s = there_is c.args.graph.now.states c.args.i c.requires.there in
    let r = c.requires.graph.states.reached c.args.i s.0 s.1 in
    (r.0, r.1)

pub replayed-requires : goal.replayed-requires
replayed-requires c =
    let script = c.args.task.now.script.now in
    let s = there_is c.args.graph.now.states c.args.i c.requires.there in
    let r = c.requires.graph.states.reached c.args.i s.0 s.1 in
    subst (λ (xs : List ℕ). All (λ (a : ℕ). a < length script.actors) xs) (sym (c.as_slice.ensures.value ∙ c.in_ok-path.ensures r.0 r.1))
    (goes_within script (beginning script c.args.task.now.behind) (reverse r.0) r.2.goes)

pub returns : goal.returns
returns c =
    let script = c.args.task.now.script.now in
    let keys = c.args.graph.now.states in
    let behind = c.args.task.now.behind in
    let m = c.in_ok-machine.machine in
    let s = there_is keys c.args.i c.requires.there in
    let r = c.requires.graph.states.reached c.args.i s.0 s.1 in
    let shown : Shows m (turned script (run_start script) (setup script behind ++ reverse r.0)) =
    subst (λ (xs : List ℕ). Shows m (turned script (run_start script) (setup script behind ++ xs))) (c.as_slice.ensures.value ∙ c.in_ok-path.ensures r.0 r.1) c.in_ok-machine.ensures.shows in
    let image =
    image_at script c.args.task.now.named.now (setup script behind ++ reverse r.0) m s.0.facts (image_in (imaged m)) s.0.tells c.images_are_of_states.ensures c.actors-actors.ensures.valid c.in_ok-machine.ensures.script shown (c.has_image.ensures (image_in (imaged m)) refl) r.2.covers in
    record {
      same = c.in_ok-machine.ensures.script;
      image = λ state at. subst (λ (t : State). IsImage m t.facts) (same_at keys c.args.i s.0 state s.1 at) image;
    }
