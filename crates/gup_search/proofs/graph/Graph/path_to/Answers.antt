use Rattle.std.proofs.Common.{◌≡◌, ℕ, ◌<◌, List, length, slice_get, Option, Some, None, sym, ap, subst, ◌∙◌, arith}
use Rattle.gup_search.specs.declared.graph.Step.{Step}
use Rattle.gup_search.proofs.Lists.{read_at}
use Rattle.gup_search.proofs.Loops.{IsBackTo, back_first, back_within, back_more, back_smaller, back_all}
use Rattle.gup_search.proofs.graph.Graph.path_to.Goals as goal

pub loop-step-init : goal.loop-step-init
loop-step-init c = back_first c.args.self.now.steps.items c.args.i c.new-path.result.items c.new-path.ensures.items

pub index-requires : goal.index-requires
index-requires c =
    let within : c.loop-step.at < length c.args.self.now.steps.items = back_within c.args.self.now.steps.items c.args.i c.loop-step.at c.loop-step.path.items c.requires.0 c.requires.1 c.loop-step.invariant in
    omega arith

pub loop-step-preserved : goal.loop-step-preserved
loop-step-preserved c =
    let steps = c.args.self.now.steps.items in
    let within : c.loop-step.at < length steps = back_within steps c.args.i c.loop-step.at c.loop-step.path.items c.requires.0 c.requires.1 c.loop-step.invariant in
    let there : slice_get steps c.loop-step.at ≡ Some (Some c.in-Some.step) = read_at steps c.loop-step.at c.index.result.now within c.index.ensures ∙ ap (λ (o : Option Step). Some o) c.in-Some.is in
    subst (λ (path : List ℕ). IsBackTo steps c.args.i c.in-Some.step.parent path) (sym c.in_ok-push.ensures.items)
    (back_more steps c.args.i c.loop-step.at c.in-Some.step c.loop-step.path.items there c.loop-step.invariant)

pub loop-step-smaller : goal.loop-step-smaller
loop-step-smaller c =
    let steps = c.args.self.now.steps.items in
    let within : c.loop-step.at < length steps = back_within steps c.args.i c.loop-step.at c.loop-step.path.items c.requires.0 c.requires.1 c.loop-step.invariant in
    let there : slice_get steps c.loop-step.at ≡ Some (Some c.in-Some.step) = read_at steps c.loop-step.at c.index.result.now within c.index.ensures ∙ ap (λ (o : Option Step). Some o) c.in-Some.is in
    back_smaller steps c.args.i c.loop-step.at c.in-Some.step c.loop-step.path.items c.requires.0 there c.requires.1 c.loop-step.invariant

pub returns : goal.returns
returns c =
    let steps = c.args.self.now.steps.items in
    let within : c.loop-step.at < length steps = back_within steps c.args.i c.loop-step.at c.loop-step.path.items c.requires.0 c.requires.1 c.loop-step.invariant in
    let there : slice_get steps c.loop-step.at ≡ Some None = read_at steps c.loop-step.at c.index.result.now within c.index.ensures ∙ ap (λ (o : Option Step). Some o) c.in_default.is in
    λ back isback. c.reverse.ensures.items ∙ back_all steps c.args.i c.loop-step.at c.loop-step.path.items there c.loop-step.invariant back isback
