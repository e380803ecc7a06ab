use Rattle.std.proofs.Common.{List, [], ◌∷◌, ◌++◌, sym, subst, ◌∙◌, arith}
use Rattle.std.proofs.lemmas.Iterator.Adapters.{YieldsList-from_vec}
use Rattle.std.proofs.lemmas.Iterator.Consumers.{YieldsList-end}
use Rattle.gup_spec_orders.specs.declared.told.Outcome.{Outcome}
use Rattle.gup_conditions.specs.declared.shown.Shown.{Shown}
use Rattle.gup_orders.specs.Shows.{AreShownOf}
use Rattle.gup_orders.proofs.ShownOutcomes.{same_map, shown_more}
use Rattle.gup_orders.proofs.found.all_shown.Goals as goal

pub loop-outcome-init : goal.loop-outcome-init
loop-outcome-init c = c.new-shown.ensures.items

pub loop-outcome-preserved : goal.loop-outcome-preserved
loop-outcome-preserved c =
    let named = c.args.named.now in
    let it : Shown = c.in_ok-of.field-0 in
    subst (λ (ss : List Shown). AreShownOf named (c.loop-outcome.yielded ++ c.in-Some.outcome ∷ []) ss) (sym c.in_ok-push.ensures.items)
    (
    shown_more named c.loop-outcome.yielded c.loop-outcome.shown.items c.in-Some.outcome it c.loop-outcome.invariant
    (record { lines = c.in_ok-of.ensures.lines; waits = c.in_ok-of.ensures.waits; path = c.in_ok-of.ensures.path })
    )

pub returns : goal.returns
returns c =
    let gives = c.into_iter-outcome-iterator.ensures.into_iter_gives in
    let end = YieldsList-end (YieldsList-from_vec c.args.outcomes.items gives.0 (omega (arith, gives.1, c.args.outcomes.ok))) c.loop-outcome.yielded c.loop-outcome.outcome-iterator c.loop-outcome.yielded_by c.next.result c.next.new.self c.in-None.is c.next.ensures.steps in
    subst (λ (os : List Outcome). AreShownOf c.args.named.now os c.loop-outcome.shown.items) (sym (same_map c.loop-outcome.yielded) ∙ end.0) c.loop-outcome.invariant
