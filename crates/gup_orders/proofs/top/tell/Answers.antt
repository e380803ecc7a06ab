use Rattle.std.proofs.Common.{◌≡◌, ℕ, List, ap, subst, ◌∙◌}
use Rattle.gup_spec_grammar.specs.Spelling.{parts}
use Rattle.gup_conditions.specs.Condition.{ConditionValue}
use Rattle.gup_conditions.specs.Reading.{AreConditions}
use Rattle.gup_conditions.specs.declared.verdict.Verdict.{Verdict}
use Rattle.gup_orders.specs.Found.{Findings, AreFindings, verdicts_on, status_by}
use Rattle.gup_orders.specs.Text.{found_text}
use Rattle.gup_orders.proofs.Rights.{are_right, named_waits}
use Rattle.gup_orders.proofs.top.tell.Goals as goal

pub found_text-requires-clause-named : goal.found_text-requires-clause-named
found_text-requires-clause-named c =
    let script = c.args.read.now.script in
    let behind = c.args.asked.now.behind in
    named_waits script behind c.args.asked.now.limit c.as_slice-2.result.now c.in_ok-found.found (λ order is. c.orders_are_runs.ensures.waits script behind order c.actors-actors.ensures.valid is) c.in_ok-found.ensures

pub returns-clause-told : goal.returns-clause-told
returns-clause-told c =
    let script = c.args.read.now.script in
    let behind = c.args.asked.now.behind in
    let limit = c.args.asked.now.limit in
    let found : Findings = c.in_ok-found.found in
    let conditions : List ConditionValue = c.in_ok-conditions.conditions.items in
    let read : AreConditions script (parts 10 c.args.read.now.text.items) conditions =
    subst (λ (t : List ℕ). AreConditions script (parts 10 t) conditions) c.as_slice.ensures.value c.in_ok-conditions.ensures.conditions in
    let findings : AreFindings script behind limit conditions found =
    subst (λ (cs : List ConditionValue). AreFindings script behind limit cs found) c.as_slice-2.ensures.value c.in_ok-found.ensures in
    let judged : c.as_slice-6.result.now ≡ verdicts_on found conditions =
    c.as_slice-6.ensures.value ∙ c.in_ok-verdicts.ensures.verdicts ∙ ap (λ (cs : List ConditionValue). verdicts_on found cs) c.as_slice-3.ensures.value in
    record {
      conditions = conditions;
      read = read;
      found = found;
      findings = findings;
      right = are_right script behind limit (parts 10 c.args.read.now.text.items) conditions found read findings;
      status_is = c.status_by.ensures ∙ ap (λ (vs : List Verdict). status_by vs c.is_open.result) judged ∙ ap (λ b. status_by (verdicts_on found conditions) b) c.is_open.ensures;
      text_is = c.in_ok-text.ensures ∙ ap (λ (cs : List ConditionValue). found_text script cs found) c.as_slice-4.ensures.value;
    }
