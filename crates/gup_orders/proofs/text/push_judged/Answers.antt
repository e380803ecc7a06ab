use Rattle.std.proofs.Common.{◌++◌, ℕ, List, None, sym, ap, ◌∙◌, take, get_or, arith}
use Rattle.gup_conditions.specs.Condition.{ConditionValue}
use Rattle.gup_conditions.specs.declared.verdict.Verdict.{Verdict}
use Rattle.gup_conditions.specs.declared.verdict.Verdict.TheVariants.{Yes}
use Rattle.gup_orders.specs.Text.{judged_lines, judged_line}
use Rattle.gup_orders.proofs.Written.{seen_at, judged_more, one_more}
use Rattle.gup_orders.proofs.text.push_judged.Goals as goal

pub push_judgement-requires : goal.push_judgement-requires
push_judgement-requires c = record { few = seen_at c.args.verdicts.now c.loop-k.k _ c.requires.few (omega (arith, c.requires.same, c.loop-k-test.true)) }

pub loop-k-preserved : goal.loop-k-preserved
loop-k-preserved c =
    let script = c.args.script.now in
    let condition = c.index-conditions-k.result in
    let verdict : Verdict = get_or c.args.verdicts.now c.loop-k.k (Yes None) in
    let so_far : List ℕ = judged_lines script (take c.loop-k.k c.args.conditions.now) (take c.loop-k.k c.args.verdicts.now) in
    one_more c.args.text.now.items c.loop-k.text.items c.push_judgement.new.text.items so_far (judged_line script condition verdict) c.loop-k.invariant c.in_ok-push_judgement.ensures
    ∙ ap (λ (d : ConditionValue). c.args.text.now.items ++ (so_far ++ judged_line script d verdict)) c.index-conditions-k.is
    ∙ ap (λ (t : List ℕ). c.args.text.now.items ++ t) (sym (judged_more script c.args.conditions.now c.args.verdicts.now c.loop-k.k condition (Yes None) c.loop-k-test.true c.requires.same))
