use Rattle.std.proofs.Common.{Some, None, sym, ap, subst, ◌∙◌, Option, ℕ}
use Rattle.gup_conditions.specs.Condition.{HoldsOften, FailsOften}
use Rattle.gup_conditions.specs.Verdict.{shown_or, judged, IsRight}
use Rattle.gup_conditions.specs.declared.condition.Often.{Often}
use Rattle.gup_conditions.specs.declared.verdict.Verdict.{Verdict}
use Rattle.gup_conditions.specs.declared.verdict.Verdict.TheVariants.{Yes, No, Open}
use Rattle.gup_conditions.proofs.Verdicts.{some_prints, none_prints, some_lacks, each_prints, right_unless, open_alike, with_all_at, without_all_at}
use Rattle.gup_conditions.proofs.verdict.judge.Goals as goal

-- never

pub returns-in-Some-clause-right : goal.returns-in-Some-clause-right
returns-in-Some-clause-right c script behind named are shown all =
    let wanted = c.args.condition.now.lines in
    let first = with_all_at c.args.outcomes.now c.lines-wanted.result.now wanted c.with_all.result (Some c.in-Some.k) c.lines-wanted.ensures c.with_all.ensures c.in-Some.is in
    subst (λ (often : Often). FailsOften script behind often wanted) (sym c.in-Never.is ∙ c.often.ensures)
    (some_prints script behind named c.args.outcomes.now wanted c.in-Some.k are shown first)

pub returns-in-None-clause-right : goal.returns-in-None-clause-right
returns-in-None-clause-right c script behind named are shown all =
    let condition = c.args.condition.now in
    let none = with_all_at c.args.outcomes.now c.lines-wanted.result.now condition.lines c.with_all.result None c.lines-wanted.ensures c.with_all.ensures c.in-None.is in
    subst (λ (verdict : Verdict). IsRight script behind condition verdict) (sym c.unless_open.ensures)
    (right_unless script behind condition c.args.is_open (Yes None) (λ closed.
    subst (λ (often : Often). HoldsOften script behind often condition.lines) (sym c.in-Never.is ∙ c.often.ensures)
    (none_prints script behind named c.args.outcomes.now condition.lines are (all closed) none)))

-- sometimes

pub returns-in-Some-with_all-clause-right : goal.returns-in-Some-with_all-clause-right
returns-in-Some-with_all-clause-right c script behind named are shown all =
    let wanted = c.args.condition.now.lines in
    let first = with_all_at c.args.outcomes.now c.lines-wanted.result.now wanted c.with_all-in-Sometimes.result (Some c.in-Some-with_all.k) c.lines-wanted.ensures c.with_all-in-Sometimes.ensures c.in-Some-with_all.is in
    subst (λ (often : Often). HoldsOften script behind often wanted) (sym c.in-Sometimes.is ∙ c.often.ensures)
    (some_prints script behind named c.args.outcomes.now wanted c.in-Some-with_all.k are shown first)

pub returns-in-None-with_all-clause-right : goal.returns-in-None-with_all-clause-right
returns-in-None-with_all-clause-right c script behind named are shown all =
    let condition = c.args.condition.now in
    let none = with_all_at c.args.outcomes.now c.lines-wanted.result.now condition.lines c.with_all-in-Sometimes.result None c.lines-wanted.ensures c.with_all-in-Sometimes.ensures c.in-None-with_all.is in
    subst (λ (verdict : Verdict). IsRight script behind condition verdict) (sym c.unless_open-in-None-with_all.ensures)
    (right_unless script behind condition c.args.is_open (No None) (λ closed.
    subst (λ (often : Often). FailsOften script behind often condition.lines) (sym c.in-Sometimes.is ∙ c.often.ensures)
    (none_prints script behind named c.args.outcomes.now condition.lines are (all closed) none)))

-- always

pub returns-in-Some-without_all-clause-right : goal.returns-in-Some-without_all-clause-right
returns-in-Some-without_all-clause-right c script behind named are shown all =
    let wanted = c.args.condition.now.lines in
    let first = without_all_at c.args.outcomes.now c.lines-wanted.result.now wanted c.without_all.result (Some c.in-Some-without_all.k) c.lines-wanted.ensures c.without_all.ensures c.in-Some-without_all.is in
    subst (λ (often : Often). FailsOften script behind often wanted) (sym c.in-Always.is ∙ c.often.ensures)
    (some_lacks script behind named c.args.outcomes.now wanted c.in-Some-without_all.k are shown first)

pub returns-in-None-without_all-clause-right : goal.returns-in-None-without_all-clause-right
returns-in-None-without_all-clause-right c script behind named are shown all =
    let condition = c.args.condition.now in
    let none = without_all_at c.args.outcomes.now c.lines-wanted.result.now condition.lines c.without_all.result None c.lines-wanted.ensures c.without_all.ensures c.in-None-without_all.is in
    subst (λ (verdict : Verdict). IsRight script behind condition verdict) (sym c.unless_open-in-None-without_all.ensures)
    (right_unless script behind condition c.args.is_open (Yes None) (λ closed.
    subst (λ (often : Often). HoldsOften script behind often condition.lines) (sym c.in-Always.is ∙ c.often.ensures)
    (each_prints script behind named c.args.outcomes.now condition.lines are (all closed) none)))

pub returns-in-None-without_all-clause-verdict : goal.returns-in-None-without_all-clause-verdict
returns-in-None-without_all-clause-verdict c =
    let wanted = c.args.condition.now.lines in
    let outcomes = c.args.outcomes.now in
    let none = without_all_at outcomes c.lines-wanted.result.now wanted c.without_all.result None c.lines-wanted.ensures c.without_all.ensures c.in-None-without_all.is in
    c.unless_open-in-None-without_all.ensures
    ∙ open_alike (λ seen. Open) (λ seen. No seen) c.args.is_open (Yes None)
    ∙ ap (λ (seen : Option ℕ). shown_or seen (λ s. No s) c.args.is_open (Yes None)) (sym none)
    ∙ ap (λ (often : Often). judged often wanted outcomes c.args.is_open) (sym c.in-Always.is ∙ c.often.ensures)
