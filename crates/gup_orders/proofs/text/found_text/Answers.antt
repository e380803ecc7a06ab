use Rattle.std.proofs.Common.{List, length, sym, ap, subst, arith}
use Rattle.gup_conditions.specs.declared.shown.Shown.{Shown}
use Rattle.gup_conditions.specs.declared.verdict.Verdict.{Verdict}
use Rattle.gup_orders.specs.Written.{AreSeen}
use Rattle.gup_orders.proofs.Seen.{all_seen}
use Rattle.gup_orders.proofs.text.found_text.Goals as goal

pub push_judged-requires-clause-few : goal.push_judged-requires-clause-few
push_judged-requires-clause-few c =
    let same = ap (λ (os : List Shown). length os) c.outcomes.ensures in
    subst (λ (vs : List Verdict). AreSeen vs) (sym c.requires.verdicts) (all_seen c.args.found.now c.args.conditions.now (omega (arith, same, c.outcomes.type_inv.1)))
