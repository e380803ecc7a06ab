use Rattle.std.proofs.Common.{map, rules, ◌∙◌}
use Rattle.std.proofs.lemmas.Iterator.{YieldsList-from_map}
use Rattle.std.proofs.lemmas.Iterator.Adapters.{fact_from_collect}
use Rattle.std.proofs.lemmas.Iterator.Consumers.{YieldsList-at, YieldsList-from_rest}
use Rattle.std.proofs.lemmas.Result.{IfOk-at_ok}
use Rattle.std.specs.BTreeMap.{IsFromIterResult}
use Rattle.std.specs.Ordering.{nat_cmp}
use Rattle.gup_exec_rows.proofs.GridLemmas.{changed, get-copied}
use Rattle.gup_exec_rows.proofs.grid.Grid.copy_of.Given.{Over}
use Rattle.gup_exec_rows.proofs.grid.Grid.copy_of.Goals as goal

made : (g : Over) (c : goal.In_ok-row g) → IsFromIterResult nat_cmp (map (changed (λ _ v. v)) c.row.result.now.entries) c.in_ok-row.row
made g c =
    let es = c.row.result.now.entries in
    let all =
    fact_from_collect (IsFromIterResult nat_cmp) c.collect.result c.collect.ensures.ran
    (YieldsList-from_map _ (changed (λ _ v. v)) (YieldsList-at c.map.ensures.source (YieldsList-from_rest es c.iter.ensures.rest)) c.map.ensures.closure
    (λ x r q k. search rules)) in
    IfOk-at_ok (λ v. IsFromIterResult nat_cmp (map (changed (λ _ v. v)) es) v) c.in_ok-row.was all

pub returns : goal.returns
returns g c = get-copied c.row.result.now c.in_ok-row.row c.iter.ensures.ordered (made g c) ∙ c.row.ensures
