use Rattle.std.proofs.Common.{ℕ, List, Option, map, rules, ap, ◌∙◌}
use Rattle.std.proofs.lemmas.Iterator.{YieldsList-from_map}
use Rattle.std.proofs.lemmas.Iterator.Adapters.{fact_from_collect}
use Rattle.std.proofs.lemmas.Iterator.Consumers.{YieldsList-at, YieldsList-from_rest}
use Rattle.std.proofs.lemmas.Result.{IfOk-at_ok}
use Rattle.std.specs.BTreeMap.{IsFromIterResult, BTreeMap}
use Rattle.std.specs.Option.{option_map_or}
use Rattle.std.specs.Ordering.{nat_cmp}
use Rattle.gup_exec_parts.specs.Actor.{slots_in}
use Rattle.gup_exec_rows.specs.Stores.{slots_of}
use Rattle.gup_exec_rows.proofs.GridLemmas.{changed, get-copied}
use Rattle.gup_exec_rows.proofs.stores.Stores.copy_of.Goals as goal

made : (c : goal.In_ok-row) → IsFromIterResult nat_cmp (map (changed (λ _ v. v)) c.get-row.result.now.entries) c.in_ok-row.row
made c =
    let es : List (ℕ × ℕ) = c.get-row.result.now.entries in
    let all =
    fact_from_collect (IsFromIterResult nat_cmp) c.collect.result c.collect.ensures.ran
    (YieldsList-from_map _ (changed (λ _ v. v)) (YieldsList-at c.map.ensures.source (YieldsList-from_rest es c.iter.ensures.rest)) c.map.ensures.closure
    (λ x r q k. search rules)) in
    IfOk-at_ok (λ v. IsFromIterResult nat_cmp (map (changed (λ _ v. v)) es) v) c.in_ok-row.was all

pub returns : goal.returns
unfolding slots_of
returns c =
    ap (λ (f : ℕ → Option ℕ). λ k. option_map_or (λ w. w) (f k) 0) (get-copied c.get-row.result.now c.in_ok-row.row c.iter.ensures.ordered (made c))
    ∙ ap (λ (m : BTreeMap ℕ ℕ). slots_in m) c.get-row.ensures
