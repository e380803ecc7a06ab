use Rattle.std.proofs.Common.{ℕ, ◌+◌, List, Option, map, rules, ap, ◌∙◌}
use Rattle.std.proofs.Math.Path.{fun_ext}
use Rattle.std.proofs.lemmas.Iterator.{YieldsList-from_map}
use Rattle.std.proofs.lemmas.Iterator.Adapters.{fact_from_collect}
use Rattle.std.proofs.lemmas.Iterator.Consumers.{YieldsList-at, YieldsList-from_rest}
use Rattle.std.proofs.lemmas.Result.{IfOk-at_ok}
use Rattle.std.specs.BTreeMap.{IsFromIterResult, get}
use Rattle.std.specs.Ordering.{nat_cmp}
use Rattle.gup_base.specs.declared.entry.Rights.{Rights}
use Rattle.gup_plain.specs.State.{named_or_zero}
use Rattle.gup_exec_rows.specs.Objects.{numbers, object_of}
use Rattle.gup_exec_rows.proofs.GridLemmas.{changed, get-changed}
use Rattle.gup_exec_rows.proofs.ObjectLemmas.{own_object}
use Rattle.gup_exec_rows.proofs.objects.Objects.own.Goals as goal

abbrev to-own : ℕ → ℕ → Rights → ℕ
to-own objects q r = objects + q

made : (c : goal.In_ok-row) → IsFromIterResult nat_cmp (map (changed (to-own c.args.objects)) c.row.result.now.entries) c.in_ok-row.row
made c =
    let es : List (ℕ × Rights) = c.row.result.now.entries in
    let all =
    fact_from_collect (IsFromIterResult nat_cmp) c.collect.result c.collect.ensures.ran
    (YieldsList-from_map _ (changed (to-own c.args.objects)) (YieldsList-at c.map.ensures.source (YieldsList-from_rest es c.iter.ensures.rest)) c.map.ensures.closure
    (λ x r q k. search rules)) in
    IfOk-at_ok (λ v. IsFromIterResult nat_cmp (map (changed (to-own c.args.objects)) es) v) c.in_ok-row.was all

pub returns : goal.returns
unfolding numbers
returns c =
    ap (λ (f : ℕ → Option ℕ). λ q. object_of (f q)) (get-changed (to-own c.args.objects) c.row.result.now c.in_ok-row.row c.iter.ensures.ordered (made c))
    ∙ fun_ext (λ q. own_object (get nat_cmp c.row.result.now q) (c.args.objects + q))
    ∙ ap (λ (f : ℕ → Option Rights). λ q. named_or_zero (f q) (c.args.objects + q)) c.row.ensures
