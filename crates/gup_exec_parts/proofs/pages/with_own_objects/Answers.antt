use Rattle.std.proofs.Common.{ℕ, List, map, rules, ◌∙◌}
use Rattle.std.proofs.lemmas.Iterator.{YieldsList-from_map}
use Rattle.std.proofs.lemmas.Iterator.Adapters.{fact_from_collect}
use Rattle.std.proofs.lemmas.Iterator.Consumers.{YieldsList-at, YieldsList-from_rest}
use Rattle.std.proofs.lemmas.Result.{IfOk-at_ok}
use Rattle.std.specs.BTreeMap.{BTreeMap, IsFromIterResult}
use Rattle.std.specs.Ordering.{nat_cmp}
use Rattle.gup_exec_parts.specs.declared.pages.Page.{Page}
use Rattle.gup_exec_parts.proofs.CountedPages.{mapped-len}
use Rattle.gup_exec_parts.proofs.OwnObjects.{own_entry, get-own, len-own}
use Rattle.gup_exec_parts.proofs.pages.with_own_objects.Goals as goal

-- the new map has been collected from the entries
made : (c : goal.In_ok-own) → IsFromIterResult nat_cmp (map (own_entry c.args.objects) c.args.pages.now.entries) c.in_ok-own.own
made c =
    let es : List (ℕ × Page) = c.args.pages.now.entries in
    let all =
    fact_from_collect (IsFromIterResult nat_cmp) c.collect.result c.collect.ensures.ran
    (YieldsList-from_map _ (own_entry c.args.objects) (YieldsList-at c.map.ensures.source (YieldsList-from_rest es c.iter.ensures.rest)) c.map.ensures.closure
    (λ x r q k. search rules)) in
    IfOk-at_ok (λ v. IsFromIterResult nat_cmp (map (own_entry c.args.objects) es) v) c.in_ok-own.was all

pub returns-clause-pages : goal.returns-clause-pages
returns-clause-pages c = get-own c.args.objects c.args.pages.now c.in_ok-own.own c.iter.ensures.ordered (made c)

pub returns-clause-len : goal.returns-clause-len
returns-clause-len c =
    len-own c.args.objects c.args.pages.now c.in_ok-own.own c.iter.ensures.ordered (made c).1
    (get-own c.args.objects c.args.pages.now c.in_ok-own.own c.iter.ensures.ordered (made c))

pub returns-clause-counted : goal.returns-clause-counted
returns-clause-counted c = λ numbered.
    let pages : BTreeMap ℕ Page = c.args.pages.now in
    len-own c.args.objects pages c.in_ok-own.own c.iter.ensures.ordered (made c).1
    (get-own c.args.objects pages c.in_ok-own.own c.iter.ensures.ordered (made c))
    ∙ mapped-len pages c.iter.ensures.ordered numbered
