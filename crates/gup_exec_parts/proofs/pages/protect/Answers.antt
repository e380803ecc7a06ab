use Rattle.std.proofs.Common.{◌≡◌, ℕ, Option, IsSome, sym, subst, ap, ◌∙◌, arith}
use Rattle.std.specs.BTreeMap.{get}
use Rattle.std.specs.Ordering.{nat_cmp}
use Rattle.gup_plain.specs.Put.{spread}
use Rattle.gup_exec_parts.specs.declared.pages.Page.{Page}
use Rattle.gup_exec_parts.specs.Pages.{with_rights}
use Rattle.gup_exec_parts.proofs.TableLemmas.{still, grown}
use Rattle.gup_exec_parts.proofs.pages.protect.Goals as goal

pub set_rights-requires : goal.set_rights-requires
set_rights-requires c =
    let f : ℕ → Option Page = get nat_cmp c.args.pages.now in
    let g : ℕ → Option Page = λ page. with_rights c.args.rights (f page) in
    let same = still f g (get nat_cmp c.loop-k.pages) c.args.first c.loop-k.k c.nth.result c.loop-k.invariant.pages c.nth.ensures in
    let P : Option Page → Type 0 = λ o. IsSome o in
    subst P (sym same) (c.requires.mapped c.loop-k.k c.loop-k-test.true)

pub loop-k-preserved : goal.loop-k-preserved
loop-k-preserved c =
    let f : ℕ → Option Page = get nat_cmp c.args.pages.now in
    let h : ℕ → Option Page = get nat_cmp c.loop-k.pages in
    let g : ℕ → Option Page = λ page. with_rights c.args.rights (f page) in
    let same = still f g h c.args.first c.loop-k.k c.nth.result c.loop-k.invariant.pages c.nth.ensures in
    record {
      pages =
          grown f g h (get nat_cmp c.set_rights.new.pages) c.args.first c.loop-k.k c.nth.result (with_rights c.args.rights (h c.nth.result))
          c.loop-k.invariant.pages c.nth.ensures c.set_rights.ensures.pages (ap (λ (o : Option Page). with_rights c.args.rights o) same);
      len = c.set_rights.ensures.len ∙ c.loop-k.invariant.len;
    }

pub returns-clause-pages : goal.returns-clause-pages
returns-clause-pages c =
    let f : ℕ → Option Page = get nat_cmp c.args.pages.now in
    let g : ℕ → Option Page = λ page. with_rights c.args.rights (f page) in
    let all : c.loop-k.k ≡ c.args.n = omega arith in
    c.loop-k.invariant.pages ∙ ap (λ (n : ℕ). spread c.args.first n g f) all
