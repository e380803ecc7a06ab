use Rattle.std.proofs.Common.{ℕ, Option, None, IsSome, refl, sym, subst, arith}
use Rattle.std.specs.BTreeMap.{get}
use Rattle.std.specs.Ordering.{nat_cmp}
use Rattle.gup_exec_parts.specs.declared.pages.Page.{Page}
use Rattle.gup_exec_parts.proofs.TableLemmas.{still, grown}
use Rattle.gup_exec_parts.proofs.pages.unmap.Goals as goal

pub remove-requires : goal.remove-requires
remove-requires c =
    let f : ℕ → Option Page = get nat_cmp c.args.pages.now in
    let g : ℕ → Option Page = λ _. None in
    let same = still f g (get nat_cmp c.loop-k.pages) c.args.first c.loop-k.k c.nth.result c.loop-k.invariant.pages c.nth.ensures in
    let P : Option Page → Type 0 = λ o. IsSome o in
    subst P (sym same) (c.requires.mapped c.loop-k.k c.loop-k-test.true)

pub loop-k-preserved : goal.loop-k-preserved
loop-k-preserved c =
    let f : ℕ → Option Page = get nat_cmp c.args.pages.now in
    let g : ℕ → Option Page = λ _. None in
    record {
      pages =
          grown f g (get nat_cmp c.loop-k.pages) (get nat_cmp c.remove.new.pages) c.args.first c.loop-k.k c.nth.result None
          c.loop-k.invariant.pages c.nth.ensures c.remove.ensures.pages refl;
      len = omega arith;
    }
