use Rattle.std.proofs.Common.{◌≡◌, ℕ, ◌+◌, ◌-◌, ◌<◌, Option, Some, IsSome, sym, subst, ap, ◌∙◌, arith}
use Rattle.std.proofs.lemmas.Bool.Decides.{nat_tests}
use Rattle.std.specs.BTreeMap.{get, btree_map_len}
use Rattle.std.specs.Ordering.{nat_cmp}
use Rattle.gup_base.specs.declared.entry.Rights.{Rights}
use Rattle.gup_plain.specs.Put.{spread}
use Rattle.gup_exec_parts.specs.declared.pages.Page.{Page}
use Rattle.gup_exec_parts.specs.Pages.{pages_from, page_with}
use Rattle.gup_exec_parts.proofs.ResultLemmas.{at_err, at_ok}
use Rattle.gup_exec_parts.proofs.TableLemmas.{still, grown, undone}
use Rattle.gup_exec_parts.proofs.pages.map.Goals as goal

pub insert-requires : goal.insert-requires
insert-requires c =
    let f : ℕ → Option Page = get nat_cmp c.args.pages.now in
    let same = still f (pages_from c.args.first c.args.rights c.args.object) (get nat_cmp c.loop-k.pages) c.args.first c.loop-k.k c.nth.result c.loop-k.invariant.pages c.nth.ensures in
    same ∙ c.requires.free c.loop-k.k c.loop-k-test.true

in-range : (first rights-object k n : ℕ) (r : Rights) (f : ℕ → Option Page) → k < n → IsSome (spread first n (pages_from first r rights-object) f (first + k))
in-range first rights-object k n r f within = grind (arith, nat_tests)

pub unmap-requires-clause-mapped : goal.unmap-requires-clause-mapped
unmap-requires-clause-mapped c =
    λ k within.
    let f : ℕ → Option Page = get nat_cmp c.args.pages.now in
    let P : (ℕ → Option Page) → Type 0 = λ h. IsSome (h (c.args.first + k)) in
    let kept = at_err c.insert.result c.if-is_err.ensures.value c.insert.ensures.err in
    let as_before : get nat_cmp c.insert.new.pages ≡ get nat_cmp c.loop-k.pages = rw kept in
    subst P (sym (as_before ∙ c.loop-k.invariant.pages)) (in-range c.args.first c.args.object k c.loop-k.k c.args.rights f within)

pub returns-then-is_err-clause-err : goal.returns-then-is_err-clause-err
returns-then-is_err-clause-err c =
    let f : ℕ → Option Page = get nat_cmp c.args.pages.now in
    let kept = at_err c.insert.result c.if-is_err.ensures.value c.insert.ensures.err in
    let as_before : get nat_cmp c.insert.new.pages ≡ get nat_cmp c.loop-k.pages = rw kept in
    let len : btree_map_len c.insert.new.pages ≡ btree_map_len c.loop-k.pages = rw kept in (
      undone f (pages_from c.args.first c.args.rights c.args.object) (get nat_cmp c.insert.new.pages) (get nat_cmp c.unmap.new.pages) c.args.first c.args.n c.loop-k.k
          c.requires.free (omega arith) (as_before ∙ c.loop-k.invariant.pages) c.unmap.ensures.pages,
      omega arith,
    )

entry-is : (r : Rights) (first object k : ℕ) → Some (page_with r (object + k)) ≡ pages_from first r object (first + k)
entry-is r first object k = let e : k ≡ (first + k) - first = omega arith in ap (λ (n : ℕ). Some (page_with r (object + n))) e

pub loop-k-preserved : goal.loop-k-preserved
loop-k-preserved c =
    let f : ℕ → Option Page = get nat_cmp c.args.pages.now in
    let more = at_ok c.insert.result c.if-is_err.ensures.value c.insert.ensures.pages in
    let len = at_ok c.insert.result c.if-is_err.ensures.value c.insert.ensures.len in
    let entry : Page = page_with c.args.rights (c.args.object + c.from.result) in
    record {
      pages =
          grown f (pages_from c.args.first c.args.rights c.args.object) (get nat_cmp c.loop-k.pages) (get nat_cmp c.insert.new.pages) c.args.first c.loop-k.k c.nth.result (Some entry)
          c.loop-k.invariant.pages c.nth.ensures more (rw c.from.ensures (entry-is c.args.rights c.args.first c.args.object c.loop-k.k));
      len = omega arith;
    }
