-- The facts of mapped pages, in order.
use Rattle.std.proofs.Common.{◌≡◌, ℕ, ◌+◌, ◌<◌, ◌≤◌, List, [], ◌++◌, Option, Some, None, refl, ap, sym, ◌∙◌, arith}
use Rattle.gup_base.specs.declared.entry.Entry.{Entry}
use Rattle.gup_base.specs.declared.entry.Rights.{Rights}
use Rattle.gup_plain.specs.Event.{page_numbers}
use Rattle.gup_maps.specs.Table.{IsNextPage, IsLastPage}
use Rattle.gup_image.specs.declared.fact.Fact.{Fact}
use Rattle.gup_image.specs.Gathered.{gathered}
use Rattle.gup_image.specs.Image.{page_fact}
use Rattle.gup_image.proofs.Gathered.{gathered-over, gathered-put-over}

-- past the last number there is no mapped page
pub none_past : (right : ℕ → Option Rights) (from : ℕ) → page_numbers ≤ from → ((page : ℕ) (rights : Rights) → right page ≡ Some rights → page < page_numbers) → IsLastPage right from
none_past right from past numbered g above = go (right g) refl
  where
    go : (o : Option Rights) → right g ≡ o → right g ≡ None
    go None is = is
    go (Some rights) is = let below = numbered g rights is in absurd (omega (arith, past, above, below))

module _ (p : ℕ) (right : ℕ → Option Rights) (entry : ℕ → Option Entry) where
  abbrev pub pages : ℕ → List Fact
  pages page = page_fact p page (right page) (entry page)

  unmapped : (page : ℕ) → right page ≡ None → pages page ≡ []
  unmapped page none = ap (λ (o : Option Rights). page_fact p page o (entry page)) none

  -- the next mapped page is put on
  pub page_put : (from page : ℕ) (first facts new : List Fact) → IsNextPage right from page → facts ≡ first ++ gathered pages from → new ≡ facts ++ pages page → new ≡ first ++ gathered pages (page + 1)
  page_put from page first facts new next is more =
      gathered-put-over pages from page first facts new next.above (λ j above below. unmapped j (next.least j above below)) is more

  -- and there is none any more
  pub pages_all : (from n : ℕ) (first facts : List Fact) → from ≤ n → IsLastPage right from → facts ≡ first ++ gathered pages from → facts ≡ first ++ gathered pages n
  pages_all from n first facts below last is =
      is ∙ ap (λ (xs : List Fact). first ++ xs) (sym (gathered-over pages from n below (λ j above under. unmapped j (last j above))))
