use Rattle.std.proofs.Common.{◌≡◌, ℕ, ◌<◌, ◌≤◌, ◌^◌, Option, MatchOption, false, true, sym, subst, ⊎_elim}
use Rattle.std.proofs.lemmas.Bool.{cases_lt}
use Rattle.gup_plain.specs.Pages.{page_numbers}
use Rattle.gup_maps.specs.Table.{IsNextPage, IsLastPage}
use Rattle.gup_space.specs.Space.{space_of}
use Rattle.gup_image.proofs.Pages.{none_past}
use Rattle.gup_image.proofs.processes.next_page.Goals as goal

past : (n : ℕ) → 2 ^ 35 ≤ n → page_numbers ≤ n
unfolding page_numbers
past n more = more

-- it is no number of a page
no_page : (n : ℕ) → (n < 2 ^ 35 → ⊥) → page_numbers ≤ n
no_page n none =
    ⊎_elim (λ (below : n < 2 ^ 35). absurd (none below)) (λ (more : 2 ^ 35 ≤ n). past n more) (cases_lt n (2 ^ 35))

pub returns-in_err-first : goal.returns-in_err-first
returns-in_err-first c =
    subst (λ (o : Option ℕ). MatchOption o (IsLastPage (space_of c.args.space.now).right c.args.from) (IsNextPage (space_of c.args.space.now).right c.args.from))
    (sym c.from_residual.ensures)
    (none_past (space_of c.args.space.now).right c.args.from (no_page c.args.from (λ below. let no : false ≡ true = c.in_err-first.ensures.some.1 below in absurd (cc))) c.requires)
