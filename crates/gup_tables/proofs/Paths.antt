-- The four places on a page's path.
use Rattle.std.proofs.Common.{◌≡◌, ℕ, zero, suc, ◌+◌, ◌-◌, ◌*◌, ◌/◌, ◌%◌, ◌^◌, ◌<◌, ◌≤◌, ◌==◌, false, Option, Some, None, IfSome, refl, ap, sym, ◌∙◌, arith}
use Rattle.std.proofs.lemmas.Bool.Decides.{nat_tests}
use Rattle.gup_spec_tables.specs.declared.place.Place.{Place}
use Rattle.gup_tables.specs.Kept.{IsTree}
use Rattle.gup_spec_tables.specs.Tables.{table_numbers, table_at, on_path, above, below, link_to}
use Rattle.gup_tables.proofs.Places.{same_place, at_some}

pub path_root : (page : ℕ) → page < 2 ^ 35 → on_path 4 page ≡ on_path 4 0
path_root page within = same_place (on_path 4 0) (on_path 4 page) refl (omega (arith, within))

span_above : (level page : ℕ) → level < 4 → page / 512 ^ level / 512 ≡ page / 512 ^ (level + 1)
span_above zero page less = omega arith
span_above (suc zero) page less = omega arith
span_above (suc (suc zero)) page less = omega arith
span_above (suc (suc (suc zero))) page less = omega arith
span_above (suc (suc (suc (suc level)))) page less = absurd (omega (arith, less))

pub path_above : (level page : ℕ) → level < 4 → above (on_path level page) ≡ on_path (level + 1) page
path_above level page less = same_place (on_path (level + 1) page) (above (on_path level page)) refl (span_above level page less)

span_under : (level page : ℕ) → level < 4 → 512 * (page / 512 ^ suc level) + page / 512 ^ level % 512 ≡ page / 512 ^ level
span_under zero page few = omega arith
span_under (suc zero) page few = omega arith
span_under (suc (suc zero)) page few = omega arith
span_under (suc (suc (suc zero))) page few = omega arith
span_under (suc (suc (suc (suc level)))) page few = absurd (omega (arith, few))

pub path_under : (level page : ℕ) → level < 4 → below (on_path (suc level) page) (page / 512 ^ level % 512) ≡ on_path level page
path_under level page few = same_place (on_path level page) (below (on_path (suc level) page) (page / 512 ^ level % 512)) (omega arith) (span_under level page few)

pub path_below : (level page : ℕ) → 0 < level → level ≤ 4 → below (on_path level page) (page / 512 ^ (level - 1) % 512) ≡ on_path (level - 1) page
path_below zero page some few = absurd (omega (arith, some))
path_below (suc level) page some few =
    let is : suc level - 1 ≡ level = omega arith in
    ap (λ k. below (on_path (suc level) page) (page / 512 ^ k % 512)) is ∙ path_under level page (omega (arith, few)) ∙ ap (λ k. on_path k page) (sym is)

module _ (place : ℕ → Option Place) (word : ℕ → ℕ → ℕ) (root : Option ℕ) (tree : IsTree place word root) where
  -- the root stands on the path of each page
  pub root_there : (table page : ℕ) → root ≡ Some table → page < 2 ^ 35 → place table ≡ Some (on_path 4 page)
  root_there table page is within =
      (at_some place (on_path 4 0) table (sym tree.root_there ∙ is)).1 ∙ ap Some (sym (path_root page within))

  -- the word on the page's path leads to the next table on it
  pub path_word : (table level page : ℕ) → place table ≡ Some (on_path level page) → 1 < level → level ≤ 4 → word table (page / 512 ^ (level - 1) % 512) ≡ link_to (table_at place (on_path (level - 1) page))
  path_word table level page there upper few =
      let test : (level == 1) ≡ false = grind (arith, nat_tests) in
      tree.words table (page / 512 ^ (level - 1) % 512) (on_path level page) there (omega arith)
      ∙ rw test (ap (λ p. link_to (table_at place p)) (path_below level page (omega (arith, upper)) few))

pub found_small : (place : ℕ → Option Place) (p : Place) (o : Option ℕ) → table_at place p ≡ o → IfSome (table_at place p) (λ t. t < table_numbers)
found_small place p None is = rw is tt
found_small place p (Some table) is = rw is ((at_some place p table is).0)

-- what is read in the word is the next table
pub next_table : (place : ℕ → Option Place) (word : ℕ → ℕ → ℕ) (root : Option ℕ) → IsTree place word root → (table level page i w : ℕ) (got : Option ℕ) → place table ≡ Some (on_path level page) → 1 < level → level ≤ 4 → i ≡ page / 512 ^ (level - 1) % 512 → w ≡ word table i → ((t : Option ℕ) → IfSome t (λ n. n < 8192) → w ≡ link_to t → got ≡ t) → got ≡ table_at place (on_path (level - 1) page)
unfolding table_numbers
next_table place word root tree table level page i w got there upper few at read says =
    says (table_at place (on_path (level - 1) page)) (found_small place (on_path (level - 1) page) (table_at place (on_path (level - 1) page)) refl)
    (read ∙ ap (word table) at ∙ path_word place word root tree table level page there upper few)
