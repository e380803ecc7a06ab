-- How many tables of a page's path are missing: those below the lowest that is there.
use Rattle.std.proofs.Common.{add-zero, ◌≡◌, ℕ, zero, suc, ◌+◌, ◌-◌, ◌<◌, ◌≤◌, Option, Some, None, IsSome, refl, ap, ◌∙◌, arith}
use Rattle.gup_spec_tables.specs.declared.place.Place.{Place}
use Rattle.gup_tables.specs.Kept.{IsTree, IsLowest}
use Rattle.gup_spec_tables.specs.Tables.{table_at, on_path, lacks}
use Rattle.gup_tables.specs.Tree.{entry_at, tree_by}
use Rattle.gup_tables.proofs.Paths.{path_above}
use Rattle.gup_tables.proofs.Places.{at_some, found, no_table}

module _ (place : ℕ → Option Place) (word : ℕ → ℕ → ℕ) (root : Option ℕ) (tree : IsTree place word root) (page : ℕ) where
  -- above a table on the path stands another
  up : (level : ℕ) → level < 4 → (o : Option ℕ) → table_at place (on_path level page) ≡ o → IsSome (table_at place (on_path level page)) → IsSome (table_at place (on_path (level + 1) page))
  up level lower None is some = absurd (no_table (table_at place (on_path level page)) some is)
  up level lower (Some table) is some =
      rw (path_above level page lower) at (tree.linked table (on_path level page) ((at_some place (on_path level page) table is).1) lower)

  pub none_under : (level : ℕ) → level < 4 → table_at place (on_path (level + 1) page) ≡ None → table_at place (on_path level page) ≡ None
  none_under level lower none = go (table_at place (on_path level page)) refl
    where
      go : (o : Option ℕ) → table_at place (on_path level page) ≡ o → table_at place (on_path level page) ≡ None
      go None is = is
      go (Some table) is =
          let over : IsSome (table_at place (on_path (level + 1) page)) = up level lower (table_at place (on_path level page)) refl (rw is refl) in
          absurd (no_table (table_at place (on_path (level + 1) page)) over none)

  pub none_lower : (level more : ℕ) → level + more ≤ 4 → table_at place (on_path (level + more) page) ≡ None → table_at place (on_path level page) ≡ None
  none_lower level zero few none = rw (add-zero level) at none
  none_lower level (suc more) few none =
      none_lower level more (omega (arith, few)) (none_under (level + more) (omega (arith, few)) (ap (λ k. table_at place (on_path k page)) (omega arith) ∙ none))

  -- all are missing
  pub lacks_all : (tables room : ℕ) → table_at place (on_path 4 page) ≡ None → lacks (tree_by place word tables room) page ≡ 4
  lacks_all tables room none =
      let third = none_under 3 (omega arith) none in
      let second = none_under 2 (omega arith) third in
      let first = none_under 1 (omega arith) second in
      rw (first, second, third, none) refl

  -- those below a level are
  pub lacks_below : (tables room level : ℕ) → 0 < level → level ≤ 4 → IsSome (table_at place (on_path level page)) → (1 < level → table_at place (on_path (level - 1) page) ≡ None) → lacks (tree_by place word tables room) page ≡ level - 1
  lacks_below tables room zero more few some none = absurd (omega (arith, more))
  lacks_below tables room (suc zero) more few some none =
      let second = up 1 (omega arith) _ refl some in
      let third = up 2 (omega arith) _ refl second in
      let fourth = up 3 (omega arith) _ refl third in
      rw (some, second, third, fourth) refl
  lacks_below tables room (suc (suc zero)) more few some none =
      let first = none (omega arith) in
      let third = up 2 (omega arith) _ refl some in
      let fourth = up 3 (omega arith) _ refl third in
      rw (first, some, third, fourth) refl
  lacks_below tables room (suc (suc (suc zero))) more few some none =
      let second = none (omega arith) in
      let first = none_under 1 (omega arith) second in
      let fourth = up 3 (omega arith) _ refl some in
      rw (first, second, some, fourth) refl
  lacks_below tables room (suc (suc (suc (suc zero)))) more few some none =
      let third = none (omega arith) in
      let second = none_under 2 (omega arith) third in
      let first = none_under 1 (omega arith) second in
      rw (first, second, third, some) refl
  lacks_below tables room (suc (suc (suc (suc (suc level))))) more few some none = absurd (omega (arith, few))

  -- so many as are below what is found on the path
  pub lowest_lacks : (tables room table level : ℕ) → IsLowest (tree_by place word tables room) page 1 (record { table = table; level = level }) → lacks (tree_by place word tables room) page ≡ level - 1
  lowest_lacks tables room table level low =
      lacks_below tables room level (omega (arith, low.within.0)) low.within.1
      (rw (found place table (on_path level page) (record { numbered = tree.numbered; apart = tree.apart }) low.there) refl)
      low.last

  -- a page with an entry lacks none
  pub entered_lacks : (tables room : ℕ) (o : Option ℕ) → table_at place (on_path 1 page) ≡ o → IsSome (entry_at word (table_at place (on_path 1 page)) page) → lacks (tree_by place word tables room) page ≡ 0
  entered_lacks tables room None is some = absurd (cc (rw is at some))
  entered_lacks tables room (Some table) is some =
      lacks_below tables room 1 (omega arith) (omega arith) (rw is refl) (λ less. absurd (omega (arith, less)))
