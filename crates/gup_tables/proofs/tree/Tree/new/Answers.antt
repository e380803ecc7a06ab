use Rattle.std.proofs.Common.{◌≡◌, ℕ, None, Some, Option, ap, sym}
use Rattle.gup_bits.proofs.Lowest.{lowest_none}
use Rattle.gup_spec_tables.specs.declared.place.Place.{Place}
use Rattle.gup_spec_tables.specs.Tables.{table_numbers, is_at, on_path}
use Rattle.gup_tables.specs.Rows.{place_in}
use Rattle.gup_tables.proofs.tree.Tree.new.Goals as goal

nothing : (place : ℕ → Option Place) → place ≡ (λ _. None) → (table : ℕ) (p : Place) → place table ≡ Some p → ⊥
nothing place none table p there = let is : place table ≡ None = ap (λ f. f table) none in absurd cc

pub invariant_of-result : goal.invariant_of-result
invariant_of-result c =
    let none = c.in_ok-rows.ensures.places in
    record {
      root_there = sym (lowest_none 0 table_numbers (λ t. is_at (on_path 4 0) (place_in c.in_ok-rows.rows t)) (λ t more less. ap (λ f. is_at (on_path 4 0) (f t)) none));
      numbered = λ t p there. absurd (nothing _ none t p there);
      levels = λ t p there. absurd (nothing _ none t p there);
      root_span = λ t p there. absurd (nothing _ none t p there);
      leaf_span = λ t p there. absurd (nothing _ none t p there);
      apart = λ t u p there. absurd (nothing _ none t p there);
      linked = λ t p there. absurd (nothing _ none t p there);
      words = λ t i p there. absurd (nothing _ none t p there);
    }
