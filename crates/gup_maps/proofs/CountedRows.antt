-- There are as many rows as pages that have a value.
use Rattle.std.proofs.Common.{◌≡◌, ℕ, suc, ◌<◌, ◌==◌, true, false, cond, List, [], ◌∷◌, length, get_or, Option, Some, None, is_some, refl, ap, arith}
use Rattle.std.proofs.lemmas.Bool.Decides.{nat_tests}
use Rattle.gup_plain.specs.Pages.{page_numbers}
use Rattle.gup_plain.proofs.Sums.{passing, none_passing, one_more_passing}
use Rattle.gup_maps.specs.Table.{at, pages_of, IsOrdered, IsKept}
use Rattle.gup_maps.proofs.Values.{at_none, length-pages}

own_row : {V : Type 0} (page : ℕ) (value : V) (rest : Option V) → is_some (cond (page == page) (Some value) rest) ≡ true
own_row page value rest = grind (arith, nat_tests)

other_row : {V : Type 0} (page other : ℕ) (value : V) (rest : Option V) → (page == other) ≡ false → is_some (cond (page == other) (Some value) rest) ≡ is_some rest
other_row page other value rest apart = grind (arith, nat_tests)

-- where each page is below n
counted_rows : {V : Type 0} (n : ℕ) (rows : List (ℕ × V)) → IsOrdered (pages_of rows) → ((i : ℕ) → i < length rows → get_or (pages_of rows) i 0 < n) → passing n (λ page. is_some (at rows page)) ≡ length rows
counted_rows n [] ordered below = none_passing n (λ page. false) (λ page. refl)
counted_rows n (row ∷ rows) ordered below =
    let len : length (pages_of rows) ≡ length rows = length-pages rows in
    let gone : at rows row.0 ≡ None =
    at_none rows row.0 (λ i inside is. let above : row.0 < get_or (pages_of rows) i 0 = ordered 0 (suc i) (omega arith) (omega arith) in omega arith) in
    let more =
    one_more_passing n (λ page. is_some (at rows page)) (λ page. is_some (at (row ∷ rows) page)) row.0
    (below 0 (omega arith)) (ap is_some gone) (own_row row.0 row.1 (at rows row.0)) (λ page apart. other_row page row.0 row.1 (at rows page) apart) in
    let rest = counted_rows n rows (λ i j less inside. ordered (suc i) (suc j) (omega arith) (omega arith)) (λ i inside. below (suc i) (omega arith)) in
    omega (arith, more, rest)

-- the rows of a table
pub counted_table : {V : Type 0} (rows : List (ℕ × V)) → IsKept rows → passing page_numbers (λ page. is_some (at rows page)) ≡ length rows
counted_table rows kept =
    let len : length (pages_of rows) ≡ length rows = length-pages rows in
    counted_rows page_numbers rows kept.ordered (λ i inside. kept.numbered i (omega arith))
