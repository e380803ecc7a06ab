-- Sums over the numbers below a bound.
use Rattle.std.proofs.Common.{◌≡◌, ℕ, ◌+◌, ◌<◌, ◌≤◌, ◌==◌, false, if◌then◌else◌, refl, zero, suc, arith, List, [], ◌∷◌, length, Option, Some}
use Rattle.std.specs.Prelude.{slice_get, sum_by}
use Rattle.std.proofs.lemmas.Bool.Decides.{nat_tests}
use Rattle.std.proofs.lemmas.List.Sums.{sum_by-cons}
use Rattle.gup_plain.specs.Put.{within}
use Rattle.gup_plain.specs.Pages.{sum_below}
pub use Rattle.gup_plain.proofs.Sums.{sum_at, sum_zero, sum_same}

pub sum_le : (n : ℕ) (f g : ℕ → ℕ) → ((k : ℕ) → f k ≤ g k) → sum_below n f ≤ sum_below n g
sum_le zero f g le = omega arith
sum_le (suc n) f g le =
    let rest = sum_le n (λ k. f (suc k)) (λ k. g (suc k)) (λ k. le (suc k)) in
    omega (arith, le 0, rest)

pub sum_less : (n : ℕ) (f g : ℕ → ℕ) (k : ℕ) → k < n → ((j : ℕ) → f j ≤ g j) → f k < g k → sum_below n f < sum_below n g
sum_less zero f g k less le here = absurd (omega arith)
sum_less (suc n) f g zero less le here =
    let rest = sum_le n (λ j. f (suc j)) (λ j. g (suc j)) (λ j. le (suc j)) in
    omega (arith, rest)
sum_less (suc n) f g (suc k) less le here =
    let rest = sum_less n (λ j. f (suc j)) (λ j. g (suc j)) k (omega arith) (λ j. le (suc j)) here in
    omega (arith, le 0, rest)

-- one more at one number
pub sum_more : (n : ℕ) (f g : ℕ → ℕ) (k : ℕ) → ((j : ℕ) → (j == k) ≡ false → f j ≤ g j) → f k ≤ g k + 1 → sum_below n f ≤ sum_below n g + 1
sum_more zero f g k le here = omega arith
sum_more (suc n) f g zero le here =
    let rest = sum_le n (λ j. f (suc j)) (λ j. g (suc j)) (λ j. le (suc j) (grind (arith, nat_tests))) in
    omega (arith, here, rest)
sum_more (suc n) f g (suc k) le here =
    let first : f 0 ≤ g 0 = le 0 (grind (arith, nat_tests)) in
    let rest = sum_more n (λ j. f (suc j)) (λ j. g (suc j)) k (λ j other. le (suc j) (grind (arith, nat_tests))) here in
    omega (arith, first, rest)

-- one more at each of m numbers
pub sum_spread : (n first m : ℕ) (f g : ℕ → ℕ) → ((k : ℕ) → within first m k ≡ false → f k ≤ g k) → ((k : ℕ) → f k ≤ g k + 1) → sum_below n f ≤ sum_below n g + m
sum_spread n first zero f g outside most =
    let rest = sum_le n f g (λ k. outside k (grind (arith, nat_tests))) in
    omega (arith, rest)
sum_spread n first (suc m) f g outside most =
    let h : ℕ → ℕ = λ k. if k == first + m then g k else f k in
    let fewer = sum_spread n first m h g (λ k other. grind (arith, nat_tests, outside k)) (λ k. grind (arith, nat_tests, most k)) in
    let last = sum_more n f h (first + m) (λ j other. grind (arith, nat_tests)) (grind (arith, nat_tests, most (first + m))) in
    omega (arith, fewer, last)

-- the sum over the elements of a list
pub sum_of_list : {X : Type 0} (xs : List X) (g : Option X → ℕ) → sum_below (length xs) (λ k. g (slice_get xs k)) ≡ sum_by (λ (x : X). g (Some x)) xs
sum_of_list [] g = refl
sum_of_list {X = X} (x ∷ xs) g =
    let rest = sum_of_list xs g in
    let all = sum_by-cons (λ (y : X). g (Some y)) x xs in
    omega (arith, rest, all)

-- one at most at each number
pub sum_ones : (n : ℕ) (f : ℕ → ℕ) → ((k : ℕ) → f k ≤ 1) → sum_below n f ≤ n
sum_ones zero f ones = omega arith
sum_ones (suc n) f ones =
    let rest = sum_ones n (λ k. f (suc k)) (λ k. ones (suc k)) in
    omega (arith, ones 0, rest)

-- of two functions together
pub sum_both : (n : ℕ) (f g : ℕ → ℕ) → sum_below n (λ k. f k + g k) ≡ sum_below n f + sum_below n g
sum_both zero f g = refl
sum_both (suc n) f g =
    let rest = sum_both n (λ k. f (suc k)) (λ k. g (suc k)) in
    omega (arith, rest)
