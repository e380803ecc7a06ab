-- Sums over the numbers below a bound, and how many of these numbers pass a test.
use Rattle.std.proofs.Common.{◌≡◌, ℕ, zero, suc, ◌+◌, ◌<◌, ◌==◌, Bool, true, false, if◌then◌else◌, refl, ap, arith}
use Rattle.std.proofs.lemmas.Bool.Decides.{nat_tests}
use Rattle.gup_plain.specs.Pages.{sum_below}

-- the sums of two functions that differ at one number
pub sum_at : (n : ℕ) (f g : ℕ → ℕ) (k : ℕ) → k < n → ((j : ℕ) → (j == k) ≡ false → f j ≡ g j) → sum_below n f + g k ≡ sum_below n g + f k
sum_at zero f g k less same = absurd (omega arith)
sum_at (suc n) f g zero less same =
    let rest : sum_below n (λ j. f (suc j)) ≡ sum_below n (λ j. g (suc j)) = ap (sum_below n) (λ i j. same (suc j) (grind (arith, nat_tests)) i) in
    omega (arith, rest)
sum_at (suc n) f g (suc k) less same =
    let first : f 0 ≡ g 0 = same 0 (grind (arith, nat_tests)) in
    let rest = sum_at n (λ j. f (suc j)) (λ j. g (suc j)) k (omega arith) (λ j other. same (suc j) (grind (arith, nat_tests))) in
    omega (arith, first, rest)

-- where each is 0
pub sum_zero : (n : ℕ) (f : ℕ → ℕ) → ((k : ℕ) → f k ≡ 0) → sum_below n f ≡ 0
sum_zero zero f none = refl
sum_zero (suc n) f none =
    let rest = sum_zero n (λ k. f (suc k)) (λ k. none (suc k)) in
    omega (arith, none 0, rest)

-- the sums of two functions that are equal below the bound
pub sum_same : (n : ℕ) (f g : ℕ → ℕ) → ((k : ℕ) → k < n → f k ≡ g k) → sum_below n f ≡ sum_below n g
sum_same zero f g same = refl
sum_same (suc n) f g same =
    let rest = sum_same n (λ k. f (suc k)) (λ k. g (suc k)) (λ k less. same (suc k) (omega arith)) in
    omega (arith, same 0 (omega arith), rest)

-- how many of the numbers below n pass the test
abbrev pub passing : ℕ → (ℕ → Bool) → ℕ
passing n test = sum_below n (λ k. if test k then 1 else 0)

pub none_passing : (n : ℕ) (test : ℕ → Bool) → ((k : ℕ) → test k ≡ false) → passing n test ≡ 0
none_passing n test none = sum_zero n (λ k. if test k then 1 else 0) (λ k. ap (λ (b : Bool). if b then 1 else 0) (none k))

-- one more, where one more number passes
pub one_more_passing : (n : ℕ) (before after : ℕ → Bool) (k : ℕ) → k < n → before k ≡ false → after k ≡ true → ((j : ℕ) → (j == k) ≡ false → after j ≡ before j) → passing n after ≡ passing n before + 1
one_more_passing n before after k less was is same =
    let one : Bool → ℕ = λ b. if b then 1 else 0 in
    let sums = sum_at n (λ j. one (after j)) (λ j. one (before j)) k less (λ j other. ap one (same j other)) in
    let was_none : one (before k) ≡ 0 = ap one was in
    let is_one : one (after k) ≡ 1 = ap one is in
    omega (arith, sums, was_none, is_one)

pub same_passing : (n : ℕ) (f g : ℕ → Bool) → ((k : ℕ) → k < n → f k ≡ g k) → passing n f ≡ passing n g
same_passing n f g same =
    sum_same n (λ k. if f k then 1 else 0) (λ k. if g k then 1 else 0) (λ k less. ap (λ (b : Bool). if b then 1 else 0) (same k less))
