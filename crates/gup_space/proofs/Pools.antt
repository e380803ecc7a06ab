-- The lowest free table and the number of free ones are the same among a pool's tables and among all numbers, since no others are free.
use Rattle.std.proofs.Common.{◌≡◌, ℕ, ◌+◌, ◌-◌, ◌≤◌, Bool, false, if◌then◌else◌, Option, Some, None, refl, ap, ◌∙◌, zero, suc, arith}
use Rattle.gup_plain.specs.Pages.{sum_below}
use Rattle.gup_plain.specs.Put.{lowest}
use Rattle.gup_plain.proofs.Sums.{sum_zero}

-- none passes past the n first ones

none_passes : (first n : ℕ) (test : ℕ → Bool) → ((k : ℕ) → first ≤ k → test k ≡ false) → lowest first n test ≡ None
none_passes first zero test none = refl
none_passes first (suc n) test none =
    ap (λ (b : Bool). if b then Some first else lowest (first + 1) n test) (none first (omega arith))
    ∙ none_passes (first + 1) n test (λ k least. none k (omega arith))

lowest_past : (first n m : ℕ) (test : ℕ → Bool) → ((k : ℕ) → first + n ≤ k → test k ≡ false) → lowest first (n + m) test ≡ lowest first n test
lowest_past first zero m test none =
    let few : 0 + m ≡ m = omega arith in
    ap (λ (k : ℕ). lowest first k test) few ∙ none_passes first m test (λ k least. none k (omega arith))
lowest_past first (suc n) m test none =
    let more : suc n + m ≡ suc (n + m) = omega arith in
    ap (λ (k : ℕ). lowest first k test) more
    ∙ ap (λ (o : Option ℕ). if test first then Some first else o) (lowest_past (first + 1) n m test (λ k least. none k (omega arith)))

pub lowest_among : (n all : ℕ) (test : ℕ → Bool) → n ≤ all → ((k : ℕ) → n ≤ k → test k ≡ false) → lowest 0 all test ≡ lowest 0 n test
lowest_among n all test few none =
    let sum : all ≡ n + (all - n) = omega arith in
    ap (λ (k : ℕ). lowest 0 k test) sum ∙ lowest_past 0 n (all - n) test (λ k least. none k (omega arith))

-- nor is any counted

count_past : (n m : ℕ) (count : ℕ → ℕ) → ((k : ℕ) → n ≤ k → count k ≡ 0) → sum_below (n + m) count ≡ sum_below n count
count_past zero m count none =
    let few : 0 + m ≡ m = omega arith in
    ap (λ (k : ℕ). sum_below k count) few ∙ sum_zero m count (λ k. none k (omega arith))
count_past (suc n) m count none =
    let more : suc n + m ≡ suc (n + m) = omega arith in
    ap (λ (k : ℕ). sum_below k count) more
    ∙ ap (λ (rest : ℕ). count 0 + rest) (count_past n m (λ k. count (suc k)) (λ k least. none (suc k) (omega arith)))

pub count_among : (n all : ℕ) (count : ℕ → ℕ) → n ≤ all → ((k : ℕ) → n ≤ k → count k ≡ 0) → sum_below all count ≡ sum_below n count
count_among n all count few none =
    let sum : all ≡ n + (all - n) = omega arith in
    ap (λ (k : ℕ). sum_below k count) sum ∙ count_past n (all - n) count none
