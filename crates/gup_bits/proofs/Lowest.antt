-- The lowest of some numbers in a row that passes a test.
use Rattle.std.proofs.Common.{◌≡◌, ◌≢◌, ℕ, zero, suc, ◌+◌, ◌<◌, ◌≤◌, Bool, true, false, cond, Some, None, refl, ap, ◌∙◌, ⊎_elim, arith}
use Rattle.std.proofs.lemmas.Bool.{cases_Bool, cases_eq}
use Rattle.gup_plain.specs.Put.{lowest}

-- one passes, and none before it
pub lowest_is : (first n : ℕ) (test : ℕ → Bool) (k : ℕ) → first ≤ k → k < first + n → test k ≡ true → ((j : ℕ) → first ≤ j → j < k → test j ≡ false) → lowest first n test ≡ Some k
lowest_is first zero test k above below is before = absurd (omega arith)
lowest_is first (suc n) test k above below is before =
    ⊎_elim
    (λ (e : first ≡ k). rw e (rw is refl))
    (λ (ne : first ≢ k).
    rw (before first (omega arith) (omega arith)) (lowest_is (first + 1) n test k (omega arith) (omega arith) is (λ j h l. before j (omega arith) l)))
    (cases_eq first k)

-- none passes
pub lowest_none : (first n : ℕ) (test : ℕ → Bool) → ((j : ℕ) → first ≤ j → j < first + n → test j ≡ false) → lowest first n test ≡ None
lowest_none first zero test none = refl
lowest_none first (suc n) test none =
    rw (none first (omega arith) (omega arith)) (lowest_none (first + 1) n test (λ j h l. none j (omega arith) (omega arith)))

-- two tests that agree on the n numbers
pub lowest_same : (first n : ℕ) (p q : ℕ → Bool) → ((j : ℕ) → first ≤ j → j < first + n → p j ≡ q j) → lowest first n p ≡ lowest first n q
lowest_same first zero p q same = refl
lowest_same first (suc n) p q same =
    ap (λ b. cond b (Some first) (lowest (first + 1) n p)) (same first (omega arith) (omega arith))
    ∙ ap (λ r. cond (q first) (Some first) r) (lowest_same (first + 1) n p q (λ j h l. same j (omega arith) (omega arith)))

-- what the lowest that passes a test is
pub lowest_some : (first n : ℕ) (test : ℕ → Bool) (k : ℕ) → lowest first n test ≡ Some k → (first ≤ k) × (k < first + n) × (test k ≡ true)
lowest_some first zero test k is = absurd cc
lowest_some first (suc n) test k is =
    ⊎_elim
    (λ (yes : test first ≡ true).
    let one : Some first ≡ Some k = rw yes at is in
    let same : first ≡ k = cc in
    (omega arith, omega arith, rw (← same) yes))
    (λ (no : test first ≡ false).
    let later = lowest_some (first + 1) n test k (rw no at is) in
    (omega (arith, later.0), omega (arith, later.1), later.2))
    (cases_Bool (test first))

-- where there is none, none of them passes
pub lowest_absent : (first n : ℕ) (test : ℕ → Bool) → lowest first n test ≡ None → (k : ℕ) → first ≤ k → k < first + n → test k ≡ false
lowest_absent first zero test is k above below = absurd (omega arith)
lowest_absent first (suc n) test is k above below =
    ⊎_elim
    (λ (yes : test first ≡ true). let one : Some first ≡ None = rw yes at is in absurd cc)
    (λ (no : test first ≡ false).
    ⊎_elim
    (λ (e : first ≡ k). rw (← e) no)
    (λ (ne : first ≢ k). lowest_absent (first + 1) n test (rw no at is) k (omega arith) (omega arith))
    (cases_eq first k))
    (cases_Bool (test first))
