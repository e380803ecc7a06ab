-- How many tables a process has and how many are free, of all that there are.
use Rattle.std.proofs.Common.{◌≡◌, ℕ, zero, suc, ◌+◌, ◌<◌, ◌≤◌, Bool, true, false, if◌then◌else◌, List, [], ◌∷◌, length, refl, arith}
use Rattle.gup_plain.proofs.Sums.{passing, none_passing, one_more_passing}
use Rattle.gup_page_tables.proofs.Reclaimed.{among_first, among_rest}
use Rattle.gup_spec_tables.specs.Tables.{is_among, AreApart}

abbrev one : Bool → ℕ
one b = if b then 1 else 0

-- no number from m on passes
pub passing_within : (n m : ℕ) (test : ℕ → Bool) → ((k : ℕ) → test k ≡ true → k < m) → passing n test ≤ passing m test
passing_within zero m test within = omega arith
passing_within (suc n) zero test within =
    let none = none_passing (suc n) test (λ k. go k (test k) refl) in
    omega (arith, none)
  where
    go : (k : ℕ) (b : Bool) → test k ≡ b → test k ≡ false
    go k true is = absurd (let less : k < 0 = within k is in omega (arith, less))
    go k false is = is
passing_within (suc n) (suc m) test within =
    let rest = passing_within n m (λ k. test (suc k)) (λ k is. let less : suc k < suc m = within (suc k) is in omega (arith, less)) in
    omega (arith, rest)

-- of three tests, of which no number passes two
pub passing_apart : (n : ℕ) (f g h : ℕ → Bool) → ((k : ℕ) → f k ≡ true → (g k ≡ false) × (h k ≡ false)) → ((k : ℕ) → g k ≡ true → h k ≡ false) → passing n f + passing n g + passing n h ≤ n
passing_apart zero f g h first second = omega arith
passing_apart (suc n) f g h first second =
    let rest = passing_apart n (λ k. f (suc k)) (λ k. g (suc k)) (λ k. h (suc k)) (λ k is. first (suc k) is) (λ k is. second (suc k) is) in
    let here : one (f 0) + one (g 0) + one (h 0) ≤ 1 = go (f 0) (g 0) (h 0) (first 0) (second 0) in
    omega (arith, rest, here)
  where
    go : (a b c : Bool) → (a ≡ true → (b ≡ false) × (c ≡ false)) → (b ≡ true → c ≡ false) → one a + one b + one c ≤ 1
    go true b c first second = rw ((first refl).0, (first refl).1) (omega arith)
    go false true c first second = rw (second refl) (omega arith)
    go false false true first second = omega arith
    go false false false first second = omega arith

-- as many numbers stand in a list as it is long, if none stands there twice
pub passing_among : (n : ℕ) (list : List ℕ) → AreApart list → ((k : ℕ) → is_among list k ≡ true → k < n) → passing n (is_among list) ≡ length list
passing_among n [] apart within = none_passing n (is_among []) (λ k. refl)
passing_among n (first ∷ rest) apart within =
    let more = one_more_passing n (is_among rest) (is_among (first ∷ rest)) first (within first (among_first first rest)) apart.0 (among_first first rest) (λ k test. rw test refl) in
    let fewer = passing_among n rest apart.1 (λ k is. within k (among_rest first rest k is)) in
    omega (arith, more, fewer)
