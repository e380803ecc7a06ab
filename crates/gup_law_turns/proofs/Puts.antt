-- What `put` gives, as equations of functions.
use Rattle.std.proofs.Common.{◌≡◌, ℕ, ◌+◌, ◌-◌, ◌<◌, ◌==◌, true, false, refl, arith, Option, Some, None, is_some}
use Rattle.std.proofs.lemmas.Bool.Decides.{nat_tests}
use Rattle.gup_plain.specs.Put.{put, put2, within}

-- equal at each number is equal
pub by_points : {X : Type 0} {f g : ℕ → X} → ((k : ℕ) → f k ≡ g k) → f ≡ g
by_points h = λ i k. h k i

pub put_same : {X : Type 0} (k : ℕ) (x : X) (f : ℕ → X) → put k x f k ≡ x
put_same k x f = grind (arith, nat_tests)

pub put_other : {X : Type 0} (k j : ℕ) (x : X) (f : ℕ → X) → (j == k) ≡ false → put k x f j ≡ f j
put_other k j x f e = grind (arith, nat_tests)

pub put2_same : {X : Type 0} (k l : ℕ) (x : X) (f : ℕ → ℕ → X) → put2 k l x f k l ≡ x
put2_same k l x f = grind (arith, nat_tests)

-- the later value stays
pub put_twice : {X : Type 0} (k : ℕ) (x y : X) (f : ℕ → X) → put k y (put k x f) ≡ put k y f
put_twice k x y f = by_points (λ j. grind (arith, nat_tests))

-- the value that stands there already changes nothing
pub put_own : {X : Type 0} (k : ℕ) (f : ℕ → X) → put k (f k) f ≡ f
put_own k f = by_points (λ j. grind (arith, nat_tests))

-- a number of a range is so far after the first
pub within_offset : (first n k : ℕ) → within first n k ≡ true → (k - first < n) × (first + (k - first) ≡ k)
within_offset first n k is = grind (arith, nat_tests)

pub some_same : {X : Type 0} {x y : X} → Some x ≡ Some y → x ≡ y
some_same e = cc

pub none_of : {X : Type 0} (o : Option X) → is_some o ≡ false → o ≡ None
none_of None e = refl
none_of (Some x) e = absurd (cc e)
