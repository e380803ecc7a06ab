-- Tests of numbers, what they choose, and tests joined by `or`.
use Rattle.std.proofs.Common.{◌≡◌, ℕ, ◌==◌, ◌||◌, Bool, true, false, refl, arith}
use Rattle.std.proofs.lemmas.Bool.Decides.{nat_tests}
use Rattle.gup_plain.specs.Put.{put}

pub equal : (q p : ℕ) → (q == p) ≡ true → q ≡ p
equal q p same = grind (arith, nat_tests)

pub put_self : {X : Type 0} (k : ℕ) (x : X) (f : ℕ → X) → put k x f k ≡ x
put_self k x f = grind (arith, nat_tests)

pub put_other : {X : Type 0} (k : ℕ) (x : X) (f : ℕ → X) (j : ℕ) → (j == k) ≡ false → put k x f j ≡ f j
put_other k x f j other = rw other refl

pub or_true : (x : Bool) → (x || true) ≡ true
or_true true = refl
or_true false = refl

pub or_false : (x : Bool) → (x || false) ≡ x
or_false true = refl
or_false false = refl
