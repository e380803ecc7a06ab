-- What `put` and `within` give at a place, and what is in an option. Most proofs need none of this: `grind` with
-- `nat_tests` splits on the tests by itself.
use Rattle.std.proofs.Common.{◌≡◌, ℕ, ◌+◌, ◌-◌, ◌<◌, ◌==◌, true, false, refl, arith}
use Rattle.std.specs.Prelude.{Option, None, Some, IsSome, if◌then◌else◌}
use Rattle.std.proofs.lemmas.Bool.Decides.{nat_tests}
use Rattle.gup_plain.specs.Put.{put, within}

-- what holds of x and of each value of f, holds of each value of f with x at k
pub put_each : {X : Type 0} (P : X → Type 0) (k : ℕ) (x : X) (f : ℕ → X) → P x → ((j : ℕ) → P (f j)) → (j : ℕ) → P (put k x f j)
put_each P k x f here there j = elim (j == k) as (λ b. P (if b then x else f j)) [ true ↦ here | false ↦ there j ]

-- what holds at each step from the first page on, holds of each page of the range
pub within_has : {X : Type 0} (f : ℕ → Option X) (first n : ℕ) → ((k : ℕ) → k < n → IsSome (f (first + k))) → (g : ℕ) → within first n g ≡ true → IsSome (f g)
within_has f first n has g is =
    let inside : g - first < n = grind (arith, nat_tests) in
    let same : first + (g - first) ≡ g = grind (arith, nat_tests) in
    rw same at (has (g - first) inside)

-- what is there, if something is
pub some_value : {X : Type 0} (x : Option X) → IsSome x → (y : X) × (x ≡ Some y)
some_value None is = absurd (cc)
some_value (Some y) is = (y, refl)
