-- Functions from numbers, changed at one place or over a range. The states of the model are records of such
-- functions: what a change leaves alone is then said by what it doesn't name.
use Rattle.std.specs.Prelude.{ℕ, ◌+◌, ◌==◌, ◌&&◌, Bool, nat_lt, nat_le, if◌then◌else◌, Option, Some, None, zero, suc}

-- f with the value x at k
abbrev pub put : {X : Type 0} → ℕ → X → (ℕ → X) → ℕ → X
put k x f j = if j == k then x else f j

-- f with the value x at (k, l)
abbrev pub put2 : {X : Type 0} → ℕ → ℕ → X → (ℕ → ℕ → X) → ℕ → ℕ → X
put2 k l x f j = if j == k then put l x (f j) else f j

-- is k one of the n numbers from first on?
abbrev pub within : ℕ → ℕ → ℕ → Bool
within first n k = nat_le first k && nat_lt k (first + n)

-- f with the values of g at the n numbers from first on
abbrev pub spread : {X : Type 0} → ℕ → ℕ → (ℕ → X) → (ℕ → X) → ℕ → X
spread first n g f k = if within first n k then g k else f k

-- the lowest of the n numbers from this one on that passes the test
abbrev pub lowest : (first n : ℕ) → (ℕ → Bool) → Option ℕ
lowest first zero test = None
lowest first (suc n) test = if test first then Some first else lowest (first + 1) n test
