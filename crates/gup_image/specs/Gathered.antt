-- Lists that are put together number by number.
use Rattle.std.specs.Prelude.{ℕ, List, [], ◌++◌, Option, Some, None, length, slice_get, zero, suc}

-- what there is of each number below n, one after another
unfoldable pub gathered : {X : Type 0} → (of : ℕ → List X) → (n : ℕ) → List X
gathered of zero = []
gathered of (suc n) = gathered of n ++ of n

-- what there is of an item at its place, if there is one
abbrev pub at_place : {X Y : Type 0} → (of : ℕ → X → List Y) → ℕ → Option X → List Y
at_place of k None = []
at_place of k (Some x) = of k x

-- what there is of each item of a list at its place, one after another
abbrev pub along : {X Y : Type 0} → (of : ℕ → X → List Y) → List X → List Y
along of xs = gathered (λ k. at_place of k (slice_get xs k)) (length xs)
