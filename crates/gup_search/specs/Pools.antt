-- Pools: things that are kept once, and are named by their numbers.
use Rattle.std.specs.Prelude.{◌≡◌, ℕ, ◌<◌, Bool, true, List, [], ◌∷◌, Some, slice_get, length}
use Rattle.std.specs.List.{All, filter_map}

-- different things
abbrev pub AreDifferent : {X : Type 0} → List X → Type 0
AreDifferent {X} xs = (j k : ℕ) (x : X) → slice_get xs j ≡ Some x → slice_get xs k ≡ Some x → j ≡ k

-- what stands at these numbers
abbrev pub standing : {X : Type 0} → (pool : List X) → (numbers : List ℕ) → List X
standing pool numbers = filter_map (λ (n : ℕ). slice_get pool n) numbers

-- something stands at each of these numbers
abbrev pub AreWithin : {X : Type 0} → (pool : List X) → (numbers : List ℕ) → Type 0
AreWithin pool numbers = All (λ (n : ℕ). n < length pool) numbers

-- What is in a pool stays where it is, and what is put in is different from it.
pub record Grows {X : Type 0} (old new : List X) : Type 0 where
  pub stays : (n : ℕ) (x : X) → slice_get old n ≡ Some x → slice_get new n ≡ Some x
  pub different : AreDifferent old → AreDifferent new

-- what stands at the number is equal to this
abbrev pub IsNumber : {X : Type 0} → (eq : X → X → Bool) → (pool : List X) → X → (n : ℕ) → Type 0
IsNumber {X} eq pool x n = (y : X) × (slice_get pool n ≡ Some y) × (eq x y ≡ true)

-- these are the numbers of the things, one by one
abbrev pub AreNumbers : {X : Type 0} → (eq : X → X → Bool) → (pool things : List X) → (numbers : List ℕ) → Type 0
AreNumbers eq pool [] [] = Unit {0}
AreNumbers eq pool [] (n ∷ numbers) = ⊥
AreNumbers eq pool (x ∷ things) [] = ⊥
AreNumbers eq pool (x ∷ things) (n ∷ numbers) = IsNumber eq pool x n × AreNumbers eq pool things numbers

-- one of the things isn't in the pool
abbrev pub Lacks : {X : Type 0} → (pool things : List X) → Type 0
Lacks {X} pool things = (k : ℕ) × (x : X) × (slice_get things k ≡ Some x) × ((n : ℕ) → slice_get pool n ≡ Some x → ⊥)
