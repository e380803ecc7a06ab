-- What holds of each element of a list, with one more at its end.
use Rattle.std.proofs.Common.{ℕ, List, [], ◌∷◌, ◌++◌, IfSome, slice_get, length, zero, suc}

pub each_and : {X : Type 0} (P : ℕ → X → Type 0) (xs : List X) (x : X) → ((k : ℕ) → IfSome (slice_get xs k) (P k)) → P (length xs) x → (k : ℕ) → IfSome (slice_get (xs ++ x ∷ []) k) (P k)
each_and P [] x each is zero = is
each_and P [] x each is (suc k) = tt
each_and P (y ∷ ys) x each is zero = each zero
each_and P (y ∷ ys) x each is (suc k) = each_and (λ n. P (suc n)) ys x (λ n. each (suc n)) is k
