-- A fork's next step: the fork that an actor is in, after a change, and the pages that are done, with one more.
use Rattle.std.proofs.Common.{◌≡◌, ℕ, ◌==◌, ◌⊎◌, inl, inr, Bool, true, false, List, ◌∷◌, refl, sym, subst, arith}
use Rattle.std.specs.Prelude.{Option, Some, None, IsSome, Contains}
use Rattle.std.proofs.lemmas.Bool.Decides.{nat_tests}
use Rattle.std.proofs.lemmas.Map.Made.{Contains-tail}
use Rattle.gup_plain.specs.Put.{put}
use Rattle.gup_law_base.specs.Sound.{Forking}
use Rattle.gup_law_base.proofs.Holders.{first_element, later_element}

-- it is the changed one, or another actor's
pub changed_fork : (forks : ℕ → Option Forking) (a : ℕ) (x : Forking) (b : ℕ) (k : Forking) → put a (Some x) forks b ≡ Some k → ((b ≡ a) × (x ≡ k)) ⊎ ((b ≡ a → ⊥) × (forks b ≡ Some k))
changed_fork forks a x b k is = go (b == a) refl
  where
    here : (b == a) ≡ true → (b ≡ a) × (x ≡ k)
    here same = (grind (arith, nat_tests), grind (arith, nat_tests))

    there : (b == a) ≡ false → (b ≡ a → ⊥) × (forks b ≡ Some k)
    there other = ((λ e. let no : ⊥ = grind (arith, nat_tests) in no), grind (arith, nat_tests))

    go : (t : Bool) → (b == a) ≡ t → ((b ≡ a) × (x ≡ k)) ⊎ ((b ≡ a → ⊥) × (forks b ≡ Some k))
    go true same = inl (here same)
    go false other = inr (there other)

-- an element of a list with one more is that one, or was there
pub done_either : (x : ℕ) (xs : List ℕ) (y : ℕ) → Contains (x ∷ xs) y → (x ≡ y) ⊎ Contains xs y
done_either x xs y has = go (x == y) refl
  where
    apart : (x == y) ≡ false → x ≡ y → ⊥
    apart other same = grind (arith, nat_tests)

    same : (x == y) ≡ true → x ≡ y
    same is = grind (arith, nat_tests)

    go : (t : Bool) → (x == y) ≡ t → (x ≡ y) ⊎ Contains xs y
    go true is = inl (same is)
    go false other = inr (Contains-tail x xs y (apart other) has)

-- what is not in it, is another and was not there
pub undone_either : (x : ℕ) (xs : List ℕ) (y : ℕ) → (Contains (x ∷ xs) y → ⊥) → (x ≡ y → ⊥) × (Contains xs y → ⊥)
undone_either x xs y none =
    ((λ same. none (subst (Contains (x ∷ xs)) same (first_element x xs))), λ has. none (later_element x xs y has))

-- what is not absent is there
pub some_there : {X : Type 0} (o : Option X) → (o ≡ None → ⊥) → IsSome o
some_there None some = absurd (some refl)
some_there (Some x) some = refl

-- what holds of the changed fork, and of the forks of others, holds of each
pub fork_after : (P : ℕ → Forking → Type 0) (forks : ℕ → Option Forking) (a : ℕ) (x : Forking) → P a x → ((b : ℕ) (k : Forking) → (b ≡ a → ⊥) → forks b ≡ Some k → P b k) → (b : ℕ) (k : Forking) → put a (Some x) forks b ≡ Some k → P b k
fork_after P forks a x here there b k is =
    elim (changed_fork forks a x b k is) [
      | inl e ↦ subst (λ (c : ℕ). P c k) (sym e.0) (subst (P a) e.1 here)
      | inr e ↦ there b k e.0 e.1
    ]
