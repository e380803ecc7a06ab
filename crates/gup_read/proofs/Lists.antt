-- What holds of each element of a list, and sums over lists, as lists grow.
use Rattle.std.proofs.Common.{◌≡◌, ℕ, zero, suc, ◌+◌, Bool, true, false, cond, ◌||◌, List, [], ◌∷◌, ◌++◌, length, replicate, slice_get, count_by, All, refl, ap, subst, ◌∙◌, Some, arith}
use Rattle.std.specs.List.{AllByRecursion, list_any}
use Rattle.std.proofs.lemmas.List.Elements.{All-get_or}
use Rattle.std.proofs.lemmas.List.Sums.{sum_by-cons}
use Rattle.std.proofs.lemmas.Option.{get_or_from_slice_get, slice_get_within}

module _ {X : Type 0} (P : X → Type 0) where
  pub each_append : (xs ys : List X) → AllByRecursion P xs → AllByRecursion P ys → AllByRecursion P (xs ++ ys)
  each_append [] ys h g = g
  each_append (x ∷ xs) ys h g = (h.0, each_append xs ys h.1 g)

  pub each_replicate : (n : ℕ) (x : X) → P x → AllByRecursion P (replicate n x)
  each_replicate zero x p = tt
  each_replicate (suc n) x p = (p, each_replicate n x p)

  pub each_like : (Q : X → Type 0) (xs : List X) → ((x : X) → P x → Q x) → AllByRecursion P xs → AllByRecursion Q xs
  each_like Q [] more h = tt
  each_like Q (x ∷ xs) more h = (more x h.0, each_like Q xs more h.1)

-- what is true of each element is true of one at its place
pub all_at : {X : Type 0} (P : X → Type 0) (xs : List X) (k : ℕ) (x : X) → slice_get xs k ≡ Some x → All P xs → P x
all_at P xs k x e h = subst P (get_or_from_slice_get xs k x x e) (All-get_or P xs k x (slice_get_within xs k x e) h)

-- of three tests of which each element passes one at most, and passes one
module _ {X : Type 0} (p q r : X → Bool) (one : (x : X) → cond (p x) 1 0 + cond (q x) 1 0 + cond (r x) 1 0 ≡ 1) where
  pub counts_add : (xs : List X) → length xs ≡ count_by p xs + count_by q xs + count_by r xs
  counts_add [] = refl
  counts_add (x ∷ xs) =
      let rest = counts_add xs in
      let here = one x in
      omega (arith, sum_by-cons (λ y. cond (p y) 1 0) x xs, sum_by-cons (λ y. cond (q y) 1 0) x xs, sum_by-cons (λ y. cond (r y) 1 0) x xs)

pub neither : (a b : Bool) → (a || b) ≡ false → (a ≡ false) × (b ≡ false)
neither true b f = absurd cc
neither false b f = (refl, f)

-- no element passes the test
pub none_passes : {X : Type 0} (p : X → Bool) (xs : List X) (k : ℕ) (x : X) → list_any p xs ≡ false → slice_get xs k ≡ Some x → p x ≡ false
none_passes p [] k x none e = absurd cc
none_passes p (y ∷ xs) zero x none e =
    let same : y ≡ x = cc in
    subst (λ z. p z ≡ false) same (neither (p y) (list_any p xs) none).0
none_passes p (y ∷ xs) (suc k) x none e = none_passes p xs k x (neither (p y) (list_any p xs) none).1 e

pub none_count : {X : Type 0} (p : X → Bool) (xs : List X) → list_any p xs ≡ false → count_by p xs ≡ 0
none_count p [] e = refl
none_count p (x ∷ xs) e =
    let h = neither (p x) (list_any p xs) e in
    let rest = none_count p xs h.1 in
    sum_by-cons (λ y. cond (p y) 1 0) x xs ∙ ap (λ b. cond b 1 0 + count_by p xs) h.0 ∙ omega arith
