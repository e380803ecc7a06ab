-- A list in two parts, in each of which one element is replaced.
use Rattle.std.proofs.Common.{◌≤◌, ◌⊎◌, inl, inr, eq-or-lt_of_le, ◌≡◌, ℕ, ◌<◌, List, [], ◌∷◌, ◌++◌, length, get_or, slice_get, slice_set, Some, zero, suc, refl, sym, ap, ◌∙◌, subst, arith}

-- ---- what was there

pub front_is : {A : Type 0} (low high : List A) (i : ℕ) (d : A) → i < length low → slice_get (low ++ high) i ≡ Some (get_or low i d)
front_is [] high i d within = absurd (omega arith)
front_is (x ∷ low) high zero d within = refl
front_is (x ∷ low) high (suc i) d within = front_is low high i d (omega arith)

pub back_is : {A : Type 0} (low high : List A) (n : ℕ) (d : A) → length low ≡ n → 0 < length high → slice_get (low ++ high) n ≡ Some (get_or high 0 d)
back_is [] [] n d many some = absurd (omega arith)
back_is [] (x ∷ high) zero d many some = refl
back_is [] (x ∷ high) (suc n) d many some = absurd (omega arith)
back_is (x ∷ low) high zero d many some = absurd (omega arith)
back_is (x ∷ low) high (suc n) d many some = back_is low high n d (omega arith) some

-- ---- what is there now

pub front_now : {A : Type 0} (low high : List A) (i : ℕ) (x : A) → i < length low → slice_get (slice_set low i x ++ high) i ≡ Some x
front_now [] high i x within = absurd (omega arith)
front_now (y ∷ low) high zero x within = refl
front_now (y ∷ low) high (suc i) x within = front_now low high i x (omega arith)

back_plain : {A : Type 0} (low high : List A) (n : ℕ) (y : A) → length low ≡ n → 0 < length high → slice_get (low ++ slice_set high 0 y) n ≡ Some y
back_plain [] [] n y many some = absurd (omega arith)
back_plain [] (x ∷ high) zero y many some = refl
back_plain [] (x ∷ high) (suc n) y many some = absurd (omega arith)
back_plain (x ∷ low) high zero y many some = absurd (omega arith)
back_plain (x ∷ low) high (suc n) y many some = back_plain low high n y (omega arith) some

pub set_length : {A : Type 0} (xs : List A) (i : ℕ) (x : A) → length (slice_set xs i x) ≡ length xs
set_length [] i x = refl
set_length (y ∷ xs) zero x = refl
set_length (y ∷ xs) (suc i) x = ap (λ n. suc n) (set_length xs i x)

pub back_now : {A : Type 0} (low high : List A) (n i : ℕ) (x y : A) → length low ≡ n → 0 < length high → slice_get (slice_set low i x ++ slice_set high 0 y) n ≡ Some y
back_now low high n i x y many some = back_plain (slice_set low i x) high n y (set_length low i x ∙ many) some

back_others : {A : Type 0} (low high : List A) (n q : ℕ) (y : A) → length low ≡ n → (q ≡ n → ⊥) → slice_get (low ++ slice_set high 0 y) q ≡ slice_get (low ++ high) q
back_others [] [] n q y many other = refl
back_others [] (x ∷ high) n zero y many other = absurd (other many)
back_others [] (x ∷ high) n (suc q) y many other = refl
back_others (x ∷ low) high n zero y many other = refl
back_others (x ∷ low) high zero (suc q) y many other = absurd (omega arith)
back_others (x ∷ low) high (suc n) (suc q) y many other = back_others low high n q y (omega arith) (λ is. other (ap (λ k. suc k) is))

pub others_now : {A : Type 0} (low high : List A) (n i q : ℕ) (x y : A) → length low ≡ n → (q ≡ i → ⊥) → (q ≡ n → ⊥) → slice_get (slice_set low i x ++ slice_set high 0 y) q ≡ slice_get (low ++ high) q
others_now [] high n i q x y many apart other = back_others [] high n q y many other
others_now (z ∷ low) high n zero zero x y many apart other = absurd (apart refl)
others_now (z ∷ low) high zero i q x y many apart other = absurd (omega arith)
others_now (z ∷ low) high (suc n) zero (suc q) x y many apart other = back_others low high n q y (omega arith) (λ is. other (ap (λ k. suc k) is))
others_now (z ∷ low) high (suc n) (suc i) zero x y many apart other = refl
others_now (z ∷ low) high (suc n) (suc i) (suc q) x y many apart other =
    others_now low high n i q x y (omega arith) (λ is. apart (ap (λ k. suc k) is)) (λ is. other (ap (λ k. suc k) is))

-- ---- the same by other names

pub front_there : {A : Type 0} (items low high : List A) (i p : ℕ) (d : A) → items ≡ low ++ high → i ≡ p → i < length low → slice_get items p ≡ Some (get_or low i d)
front_there items low high i p d parts same within =
    ap (λ xs. slice_get xs p) parts ∙ ap (λ k. slice_get (low ++ high) k) (sym same) ∙ front_is low high i d within

pub back_there : {A : Type 0} (items low high : List A) (n p : ℕ) (d : A) → items ≡ low ++ high → n ≡ p → length low ≡ n → 0 < length high → slice_get items p ≡ Some (get_or high 0 d)
back_there items low high n p d parts same many some =
    ap (λ xs. slice_get xs p) parts ∙ ap (λ k. slice_get (low ++ high) k) (sym same) ∙ back_is low high n d many some

-- what holds of four elements, holds of those that are found in their places
pub four : {A B : Type 0} (T : A → A → B → B → Type 0) (a b : A) (c d : B) (a' b' : A) (c' d' : B) → Some a ≡ Some a' → Some b ≡ Some b' → Some c ≡ Some c' → Some d ≡ Some d' → T a b c d → T a' b' c' d'
four T a b c d a' b' c' d' first second third last h =
    let ae : a ≡ a' = cc first in
    let be : b ≡ b' = cc second in
    let ce : c ≡ c' = cc third in
    let de : d ≡ d' = cc last in
    subst (λ x. T x b' c' d') ae (subst (λ x. T a x c' d') be (subst (λ x. T a b x d') ce (subst (λ x. T a b c x) de h)))

-- and the same of two
pub two : {A : Type 0} (T : A → A → Type 0) (a b a' b' : A) → Some a ≡ Some a' → Some b ≡ Some b' → T a b → T a' b'
two T a b a' b' first second h =
    let ae : a ≡ a' = cc first in
    let be : b ≡ b' = cc second in
    subst (λ x. T x b') ae (subst (λ y. T a y) be h)

-- one of two different numbers is below the other
pub below_other : (i n : ℕ) → n ≤ i → (i ≡ n → ⊥) → n < i
below_other i n within other = go (eq-or-lt_of_le within)
  where
    go : (n ≡ i) ⊎ (n < i) → n < i
    go (inl same) = absurd (other (sym same))
    go (inr below) = below
