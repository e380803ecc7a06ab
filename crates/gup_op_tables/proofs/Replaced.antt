-- A list of which one element is replaced.
use Rattle.std.proofs.Common.{◌≡◌, ℕ, ◌<◌, List, [], ◌∷◌, ◌++◌, length, take, drop, get_or, slice_get, slice_set, Some, zero, suc, refl, sym, ap, ◌∙◌, subst, arith}

index_is : {A : Type 0} (xs : List A) (i : ℕ) (d : A) → i < length xs → slice_get xs i ≡ Some (get_or xs i d)
index_is [] i d within = absurd (omega arith)
index_is (x ∷ xs) zero d within = refl
index_is (x ∷ xs) (suc i) d within = index_is xs i d (omega arith)

-- at a place within, whatever stands for one past the end
pub index_any : {A : Type 0} (xs : List A) (i p : ℕ) (d : A) → i ≡ p → p < length xs → slice_get xs p ≡ Some (get_or xs i d)
index_any xs i p d same within = index_is xs p d within ∙ ap (λ k. Some (get_or xs k d)) (sym same)

other_default : {A : Type 0} (xs : List A) (i : ℕ) (d e : A) → i < length xs → get_or xs i d ≡ get_or xs i e
other_default [] i d e within = absurd (omega arith)
other_default (x ∷ xs) zero d e within = refl
other_default (x ∷ xs) (suc i) d e within = other_default xs i d e (omega arith)

pub index_own : {A : Type 0} (xs : List A) (i p : ℕ) (d : A) → i ≡ p → p < length xs → get_or xs i d ≡ get_or xs i (get_or xs i d)
index_own xs i p d same within = other_default xs i d (get_or xs i d) (omega (arith, same, within))

set_is : {A : Type 0} (xs : List A) (i : ℕ) (x : A) → i < length xs → slice_get (slice_set xs i x) i ≡ Some x
set_is [] i x within = absurd (omega arith)
set_is (y ∷ xs) zero x within = refl
set_is (y ∷ xs) (suc i) x within = set_is xs i x (omega arith)

-- what was there, and what is there now
pub was_there : {A : Type 0} (xs : List A) (i p : ℕ) (x : A) → x ≡ get_or xs i x → i ≡ p → p < length xs → slice_get xs p ≡ Some x
was_there xs i p x is same within = index_is xs p x within ∙ ap (λ k. Some (get_or xs k x)) (sym same) ∙ ap (λ y. Some y) (sym is)

pub now_there : {A : Type 0} (xs : List A) (i p : ℕ) (x : A) → i ≡ p → p < length xs → slice_get (slice_set xs i x) p ≡ Some x
now_there xs i p x same within = ap (λ k. slice_get (slice_set xs k x) p) same ∙ set_is xs p x within

-- and at another place
pub other_there : {A : Type 0} (xs : List A) (i q : ℕ) (x : A) → (q ≡ i → ⊥) → slice_get (slice_set xs i x) q ≡ slice_get xs q
other_there [] i q x other = refl
other_there (y ∷ xs) zero zero x other = absurd (other refl)
other_there (y ∷ xs) zero (suc q) x other = refl
other_there (y ∷ xs) (suc i) zero x other = refl
other_there (y ∷ xs) (suc i) (suc q) x other = other_there xs i q x (λ same. other (ap (λ k. suc k) same))

-- what is true of the new element and the old one, and of each with itself, is true of the elements in each place
pub kept_at : {A : Type 0} (T : A → A → Type 0) (xs : List A) (i p : ℕ) (old new : A) → old ≡ get_or xs i old → i ≡ p → p < length xs → ((x : A) → T x x) → T old new
    → (a : ℕ) (was now : A) → slice_get xs a ≡ Some was → slice_get (slice_set xs i new) a ≡ Some now → T was now
kept_at T [] i p old new is same within each here a was now was_there now_there = absurd (omega arith)
kept_at T (x ∷ xs) zero p old new is same within each here zero was now was_there now_there =
    let first : old ≡ was = is ∙ cc was_there in
    let second : new ≡ now = cc now_there in
    subst (λ y. T was y) second (subst (λ y. T y new) first here)
kept_at T (x ∷ xs) zero p old new is same within each here (suc a) was now was_there now_there =
    let equal : was ≡ now = cc (sym was_there ∙ now_there) in
    subst (λ y. T was y) equal (each was)
kept_at T (x ∷ xs) (suc i) p old new is same within each here zero was now was_there now_there =
    let equal : was ≡ now = cc (sym was_there ∙ now_there) in
    subst (λ y. T was y) equal (each was)
kept_at T (x ∷ xs) (suc i) p old new is same within each here (suc a) was now was_there now_there =
    kept_at T xs i i old new is refl (omega arith) each here a was now was_there now_there

-- what is true of each with itself is true where a list stays
pub all_kept : {A : Type 0} (T : A → A → Type 0) (xs : List A) → ((x : A) → T x x) → (a : ℕ) (was now : A) → slice_get xs a ≡ Some was → slice_get xs a ≡ Some now → T was now
all_kept T xs each a was now was_there now_there =
    let equal : was ≡ now = cc (sym was_there ∙ now_there) in
    subst (λ y. T was y) equal (each was)

-- a list that was written back

take_all : {A : Type 0} (xs : List A) → take (length xs) (xs ++ []) ≡ xs
take_all [] = refl
take_all (x ∷ xs) = ap (λ ys. x ∷ ys) (take_all xs)

drop_all : {A : Type 0} (xs : List A) → drop (length xs) xs ≡ []
drop_all [] = refl
drop_all (x ∷ xs) = drop_all xs

pub written_back : {A : Type 0} (old new : List A) (n : ℕ) → n ≡ length old → length new ≡ length old → take n (new ++ drop (length new) old) ≡ new
written_back old new n len same =
    ap (λ k. take n (new ++ drop k old)) same ∙ ap (λ ys. take n (new ++ ys)) (drop_all old) ∙ ap (λ k. take k (new ++ [])) (len ∙ sym same) ∙ take_all new
