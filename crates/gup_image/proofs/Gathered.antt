-- Lists that are put together number by number.
use Rattle.std.proofs.Common.{◌≡◌, ℕ, ◌+◌, ◌<◌, ◌≤◌, List, [], ◌++◌, Some, slice_get, refl, sym, ap, ◌∙◌, append_assoc, append-nil, arith, zero, suc, ◌⊎◌, inl, inr}
use Rattle.std.proofs.lemmas.Bool.{cases_lt}
use Rattle.gup_image.specs.Gathered.{gathered, at_place}

pub gathered-none : {X : Type 0} (of : ℕ → List X) → gathered of 0 ≡ []
unfolding gathered
gathered-none of = refl

pub gathered-suc : {X : Type 0} (of : ℕ → List X) (n : ℕ) → gathered of (suc n) ≡ gathered of n ++ of n
unfolding gathered
gathered-suc of n = refl

pub gathered-next : {X : Type 0} (of : ℕ → List X) (n : ℕ) → gathered of (n + 1) ≡ gathered of n ++ of n
gathered-next of n = let more : n + 1 ≡ suc n = omega arith in ap (gathered of) more ∙ gathered-suc of n

-- one more is put on
pub gathered-put : {X : Type 0} (of : ℕ → List X) (n : ℕ) (first facts new : List X) → facts ≡ first ++ gathered of n → new ≡ facts ++ of n → new ≡ first ++ gathered of (n + 1)
gathered-put of n first facts new is more =
    more ∙ ap (λ xs. xs ++ of n) is ∙ append_assoc first (gathered of n) (of n) ∙ ap (λ xs. first ++ xs) (sym (gathered-next of n))

pub gathered-first : {X : Type 0} (of : ℕ → List X) (facts : List X) → facts ≡ facts ++ gathered of 0
gathered-first of facts = sym (append-nil facts) ∙ ap (λ xs. facts ++ xs) (sym (gathered-none of))

-- one more of a list
pub along-put : {X Y : Type 0} (of : ℕ → X → List Y) (xs : List X) (k : ℕ) (x : X) (first facts new : List Y) → facts ≡ first ++ gathered (λ i. at_place of i (slice_get xs i)) k → slice_get xs k ≡ Some x → new ≡ facts ++ of k x
    → new ≡ first ++ gathered (λ i. at_place of i (slice_get xs i)) (k + 1)
along-put of xs k x first facts new is here more =
    gathered-put (λ i. at_place of i (slice_get xs i)) k first facts new is (more ∙ ap (λ o. facts ++ at_place of k o) (sym here))

over_next : {X : Type 0} (of : ℕ → List X) (from n : ℕ) → from ≤ suc n → ((k : ℕ) → from ≤ k → k < suc n → of k ≡ []) → (from ≤ n → gathered of n ≡ gathered of from) → (n < from) ⊎ (from ≤ n) → gathered of (suc n) ≡ gathered of from
over_next of from n below none rest (inl more) = let same : suc n ≡ from = omega arith in ap (gathered of) same
over_next of from n below none rest (inr less) =
    gathered-suc of n ∙ ap (λ xs. gathered of n ++ xs) (none n less (omega arith)) ∙ append-nil (gathered of n) ∙ rest less

-- numbers of which there is nothing are passed over
pub gathered-over : {X : Type 0} (of : ℕ → List X) (from n : ℕ) → from ≤ n → ((k : ℕ) → from ≤ k → k < n → of k ≡ []) → gathered of n ≡ gathered of from
gathered-over of from zero below none = let same : 0 ≡ from = omega arith in ap (gathered of) same
gathered-over of from (suc n) below none = over_next of from n below none (λ less. gathered-over of from n less (λ k above under. none k above (omega arith))) (cases_lt n from)

pub gathered-put-over : {X : Type 0} (of : ℕ → List X) (from k : ℕ) (first facts new : List X) → from ≤ k → ((j : ℕ) → from ≤ j → j < k → of j ≡ []) → facts ≡ first ++ gathered of from → new ≡ facts ++ of k → new ≡ first ++ gathered of (k + 1)
gathered-put-over of from k first facts new above none is more =
    gathered-put of k first facts new (is ∙ ap (λ xs. first ++ xs) (sym (gathered-over of from k above none))) more

-- the same, where its place goes by another name
pub along-at : {X Y : Type 0} (of : ℕ → X → List Y) (xs : List X) (k a : ℕ) (x : X) (first facts new : List Y) → facts ≡ first ++ gathered (λ i. at_place of i (slice_get xs i)) k → a ≡ k → slice_get xs k ≡ Some x → new ≡ facts ++ of a x
    → new ≡ first ++ gathered (λ i. at_place of i (slice_get xs i)) (k + 1)
along-at of xs k a x first facts new is same here more = along-put of xs k x first facts new is here (more ∙ ap (λ i. facts ++ of i x) same)

-- nine lists are put on in turn
pub nine-put : {X : Type 0} (a b c d e f g h i : List X) (start f1 f2 f3 f4 f5 f6 f7 f8 f9 : List X) → start ≡ [] → f1 ≡ start ++ a → f2 ≡ f1 ++ b → f3 ≡ f2 ++ c → f4 ≡ f3 ++ d → f5 ≡ f4 ++ e → f6 ≡ f5 ++ f → f7 ≡ f6 ++ g → f8 ≡ f7 ++ h → f9 ≡ f8 ++ i
    → f9 ≡ a ++ b ++ c ++ d ++ e ++ f ++ g ++ h ++ i
nine-put a b c d e f g h i start f1 f2 f3 f4 f5 f6 f7 f8 f9 none is_a is_b is_c is_d is_e is_f is_g is_h is_i =
    let first : f1 ≡ a = is_a ∙ ap (λ xs. xs ++ a) none in cc

pub ruleset gathering = (gathered-first, gathered-put, along-put)
