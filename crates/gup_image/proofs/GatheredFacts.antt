-- What is put together number by number: what is true of all of it, and when two such lists are the same.
use Rattle.std.specs.Prelude.{slice_index}
use Rattle.std.proofs.Common.{◌≡◌, ℕ, zero, suc, ◌<◌, ◌≤◌, List, [], ◌∷◌, ◌++◌, length, slice_get, Option, Some, None, All, refl, sym, ap, ◌∙◌, subst, ◌⊎◌, inl, inr, arith}
use Rattle.std.proofs.lemmas.List.Elements.{All-nil, All-cons, All-head, All-tail, All-append}
use Rattle.std.proofs.lemmas.Option.{slice_get_within, none-some, same_Some}
use Rattle.gup_image.specs.Gathered.{gathered, at_place, along}

-- ---- what is true of two lists together is true of each

pub all_left : {X : Type 0} (P : X → Type 0) (xs ys : List X) → All P (xs ++ ys) → All P xs
all_left P [] ys all = All-nil P
all_left P (x ∷ xs) ys all = All-cons P x xs (All-head P x (xs ++ ys) all) (all_left P xs ys (All-tail P x (xs ++ ys) all))

pub all_right : {X : Type 0} (P : X → Type 0) (xs ys : List X) → All P (xs ++ ys) → All P ys
all_right P [] ys all = all
all_right P (x ∷ xs) ys all = all_right P xs ys (All-tail P x (xs ++ ys) all)

-- ---- numbers below a bound

-- the last one, or one below it
last_or_below : (k n : ℕ) → k < suc n → (k ≡ n) ⊎ (k < n)
last_or_below zero zero within = inl refl
last_or_below zero (suc n) within = inr (omega arith)
last_or_below (suc k) zero within = absurd (omega arith)
last_or_below (suc k) (suc n) within =
    elim (last_or_below k n (omega arith)) [
      | inl last ↦ inl (ap suc last)
      | inr below ↦ inr (omega arith)
    ]

-- what is not past the bound is below it
pub inside_or_past : (n k : ℕ) → (n ≤ k → ⊥) → k < n
inside_or_past zero k inside = absurd (inside (omega arith))
inside_or_past (suc n) zero inside = omega arith
inside_or_past (suc n) (suc k) inside = let within : k < n = inside_or_past n k (λ past. inside (omega arith)) in omega arith

-- ---- gathered lists

pub all_gathered : {X : Type 0} (P : X → Type 0) (of : ℕ → List X) (n : ℕ) → ((k : ℕ) → k < n → All P (of k)) → All P (gathered of n)
unfolding gathered
all_gathered P of zero each = All-nil P
all_gathered P of (suc n) each = All-append P (gathered of n) (of n) (all_gathered P of n (λ k within. each k (omega arith))) (each n (omega arith))

pub gathered_at : {X : Type 0} (P : X → Type 0) (of : ℕ → List X) (n k : ℕ) → k < n → All P (gathered of n) → All P (of k)
unfolding gathered
gathered_at P of zero k within all = absurd (omega arith)
gathered_at P of (suc n) k within all =
    elim (last_or_below k n within) [
      | inl last ↦ subst (λ (j : ℕ). All P (of j)) (sym last) (all_right P (gathered of n) (of n) all)
      | inr below ↦ gathered_at P of n k below (all_left P (gathered of n) (of n) all)
    ]

pub gathered_same : {X : Type 0} (of other : ℕ → List X) (n : ℕ) → ((k : ℕ) → k < n → of k ≡ other k) → gathered of n ≡ gathered other n
unfolding gathered
gathered_same of other zero same = refl
gathered_same of other (suc n) same =
    let before : gathered of n ≡ gathered other n = gathered_same of other n (λ k within. same k (omega arith)) in
    let last : of n ≡ other n = same n (omega arith) in
    cc

-- of no number there is nothing
pub nothing_gathered : {X : Type 0} (of : ℕ → List X) (n : ℕ) → n ≡ 0 → gathered of n ≡ []
unfolding gathered
nothing_gathered of zero none = refl
nothing_gathered of (suc n) none = absurd (omega arith)

-- ---- places of a list

-- a place within a list has an item
pub item_at : {X : Type 0} (xs : List X) (k : ℕ) → k < length xs → (x : X) × (slice_get xs k ≡ Some x)
item_at [] k within = absurd (omega arith)
item_at (x ∷ xs) zero within = (x, refl)
item_at (x ∷ xs) (suc k) within = item_at xs k (omega arith)

-- of two lists of one length the other has an item where the one has
pub partner : {X Y : Type 0} (xs : List X) (ys : List Y) (k : ℕ) (x : X) → length xs ≡ length ys → slice_get xs k ≡ Some x → (y : Y) × (slice_get ys k ≡ Some y)
partner xs ys k x many here = item_at ys k (subst (λ (n : ℕ). k < n) many (slice_get_within xs k x here))

-- what is read as a number that isn't 0 stands there
pub read_here : (xs : List ℕ) (k : ℕ) → (slice_index xs k ≡ 0 → ⊥) → slice_get xs k ≡ Some (slice_index xs k)
read_here [] k some = absurd (some refl)
read_here (x ∷ xs) zero some = refl
read_here (x ∷ xs) (suc k) some = read_here xs k some

-- there is one item at a place
pub one_item : {X : Type 0} (xs : List X) (k : ℕ) (x y : X) → slice_get xs k ≡ Some x → slice_get xs k ≡ Some y → x ≡ y
one_item xs k x y here there = same_Some x y (sym here ∙ there)

-- lists that have the same at each place are the same
pub same_lists : {X : Type 0} (xs ys : List X) → ((k : ℕ) → slice_get xs k ≡ slice_get ys k) → xs ≡ ys
same_lists [] [] same = refl
same_lists [] (y ∷ ys) same = absurd (none-some y (same 0))
same_lists (x ∷ xs) [] same = absurd (none-some x (sym (same 0)))
same_lists (x ∷ xs) (y ∷ ys) same =
    let first : x ≡ y = same_Some x y (same 0) in
    let rest : xs ≡ ys = same_lists xs ys (λ k. same (suc k)) in
    cc

-- ---- what there is along a list

pub all_along : {X Y : Type 0} (P : Y → Type 0) (of : ℕ → X → List Y) (xs : List X) → ((k : ℕ) (x : X) → slice_get xs k ≡ Some x → All P (of k x)) → All P (along of xs)
all_along {X} {Y} P of xs each = all_gathered P (λ k. at_place of k (slice_get xs k)) (length xs) (λ k within. at k within)
  where
    at : (k : ℕ) → k < length xs → All P (at_place of k (slice_get xs k))
    at k within =
        let it = item_at xs k within in
        subst (λ (o : Option X). All P (at_place of k o)) (sym it.1) (each k it.0 it.1)

pub along_at : {X Y : Type 0} (P : Y → Type 0) (of : ℕ → X → List Y) (xs : List X) (k : ℕ) (x : X) → slice_get xs k ≡ Some x → All P (along of xs) → All P (of k x)
along_at {X} {Y} P of xs k x here all =
    subst (λ (o : Option X). All P (at_place of k o)) here
    (gathered_at P (λ j. at_place of j (slice_get xs j)) (length xs) k (slice_get_within xs k x here) all)

pub along_same : {X Y Z : Type 0} (of : ℕ → X → List Z) (also : ℕ → Y → List Z) (xs : List X) (ys : List Y) → length xs ≡ length ys
    → ((k : ℕ) (x : X) (y : Y) → slice_get xs k ≡ Some x → slice_get ys k ≡ Some y → of k x ≡ also k y) → along of xs ≡ along also ys
along_same {X} {Y} {Z} of also xs ys many same =
    gathered_same (λ k. at_place of k (slice_get xs k)) (λ k. at_place also k (slice_get ys k)) (length xs) (λ k within. at k within)
    ∙ ap (gathered (λ k. at_place also k (slice_get ys k))) many
  where
    at : (k : ℕ) → k < length xs → at_place of k (slice_get xs k) ≡ at_place also k (slice_get ys k)
    at k within =
        let one = item_at xs k within in
        let other = partner xs ys k one.0 many one.1 in
        ap (at_place of k) one.1 ∙ same k one.0 other.0 one.1 other.1 ∙ sym (ap (at_place also k) other.1)

pub nothing_along : {X Y : Type 0} (of : ℕ → X → List Y) (xs : List X) → length xs ≡ 0 → along of xs ≡ []
nothing_along of xs none = nothing_gathered (λ k. at_place of k (slice_get xs k)) (length xs) none

-- ---- values of which some say nothing

-- two values are the same where each tells the other, unless it is the one that tells nothing
pub same_told : {X : Type 0} (none x y : X) → (x ≡ none) ⊎ (x ≡ none → ⊥) → (y ≡ none) ⊎ (y ≡ none → ⊥) → ((x ≡ none → ⊥) → y ≡ x) → ((y ≡ none → ⊥) → x ≡ y) → x ≡ y
same_told none x y (inr some) other to back = sym (to some)
same_told none x y (inl is) (inr some) to back = back some
same_told none x y (inl is) (inl also) to back = is ∙ sym also

-- each of these either tells nothing, or does not tell nothing
pub zero_or_more : (n : ℕ) → (n ≡ 0) ⊎ (n ≡ 0 → ⊥)
zero_or_more zero = inl refl
zero_or_more (suc n) = inr (λ is. omega arith)

pub none_or_some : {X : Type 0} (o : Option X) → (o ≡ None) ⊎ (o ≡ None → ⊥)
none_or_some None = inl refl
none_or_some (Some x) = inr (λ is. none-some x (sym is))

-- what is not nothing is something
pub some_there : {X : Type 0} (o : Option X) → (o ≡ None → ⊥) → (x : X) × (o ≡ Some x)
some_there None some = absurd (some refl)
some_there (Some x) some = (x, refl)

-- two of which each is what the other is, where that is there
pub same_option : {X : Type 0} (x y : Option X) → ((it : X) → x ≡ Some it → y ≡ Some it) → ((it : X) → y ≡ Some it → x ≡ Some it) → x ≡ y
same_option None None to back = refl
same_option None (Some y) to back = back y refl
same_option (Some x) y to back = sym (to x refl)

-- lists of which each has what the other has are the same
pub same_items : {X : Type 0} (xs ys : List X) → ((k : ℕ) (x : X) → slice_get xs k ≡ Some x → slice_get ys k ≡ Some x) → ((k : ℕ) (x : X) → slice_get ys k ≡ Some x → slice_get xs k ≡ Some x) → xs ≡ ys
same_items xs ys to back = same_lists xs ys (λ k. same_option (slice_get xs k) (slice_get ys k) (to k) (back k))

-- nothing is below 0
pub none_within : (k n : ℕ) → n ≡ 0 → k < n → ⊥
none_within k n none within = omega arith
