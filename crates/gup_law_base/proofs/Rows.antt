-- Lists by index: an element after the others.
use Rattle.std.proofs.Common.{◌≡◌, ℕ, ◌<◌, ◌≤◌, ◌⊎◌, inl, inr, List, [], ◌∷◌, ◌++◌, map, length, zero, suc, refl, ap, sym, ◌∙◌, subst, arith}
use Rattle.std.specs.Prelude.{Option, Some, None, slice_get, slice_index_or, All, Contains}
use Rattle.std.specs.Option.{option_map}
use Rattle.std.proofs.lemmas.Option.{slice_get_past, slice_get_within, slice_get-map}

pub at_end : {X : Type 0} (xs : List X) (x : X) → slice_get (xs ++ x ∷ []) (length xs) ≡ Some x
at_end [] x = refl
at_end (y ∷ ys) x = at_end ys x

pub at_others : {X : Type 0} (xs : List X) (x : X) (k : ℕ) → (k ≡ length xs → ⊥) → slice_get (xs ++ x ∷ []) k ≡ slice_get xs k
at_others [] x zero apart = absurd (apart refl)
at_others [] x (suc k) apart = refl
at_others (y ∷ ys) x zero apart = refl
at_others (y ∷ ys) x (suc k) apart = at_others ys x k (λ e. apart (omega (arith, e)))

pub none_past : {X : Type 0} (xs : List X) → slice_get xs (length xs) ≡ None
none_past xs = slice_get_past xs (length xs) (omega arith)

-- what is in a list with an element more is in the list, or is that element
pub at_either : {X : Type 0} (xs : List X) (x : X) (k : ℕ) (y : X) → slice_get (xs ++ x ∷ []) k ≡ Some y → (slice_get xs k ≡ Some y) ⊎ ((k ≡ length xs) × (y ≡ x))
at_either [] x zero y is = inr (refl, cc)
at_either [] x (suc k) y is = absurd (cc)
at_either (z ∷ zs) x zero y is = inl is
at_either (z ∷ zs) x (suc k) y is = elim (at_either zs x k y is) [ inl e ↦ inl e | inr e ↦ inr (omega (arith, e.0), e.1) ]

-- what is in a list stays where it is in a longer one
pub at_longer : {X : Type 0} (xs : List X) (x : X) (k : ℕ) (y : X) → slice_get xs k ≡ Some y → slice_get (xs ++ x ∷ []) k ≡ Some y
at_longer [] x k y is = absurd (cc)
at_longer (z ∷ zs) x zero y is = is
at_longer (z ∷ zs) x (suc k) y is = at_longer zs x k y is

pub at_within : {X : Type 0} (xs : List X) (k : ℕ) (x : X) → slice_get xs k ≡ Some x → k < length xs
at_within xs k x is = slice_get_within xs k x is

-- a list with nothing in it
pub no_rows : {X : Type 0} (xs : List X) → length xs ≤ 0 → xs ≡ []
no_rows [] short = refl
no_rows (x ∷ xs) short = absurd (omega (arith, short))

-- the element at an index
pub at_index : {X : Type 0} (xs : List X) (k : ℕ) (d : X) → k < length xs → slice_get xs k ≡ Some (slice_index_or xs k d)
at_index [] k d within = absurd (omega (arith, within))
at_index (x ∷ xs) zero d within = refl
at_index (x ∷ xs) (suc k) d within = at_index xs k d (omega (arith, within))

pub contains_at : {X : Type 0} (xs : List X) (x : X) → Contains xs x → (k : ℕ) × (slice_get xs k ≡ Some x)
contains_at xs x has = (has.0, at_index xs has.0 x has.1 ∙ ap (λ y. Some y) has.2)

some_alike : {X : Type 0} (x y : X) → Some x ≡ Some y → x ≡ y
some_alike x y is = cc

pub at_contains : {X : Type 0} (xs : List X) (k : ℕ) (x : X) → slice_get xs k ≡ Some x → Contains xs x
at_contains xs k x is =
    let within : k < length xs = slice_get_within xs k x is in
    (k, within, some_alike (slice_index_or xs k x) x (sym (at_index xs k x within) ∙ is))

pub all_at : {X : Type 0} (P : X → Type 0) (xs : List X) (k : ℕ) (x : X) → All P xs → slice_get xs k ≡ Some x → P x
all_at P xs k x all is =
    let within : k < length xs = slice_get_within xs k x is in
    subst P (some_alike (slice_index_or xs k x) x (sym (at_index xs k x within) ∙ is)) (all k x within)

pub all_from : {X : Type 0} (P : X → Type 0) (xs : List X) → ((k : ℕ) (x : X) → slice_get xs k ≡ Some x → P x) → All P xs
all_from P xs each k d within = each k (slice_index_or xs k d) (at_index xs k d within)

-- what is in a mapped list
pub at_mapped : {X Y : Type 0} (f : X → Y) (xs : List X) (k : ℕ) (y : Y) → slice_get (map f xs) k ≡ Some y → (x : X) × (slice_get xs k ≡ Some x) × (f x ≡ y)
at_mapped {X} {Y} f xs k y is = go (slice_get xs k) refl (sym (slice_get-map f xs k) ∙ is)
  where
    go : (o : Option X) → slice_get xs k ≡ o → option_map f o ≡ Some y → (x : X) × (slice_get xs k ≡ Some x) × (f x ≡ y)
    go None at none = absurd (cc)
    go (Some x) at same = (x, at, some_alike (f x) y same)

pub mapped_at : {X Y : Type 0} (f : X → Y) (xs : List X) (k : ℕ) (x : X) → slice_get xs k ≡ Some x → slice_get (map f xs) k ≡ Some (f x)
mapped_at f xs k x is = slice_get-map f xs k ∙ ap (option_map f) is
