-- Lists that one more is pushed to, and what stands at a place.
use Rattle.std.proofs.Common.{◌≡◌, ℕ, ◌<◌, ◌⊎◌, inl, inr, List, [], ◌∷◌, ◌++◌, Option, Some, None, length, slice_get, zero, suc, get_or, Bool, true, false, not, ◌||◌, if◌then◌else◌, Result, Ok, Err, OnOk, OnErr, IfSome, IfNone, refl, sym, ap, subst, arith}
use Rattle.std.proofs.lemmas.Option.{slice_get_read}
use Rattle.std.specs.List.{list_any}

pub at_end : {X : Type 0} (xs : List X) (x : X) → slice_get (xs ++ x ∷ []) (length xs) ≡ Some x
at_end [] x = refl
at_end (y ∷ xs) x = at_end xs x

pub at_longer : {X : Type 0} (xs : List X) (x : X) (k : ℕ) (y : X) → slice_get xs k ≡ Some y → slice_get (xs ++ x ∷ []) k ≡ Some y
at_longer [] x k y there = absurd (cc)
at_longer (z ∷ xs) x zero y there = there
at_longer (z ∷ xs) x (suc k) y there = at_longer xs x k y there

pub at_either : {X : Type 0} (xs : List X) (x : X) (k : ℕ) (y : X) → slice_get (xs ++ x ∷ []) k ≡ Some y → (slice_get xs k ≡ Some y) ⊎ ((k ≡ length xs) × (y ≡ x))
at_either [] x zero y there = inr (refl, cc)
at_either [] x (suc k) y there = absurd (cc)
at_either (z ∷ xs) x zero y there = inl there
at_either (z ∷ xs) x (suc k) y there = elim (at_either xs x k y there) [ inl found ↦ inl found | inr w ↦ inr (ap (λ (n : ℕ). suc n) w.0, w.1) ]

pub nothing_at : {X : Type 0} (k : ℕ) (y : X) → slice_get {X = X} [] k ≡ Some y → ⊥
nothing_at k y there = cc

pub one_only : {X : Type 0} (x y : X) (k : ℕ) → slice_get (x ∷ []) k ≡ Some y → x ≡ y
one_only x y zero there = cc
one_only x y (suc k) there = absurd (nothing_at k y there)

pub same_at : {X : Type 0} (xs : List X) (k : ℕ) (x y : X) → slice_get xs k ≡ Some x → slice_get xs k ≡ Some y → x ≡ y
same_at xs k x y one two = cc

pub same_some : {X : Type 0} (x y : X) → Some x ≡ Some y → x ≡ y
same_some x y is = cc

pub there_is : {X : Type 0} (xs : List X) (k : ℕ) → k < length xs → (x : X) × (slice_get xs k ≡ Some x)
there_is [] k within = absurd (omega arith)
there_is (x ∷ xs) zero within = (x, refl)
there_is (x ∷ xs) (suc k) within = there_is xs k (omega arith)

pub get_at : {X : Type 0} (xs : List X) (k : ℕ) (d : X) → k < length xs → slice_get xs k ≡ Some (get_or xs k d)
get_at [] k d within = absurd (omega arith)
get_at (x ∷ xs) zero d within = refl
get_at (x ∷ xs) (suc k) d within = get_at xs k d (omega arith)

-- what is read at a place is there
pub read_at : {X : Type 0} (xs : List X) (k : ℕ) (x : X) → k < length xs → x ≡ get_or xs k x → slice_get xs k ≡ Some x
read_at xs k x within is = slice_get_read xs (length xs) k x refl within is

pub on_ok : {A E : Type 0} (r : Result A E) (P Q : Type 0) → (P → Q) → OnOk r P → OnOk r Q
on_ok (Ok x) P Q f h = f h
on_ok (Err e) P Q f h = tt

pub on_ok_both : {A E : Type 0} (r : Result A E) (P Q R : Type 0) → (P → Q → R) → OnOk r P → OnOk r Q → OnOk r R
on_ok_both (Ok x) P Q R f h k = f h k
on_ok_both (Err e) P Q R f h k = tt

pub on_ok_three : {A E : Type 0} (r : Result A E) (P Q R S : Type 0) → (P → Q → R → S) → OnOk r P → OnOk r Q → OnOk r R → OnOk r S
on_ok_three (Ok x) P Q R S f h k l = f h k l
on_ok_three (Err e) P Q R S f h k l = tt

pub true_or_false : (b : Bool) → b ≡ true → b ≡ false → ⊥
true_or_false b one two = cc

pub on_err : {A E : Type 0} (r : Result A E) (P : Type 0) → P → OnErr r P
on_err (Ok x) P h = tt
on_err (Err e) P h = h

pub if_some : {A : Type 0} (o : Option A) (x : A) (P : A → Type 0) → o ≡ Some x → IfSome o P → P x
if_some {A} o x P is h = subst (λ (p : Option A). IfSome p P) is h

pub if_none : {A : Type 0} (o : Option A) (P : Type 0) → o ≡ None → IfNone o P → P
if_none {A} o P is h = subst (λ (p : Option A). IfNone p P) is h

pub no_items : {X : Type 0} (xs : List X) → length xs ≡ 0 → xs ≡ []
no_items [] none = refl
no_items (x ∷ xs) none = absurd (omega arith)

found_later : (b c : Bool) → b ≡ false → (b || c) ≡ true → c ≡ true
found_later true c e h = absurd (cc)
found_later false c e h = h

found_or : {X : Type 0} (p : X → Bool) (x : X) (xs : List X) (b : Bool) → p x ≡ b → (list_any p xs ≡ true → (k : ℕ) × (y : X) × (slice_get xs k ≡ Some y) × (p y ≡ true)) → (p x || list_any p xs) ≡ true → (k : ℕ) × (y : X) × (slice_get (x ∷ xs) k ≡ Some y) × (p y ≡ true)
found_or p x xs true e later h = (zero, x, refl, e)
found_or p x xs false e later h = let w = later (found_later (p x) (list_any p xs) e h) in (suc w.0, w.1, w.2, w.3)

-- one that passes the test
pub found_by : {X : Type 0} (p : X → Bool) (xs : List X) → list_any p xs ≡ true → (k : ℕ) × (x : X) × (slice_get xs k ≡ Some x) × (p x ≡ true)
found_by p [] h = absurd (cc)
found_by p (x ∷ xs) h = found_or p x xs (p x) refl (found_by p xs) h

either : (b c : Bool) → (b ≡ true) ⊎ (c ≡ true) → (b || c) ≡ true
either true c h = refl
either false c (inl h) = absurd (cc)
either false c (inr h) = h

-- one that passes is found
pub found_at : {X : Type 0} (p : X → Bool) (xs : List X) (k : ℕ) (x : X) → slice_get xs k ≡ Some x → p x ≡ true → list_any p xs ≡ true
found_at p [] k x at passes = absurd (nothing_at k x at)
found_at {X} p (y ∷ xs) zero x at passes = either (p y) (list_any p xs) (inl (subst (λ (z : X). p z ≡ true) (same_some x y (sym at)) passes))
found_at p (y ∷ xs) (suc k) x at passes = either (p y) (list_any p xs) (inr (found_at p xs k x at passes))

-- a key that is there already is not pushed
pub kept_keys : {X : Type 0} (b is_new : Bool) (ks more new : List X) → is_new ≡ not b → is_new ≡ false → new ≡ (if b then ks else more) → new ≡ ks
kept_keys true is_new ks more new added old is = is
kept_keys false is_new ks more new added old is = absurd (cc)

pub pushed_keys : {X : Type 0} (b is_new : Bool) (ks more new : List X) → is_new ≡ not b → is_new ≡ true → new ≡ (if b then ks else more) → new ≡ more
pushed_keys true is_new ks more new added young is = absurd (cc)
pushed_keys false is_new ks more new added young is = is
