-- Pools that grow, and the numbers of things in them.
use Rattle.std.proofs.Common.{◌≡◌, ℕ, ◌+◌, ◌<◌, ◌⊎◌, inl, inr, Bool, true, false, cond, if◌then◌else◌, List, [], ◌∷◌, ◌++◌, Some, None, Option, length, slice_get, get_or, take, zero, suc, refl, sym, ap, subst, ◌∙◌, arith}
use Rattle.std.proofs.lemmas.List.{take_more}
use Rattle.std.proofs.lemmas.List.Elements.{All-nil, All-cons, All-head, All-tail}
use Rattle.std.proofs.lemmas.Option.{slice_get_within}
use Rattle.std.specs.Cmp.{IsEquivalence}
use Rattle.std.specs.List.{list_any, cons_option, find}
use Rattle.indexmap.specs.IndexSet.{insert_key}
use Rattle.gup_search.specs.Pools.{AreDifferent, AreWithin, Grows, IsNumber, AreNumbers, standing}
use Rattle.gup_search.proofs.Lists.{at_longer, at_either, nothing_at, read_at, same_some, true_or_false, found_at}

-- ---- what grows

pub grows_none : {X : Type 0} (xs : List X) → Grows xs xs
grows_none xs = record { stays = λ n x at. at; different = λ h. h }

pub grows_as : {X : Type 0} (old mid new : List X) → new ≡ mid → Grows old mid → Grows old new
grows_as {X} old mid new is h = subst (λ (xs : List X). Grows old xs) (sym is) h

grows_more : {X : Type 0} (old mid new : List X) → Grows old mid → Grows mid new → Grows old new
grows_more old mid new one two =
    record { stays = λ n x at. two.stays n x (one.stays n x at); different = λ h. two.different (one.different h) }

-- one more that isn't equal to any of them
pub different_more : {X : Type 0} (xs : List X) (x : X) → ((k : ℕ) → slice_get xs k ≡ Some x → ⊥) → AreDifferent xs → AreDifferent (xs ++ x ∷ [])
different_more {X} xs x new different j k y one two = by (at_either xs x j y one) (at_either xs x k y two)
  where
    by : (slice_get xs j ≡ Some y) ⊎ ((j ≡ length xs) × (y ≡ x)) → (slice_get xs k ≡ Some y) ⊎ ((k ≡ length xs) × (y ≡ x)) → j ≡ k
    by (inl a) (inl b) = different j k y a b
    by (inl a) (inr b) = absurd (new j (subst (λ (z : X). slice_get xs j ≡ Some z) b.1 a))
    by (inr a) (inl b) = absurd (new k (subst (λ (z : X). slice_get xs k ≡ Some z) a.1 b))
    by (inr a) (inr b) = a.0 ∙ sym b.0

pub grows_pushed : {X : Type 0} (xs : List X) (x : X) → ((k : ℕ) → slice_get xs k ≡ Some x → ⊥) → Grows xs (xs ++ x ∷ [])
grows_pushed xs x new = record { stays = λ n y at. at_longer xs x n y at; different = different_more xs x new }

grows_inserted : {X : Type 0} (eq : X → X → Bool) → ((x : X) → eq x x ≡ true) → (xs : List X) (x : X) → Grows xs (insert_key eq xs x)
grows_inserted {X} eq same xs x = by (list_any (eq x) xs) refl
  where
    by : (b : Bool) → list_any (eq x) xs ≡ b → Grows xs (if b then xs else xs ++ x ∷ [])
    by true is = grows_none xs
    by false is = grows_pushed xs x (λ k at. true_or_false (list_any (eq x) xs) (found_at (eq x) xs k x at (same x)) is)

-- one thing more is put in
pub grows_on : {X : Type 0} (eq : X → X → Bool) → IsEquivalence eq → (old mid new : List X) (x : X) → new ≡ insert_key eq mid x → Grows old mid → Grows old new
grows_on eq laws old mid new x is h = grows_as old (insert_key eq mid x) new is (grows_more old mid (insert_key eq mid x) h (grows_inserted eq laws.refl mid x))

-- ---- numbers

numbers_grown : {X : Type 0} (eq : X → X → Bool) (old new xs : List X) (ns : List ℕ) → Grows old new → AreNumbers eq old xs ns → AreNumbers eq new xs ns
numbers_grown eq old new [] [] grows h = tt
numbers_grown eq old new [] (n ∷ ns) grows h = h
numbers_grown eq old new (x ∷ xs) [] grows h = h
numbers_grown eq old new (x ∷ xs) (n ∷ ns) grows h =
    ((h.0.0, grows.stays n h.0.0 h.0.1, h.0.2), numbers_grown eq old new xs ns grows h.1)

numbers_more : {X : Type 0} (eq : X → X → Bool) (pool xs : List X) (ns : List ℕ) (x : X) (n : ℕ) → AreNumbers eq pool xs ns → IsNumber eq pool x n → AreNumbers eq pool (xs ++ x ∷ []) (ns ++ n ∷ [])
numbers_more eq pool [] [] x n h last = (last, tt)
numbers_more eq pool [] (m ∷ ns) x n h last = absurd h
numbers_more eq pool (y ∷ xs) [] x n h last = absurd h
numbers_more eq pool (y ∷ xs) (m ∷ ns) x n h last = (h.0, numbers_more eq pool xs ns x n h.1 last)

-- the number of the next thing
pub numbers_next : {X : Type 0} (eq : X → X → Bool) (pool xs : List X) (ns ms : List ℕ) (k : ℕ) (x : X) (n : ℕ) → k < length xs → x ≡ get_or xs k x → ms ≡ ns ++ n ∷ [] → IsNumber eq pool x n → AreNumbers eq pool (take k xs) ns → AreNumbers eq pool (take (k + 1) xs) ms
numbers_next {X} eq pool xs ns ms k x n within is pushed last h =
    subst (λ (ks : List ℕ). AreNumbers eq pool (take (k + 1) xs) ks) (sym pushed)
    (
    subst (λ (ys : List X). AreNumbers eq pool ys (ns ++ n ∷ [])) (ap (λ (y : X). take k xs ++ y ∷ []) is ∙ sym (take_more xs k x within))
    (numbers_more eq pool (take k xs) ns x n h last)
    )

-- and of one that was put in
pub numbers_put : {X : Type 0} (eq : X → X → Bool) → IsEquivalence eq → (old new xs : List X) (ns ms : List ℕ) (k : ℕ) (x : X) (n : ℕ) → new ≡ insert_key eq old x → k < length xs → x ≡ get_or xs k x → ms ≡ ns ++ n ∷ [] → IsNumber eq new x n → AreNumbers eq old (take k xs) ns → AreNumbers eq new (take (k + 1) xs) ms
numbers_put eq laws old new xs ns ms k x n inserted within is pushed last h =
    numbers_next eq new xs ns ms k x n within is pushed last
    (numbers_grown eq old new (take k xs) ns (grows_on eq laws old old new x inserted (grows_none old)) h)

-- ---- where equal things are the same

module _ {X : Type 0} (eq : X → X → Bool) (same : (x y : X) → eq x y ≡ true → x ≡ y) where
  at_number : (pool : List X) (x : X) (n : ℕ) → IsNumber eq pool x n → slice_get pool n ≡ Some x
  at_number pool x n h = h.1 ∙ ap (λ (y : X). Some y) (sym (same x h.0 h.2))

  pub within_numbers : (pool xs : List X) (ns : List ℕ) → AreNumbers eq pool xs ns → AreWithin pool ns
  within_numbers pool [] [] h = All-nil (λ (n : ℕ). n < length pool)
  within_numbers pool [] (n ∷ ns) h = absurd h
  within_numbers pool (x ∷ xs) [] h = absurd h
  within_numbers pool (x ∷ xs) (n ∷ ns) h =
      All-cons (λ (m : ℕ). m < length pool) n ns (slice_get_within pool n x (at_number pool x n h.0)) (within_numbers pool xs ns h.1)

  -- the things stand at their numbers
  pub standing_numbers : (pool xs : List X) (ns : List ℕ) → AreNumbers eq pool xs ns → standing pool ns ≡ xs
  standing_numbers pool [] [] h = refl
  standing_numbers pool [] (n ∷ ns) h = absurd h
  standing_numbers pool (x ∷ xs) [] h = absurd h
  standing_numbers pool (x ∷ xs) (n ∷ ns) h =
      ap (λ (o : Option X). cons_option o (standing pool ns)) (at_number pool x n h.0)
      ∙ ap (λ (ys : List X). x ∷ ys) (standing_numbers pool xs ns h.1)

-- a number that is within has something
pub at_within : {X : Type 0} (pool : List X) (n : ℕ) → n < length pool → (x : X) × (slice_get pool n ≡ Some x)
at_within [] n within = absurd (omega arith)
at_within (x ∷ pool) zero within = (x, refl)
at_within (x ∷ pool) (suc n) within = at_within pool n (omega arith)

-- what stands at numbers stays
pub standing_grown : {X : Type 0} (old new : List X) (ns : List ℕ) → Grows old new → AreWithin old ns → standing new ns ≡ standing old ns
standing_grown old new [] grows within = refl
standing_grown {X} old new (n ∷ ns) grows within =
    let w = at_within old n (All-head (λ (m : ℕ). m < length old) n ns within) in
    let rest = standing_grown old new ns grows (All-tail (λ (m : ℕ). m < length old) n ns within) in
    ap (λ (o : Option X). cons_option o (standing new ns)) (grows.stays n w.0 w.1)
    ∙ ap (λ (ys : List X). w.0 ∷ ys) rest
    ∙ ap (λ (o : Option X). cons_option o (standing old ns)) (sym w.1)

pub within_grown : {X : Type 0} (old new : List X) (ns : List ℕ) → Grows old new → AreWithin old ns → AreWithin new ns
within_grown old new [] grows within = All-nil (λ (m : ℕ). m < length new)
within_grown old new (n ∷ ns) grows within =
    let w = at_within old n (All-head (λ (m : ℕ). m < length old) n ns within) in
    All-cons (λ (m : ℕ). m < length new) n ns (slice_get_within new n w.0 (grows.stays n w.0 w.1)) (within_grown old new ns grows (All-tail (λ (m : ℕ). m < length old) n ns within))

heads : {X : Type 0} (x y : X) (xs ys : List X) → x ∷ xs ≡ y ∷ ys → x ≡ y
heads x y xs ys is = cc

tails : {X : Type 0} (x y : X) (xs ys : List X) → x ∷ xs ≡ y ∷ ys → xs ≡ ys
tails x y xs ys is = cc

-- the same things have the same numbers
pub same_numbers : {X : Type 0} (eq : X → X → Bool) → ((x y : X) → eq x y ≡ true → x ≡ y) → (pool xs : List X) (ns ms : List ℕ) → AreDifferent pool → AreNumbers eq pool xs ns → AreWithin pool ms → standing pool ms ≡ xs → ns ≡ ms
same_numbers eq same pool [] [] [] different h within is = refl
same_numbers {X} eq same pool [] [] (m ∷ ms) different h within is =
    let w = at_within pool m (All-head (λ (k : ℕ). k < length pool) m ms within) in
    absurd (cons_nothing w.0 (standing pool ms) (ap (λ (o : Option X). cons_option o (standing pool ms)) (sym w.1) ∙ is))
  where
    cons_nothing : {X : Type 0} (x : X) (xs : List X) → x ∷ xs ≡ [] → ⊥
    cons_nothing x xs is = cc
same_numbers eq same pool [] (n ∷ ns) ms different h within is = absurd h
same_numbers eq same pool (x ∷ xs) [] ms different h within is = absurd h
same_numbers eq same pool (x ∷ xs) (n ∷ ns) [] different h within is = absurd (cc)
same_numbers {X} eq same pool (x ∷ xs) (n ∷ ns) (m ∷ ms) different h within is =
    let w = at_within pool m (All-head (λ (k : ℕ). k < length pool) m ms within) in
    let both : w.0 ∷ standing pool ms ≡ x ∷ xs = ap (λ (o : Option X). cons_option o (standing pool ms)) (sym w.1) ∙ is in
    let there : slice_get pool m ≡ Some x = w.1 ∙ ap (λ (y : X). Some y) (heads w.0 x (standing pool ms) xs both) in
    let first : n ≡ m = different n m x (at_number eq same pool x n h.0) there in
    let rest : ns ≡ ms = same_numbers eq same pool xs ns ms different h.1 (All-tail (λ (k : ℕ). k < length pool) m ms within) (tails w.0 x (standing pool ms) xs both) in
    ap (λ (k : ℕ). k ∷ ns) first ∙ ap (λ (ks : List ℕ). m ∷ ks) rest

first_or_later : {X : Type 0} (pool xs : List X) (n : ℕ) (y x : X) (k : ℕ) → slice_get pool n ≡ Some y → slice_get (y ∷ xs) k ≡ Some x → ((j : ℕ) → slice_get xs j ≡ Some x → (m : ℕ) × (slice_get pool m ≡ Some x)) → (m : ℕ) × (slice_get pool m ≡ Some x)
first_or_later pool xs n y x zero there here later = (n, there ∙ here)
first_or_later pool xs n y x (suc k) there here later = later k here

-- each of the things that stand at numbers is in the pool
pub stands_in : {X : Type 0} (pool : List X) (ns : List ℕ) (k : ℕ) (x : X) → AreWithin pool ns → slice_get (standing pool ns) k ≡ Some x → (n : ℕ) × (slice_get pool n ≡ Some x)
stands_in pool [] k x within at = absurd (nothing_at k x at)
stands_in {X} pool (n ∷ ns) k x within at =
    let w = at_within pool n (All-head (λ (m : ℕ). m < length pool) n ns within) in
    let here : slice_get (w.0 ∷ standing pool ns) k ≡ Some x = subst (λ (o : Option X). slice_get (cons_option o (standing pool ns)) k ≡ Some x) w.1 at in
    first_or_later pool (standing pool ns) n w.0 x k w.1 here
    (λ j there. stands_in pool ns j x (All-tail (λ (m : ℕ). m < length pool) n ns within) there)

cons_option-append : {X : Type 0} (o : Option X) (ys zs : List X) → cons_option o (ys ++ zs) ≡ cons_option o ys ++ zs
cons_option-append None ys zs = refl
cons_option-append (Some y) ys zs = refl

standing_push : {X : Type 0} (pool : List X) (ns : List ℕ) (n : ℕ) (x : X) → slice_get pool n ≡ Some x → standing pool (ns ++ n ∷ []) ≡ standing pool ns ++ x ∷ []
standing_push {X} pool [] n x there = ap (λ (o : Option X). cons_option o []) there
standing_push {X} pool (m ∷ ns) n x there =
    ap (λ (ys : List X). cons_option (slice_get pool m) ys) (standing_push pool ns n x there)
    ∙ cons_option-append (slice_get pool m) (standing pool ns) (x ∷ [])

-- what stands at one number more
pub standing_next : {X : Type 0} (pool items more : List X) (ns : List ℕ) (k : ℕ) (x : X) → k < length ns → get_or ns k 0 < length pool → x ≡ get_or pool (get_or ns k 0) x → more ≡ items ++ x ∷ [] → items ≡ standing pool (take k ns) → more ≡ standing pool (take (k + 1) ns)
standing_next {X} pool items more ns k x here within is pushed h =
    pushed
    ∙ ap (λ (ys : List X). ys ++ x ∷ []) h
    ∙ sym (standing_push pool (take k ns) (get_or ns k 0) x (read_at pool (get_or ns k 0) x within is))
    ∙ ap (λ (ks : List ℕ). standing pool ks) (sym (take_more ns k 0 here))

-- ---- what a search of the pool finds

-- nothing that is equal to it is there, so it isn't
pub nothing_found : {X : Type 0} (eq : X → X → Bool) → IsEquivalence eq → (pool : List X) (x : X) → list_any (eq x) pool ≡ false → (n : ℕ) → slice_get pool n ≡ Some x → ⊥
nothing_found eq laws pool x none n at = true_or_false (list_any (eq x) pool) (found_at (eq x) pool n x at (laws.refl x)) none

found_first : {X : Type 0} (p : X → Bool) (x y : X) (rest : Option X) (b : Bool) → p x ≡ b → (rest ≡ Some y → p y ≡ true) → cond b (Some x) rest ≡ Some y → p y ≡ true
found_first p x y rest true here later is = subst (λ z. p z ≡ true) (same_some x y is) here
found_first p x y rest false here later is = later is

-- what is found passes the test
pub found_passes : {X : Type 0} (p : X → Bool) (xs : List X) (y : X) → Some y ≡ find p xs → p y ≡ true
found_passes p [] y is = absurd (cc)
found_passes p (x ∷ xs) y is = found_first p x y (find p xs) (p x) refl (λ rest. found_passes p xs y (sym rest)) (sym is)
