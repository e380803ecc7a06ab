-- Functions of numbers that are changed at one place or over a range.
use Rattle.std.proofs.Common.{◌≡◌, ℕ, zero, suc, ◌+◌, ◌-◌, ◌<◌, ◌≤◌, ◌==◌, false, cond, List, [], ◌∷◌, ◌++◌, Option, Some, None, is_some, length, get_or, slice_set, slice_get, refl, sym, ◌∙◌, ap, arith}
use Rattle.std.proofs.Math.Path.{fun_ext}
use Rattle.std.proofs.lemmas.Option.{slice_get-get_or}
use Rattle.std.proofs.lemmas.Bool.Decides.{nat_tests}
use Rattle.std.specs.BTreeMap.{BTreeMap, get}
use Rattle.std.specs.Ordering.{nat_cmp, is_eq}
use Rattle.std.specs.Option.{option_map_or}
use Rattle.gup_plain.specs.Put.{put, spread}
use Rattle.gup_exec_parts.specs.declared.pages.Page.{Page}
use Rattle.gup_exec_parts.specs.Pages.{AreFree}
use Rattle.gup_exec_parts.specs.Tables.{at_key, at_place}

-- a look-up after a change at one key
pub updated : {X : Type 0} (f g : ℕ → X) (k : ℕ) (w : X) → ((q : ℕ) → g q ≡ cond (is_eq (nat_cmp k q)) w (f q)) → g ≡ put k w f
updated f g k w h = fun_ext (λ q. let here = h q in grind (arith, nat_tests))

spread_past : {X : Type 0} (first k : ℕ) (g f : ℕ → X) → spread first k g f (first + k) ≡ f (first + k)
spread_past first k g f = grind (arith, nat_tests)

-- after a range everything is as it was
pub still : {X : Type 0} (f g h : ℕ → X) (first k page : ℕ) → h ≡ spread first k g f → page ≡ first + k → h page ≡ f (first + k)
still f g h first k page changed at = rw (at, changed) (spread_past first k g f)

spread_more : {X : Type 0} (first k : ℕ) (g f : ℕ → X) → put (first + k) (g (first + k)) (spread first k g f) ≡ spread first (k + 1) g f
spread_more first k g f = fun_ext (λ q. grind (arith, nat_tests))

-- a range that grows at its end
pub grown : {X : Type 0} (f g h h' : ℕ → X) (first k page : ℕ) (w : X) → h ≡ spread first k g f → page ≡ first + k → h' ≡ put page w h → w ≡ g (first + k) → h' ≡ spread first (k + 1) g f
grown f g h h' first k page w changed at more is = more ∙ rw (at, is, changed) (spread_more first k g f)

undone_at : (f g h : ℕ → Option Page) (first n k q : ℕ) → AreFree f first n → k ≤ n → spread first k (λ _. None) (spread first k g f) q ≡ f q
undone_at f g h first n k q free within = let here = free (q - first) in grind (arith, nat_tests)

-- a range that was free, mapped and unmapped again
pub undone : (f g h h' : ℕ → Option Page) (first n k : ℕ) → AreFree f first n → k ≤ n → h ≡ spread first k g f → h' ≡ spread first k (λ _. None) h → h' ≡ f
undone f g h h' first n k free within mapped unmapped = unmapped ∙ rw mapped (fun_ext (λ q. undone_at f g h first n k q free within))

-- ---- maps, read by a function

pub at_found : {X Y : Type 0} (f : X → Y) (d : Y) (m : BTreeMap ℕ X) (k : ℕ) (x : X) → Some x ≡ get nat_cmp m k → at_key f d m k ≡ f x
at_found f d m k x found = rw (sym found) refl

pub at_absent : {X Y : Type 0} (f : X → Y) (d : Y) (m : BTreeMap ℕ X) (k : ℕ) → false ≡ is_some (get nat_cmp m k) → at_key f d m k ≡ d
at_absent f d m k none = read-absent f d (get nat_cmp m k) none
  where
    read-absent : {X Y : Type 0} (f : X → Y) (d : Y) (o : Option X) → false ≡ is_some o → option_map_or f o d ≡ d
    read-absent f d None none = refl
    read-absent f d (Some x) none = absurd (cc)

-- a map that has x at the key now
pub key_updated : {X Y : Type 0} (f : X → Y) (d : Y) (m n : BTreeMap ℕ X) (k : ℕ) (x : X) → ((q : ℕ) → get nat_cmp n q ≡ cond (is_eq (nat_cmp k q)) (Some x) (get nat_cmp m q)) → at_key f d n ≡ put k (f x) (at_key f d m)
key_updated f d m n k x h = fun_ext (λ q. let here = h q in grind (arith, nat_tests))

pub put_same : {X : Type 0} (k : ℕ) (f : ℕ → X) (x : X) → x ≡ f k → put k x f ≡ f
put_same k f x same = fun_ext (λ q. put-same-at k q f x same)
  where
    put-same-at : {X : Type 0} (k q : ℕ) (f : ℕ → X) (x : X) → x ≡ f k → put k x f q ≡ f q
    put-same-at k q f x same = grind (arith, nat_tests)

-- ---- lists, read by a function

after-first : (q : ℕ) → (suc q == 0) ≡ false
after-first q = grind (arith, nat_tests)

before-last : (i : ℕ) → (0 == suc i) ≡ false
before-last i = grind (arith, nat_tests)

one-less : (q i : ℕ) → (suc q == suc i) ≡ (q == i)
one-less q i = grind (arith, nat_tests)

place-put-at : {X Y : Type 0} (f : X → Y) (d : Y) (xs : List X) (i q : ℕ) (x : X) → i < length xs → at_place f d (slice_set xs i x) q ≡ put i (f x) (at_place f d xs) q
place-put-at f d [] i q x within = absurd (omega arith)
place-put-at f d (y ∷ xs) zero zero x within = refl
place-put-at f d (y ∷ xs) zero (suc q) x within = rw (after-first q) refl
place-put-at f d (y ∷ xs) (suc i) zero x within = rw (before-last i) refl
place-put-at f d (y ∷ xs) (suc i) (suc q) x within = rw (one-less q i) (place-put-at f d xs i q x (omega arith))

pub place_put : {X Y : Type 0} (f : X → Y) (d : Y) (xs : List X) (i j : ℕ) (x : X) → j ≡ i → i < length xs → at_place f d (slice_set xs j x) ≡ put i (f x) (at_place f d xs)
place_put f d xs i j x same within = rw same (fun_ext (λ q. place-put-at f d xs i q x within))

pub place_is : {X Y : Type 0} (f : X → Y) (d : Y) (xs : List X) (i j : ℕ) (x : X) → j ≡ i → i < length xs → x ≡ get_or xs j x → at_place f d xs i ≡ f x
place_is f d xs i j x same within is =
    let there : slice_get xs i ≡ Some (get_or xs i x) = slice_get-get_or xs i x within in
    let here : get_or xs i x ≡ x = sym (rw same at is) in
    rw (there, here) refl

place-push-at : {X Y : Type 0} (f : X → Y) (d : Y) (xs : List X) (x : X) (q : ℕ) → f x ≡ d → at_place f d xs q ≡ d → at_place f d (xs ++ x ∷ []) q ≡ d
place-push-at f d [] x zero is blank = is
place-push-at f d [] x (suc q) is blank = refl
place-push-at f d (y ∷ ys) x zero is blank = blank
place-push-at f d (y ∷ ys) x (suc q) is blank = place-push-at f d ys x q is blank

-- a list that reads as the default everywhere, and one more element that does
pub place_push : {X Y : Type 0} (f : X → Y) (d : Y) (xs : List X) (x : X) → f x ≡ d → at_place f d xs ≡ (λ _. d) → at_place f d (xs ++ x ∷ []) ≡ (λ _. d)
place_push f d xs x is blank = fun_ext (λ q. place-push-at f d xs x q is (ap (λ g. g q) blank))
