-- A map has as many entries as there are numbers at which it has something.
use Rattle.std.proofs.Common.{◌≡◌, ℕ, ◌<◌, ◌≤◌, nat_lt, Bool, ◌==◌, true, false, cond, List, [], ◌∷◌, length, Option, Some, None, IsSome, is_some, All, refl, sym, ◌∙◌, ap, arith}
use Rattle.std.proofs.lemmas.Bool.Decides.{nat_tests}
use Rattle.std.proofs.lemmas.Cmp.{nat_cmp_total}
use Rattle.std.proofs.lemmas.List.Elements.{All-head, All-tail}
use Rattle.std.proofs.lemmas.Map.{lookup-none}
use Rattle.std.proofs.lemmas.Map.Entries.{none_past_head, length-keys_of}
use Rattle.std.proofs.lemmas.Map.Keys.{IsDistinct-from_sorted, IsDistinct-tail}
use Rattle.std.specs.BTreeMap.{BTreeMap, get, is_at, keys, IsOrdered, btree_map_len}
use Rattle.std.specs.Cmp.{eq_by_cmp_equiv}
use Rattle.std.specs.List.{IsDistinct, filter}
use Rattle.std.specs.Map.{lookup, keys_of}
use Rattle.std.specs.Ordering.{nat_cmp, eq_by_cmp, is_eq}
use Rattle.gup_plain.proofs.Sums.{passing, none_passing, one_more_passing, same_passing}
use Rattle.gup_plain.specs.Pages.{page_numbers, mapped_pages}
use Rattle.gup_exec_parts.specs.declared.pages.Page.{Page}
use Rattle.gup_exec_parts.specs.Pages.{right_in, AreNumbered}
use Rattle.gup_exec_parts.proofs.SpaceLemmas.{all_keys, some_right}

own_test : (k : ℕ) → is_eq (nat_cmp k k) ≡ true
own_test k = grind (arith, nat_tests)

apart : (q k : ℕ) → q < k → (q == k) ≡ false
apart q k less = grind (arith, nat_tests)

own_key : {X : Type 0} (k : ℕ) (x : X) (rest : Option X) → is_some (cond (is_eq (nat_cmp k k)) (Some x) rest) ≡ true
own_key k x rest = rw (own_test k) refl

other_key : {X : Type 0} (q k : ℕ) (x : X) (rest : Option X) → (q == k) ≡ false → is_some (cond (is_eq (nat_cmp q k)) (Some x) rest) ≡ is_some rest
other_key q k x rest other = grind (arith, nat_tests)

-- whether the first key is below n or not
first_counted : {X : Type 0} (n : ℕ) (e : ℕ × X) (es : List (ℕ × X)) (b : Bool) → nat_lt e.0 n ≡ b → IsDistinct (eq_by_cmp nat_cmp) (keys_of (e ∷ es)) → passing n (λ q. is_some (lookup (is_at (nat_cmp q)) es)) ≡ length (filter (λ k. nat_lt k n) (keys_of es)) → passing n (λ q. is_some (lookup (is_at (nat_cmp q)) (e ∷ es))) ≡ length (cond b (e.0 ∷ filter (λ k. nat_lt k n) (keys_of es)) (filter (λ k. nat_lt k n) (keys_of es)))
first_counted n e es true test distinct rest =
    let below : e.0 < n = grind (arith, nat_tests) in
    let gone : lookup (is_at (nat_cmp e.0)) es ≡ None =
    lookup-none (is_at (nat_cmp e.0)) es (none_past_head (eq_by_cmp_equiv nat_cmp_total) e.0 e es distinct (own_test e.0)) in
    let more =
    one_more_passing n (λ q. is_some (lookup (is_at (nat_cmp q)) es)) (λ q. is_some (lookup (is_at (nat_cmp q)) (e ∷ es))) e.0
    below (ap is_some gone) (own_key e.0 e.1 (lookup (is_at (nat_cmp e.0)) es))
    (λ q other. other_key q e.0 e.1 (lookup (is_at (nat_cmp q)) es) other) in
    omega (arith, more, rest)
first_counted n e es false test distinct rest =
    let above : n ≤ e.0 = grind (arith, nat_tests) in
    same_passing n (λ q. is_some (lookup (is_at (nat_cmp q)) (e ∷ es))) (λ q. is_some (lookup (is_at (nat_cmp q)) es))
    (λ q less. other_key q e.0 e.1 (lookup (is_at (nat_cmp q)) es) (apart q e.0 (omega arith)))
    ∙ rest

counted_entries : {X : Type 0} (n : ℕ) (es : List (ℕ × X)) → IsDistinct (eq_by_cmp nat_cmp) (keys_of es) → passing n (λ q. is_some (lookup (is_at (nat_cmp q)) es)) ≡ length (filter (λ k. nat_lt k n) (keys_of es))
counted_entries n [] distinct = none_passing n (λ q. false) (λ q. refl)
counted_entries n (e ∷ es) distinct =
    first_counted n e es (nat_lt e.0 n) refl distinct (counted_entries n es (IsDistinct-tail (eq_by_cmp nat_cmp) e.0 (keys_of es) distinct))

-- as many numbers below n as there are keys below n
pub counted_keys : {X : Type 0} (n : ℕ) (m : BTreeMap ℕ X) → IsOrdered nat_cmp m → passing n (λ k. is_some (get nat_cmp m k)) ≡ length (filter (λ k. nat_lt k n) (keys m))
counted_keys n m ordered = counted_entries n m.entries (IsDistinct-from_sorted nat_cmp (keys m) ordered)

all_pass : (n : ℕ) (ks : List ℕ) → All (λ k. k < n) ks → length (filter (λ k. nat_lt k n) ks) ≡ length ks
all_pass n [] below = refl
all_pass n (k ∷ ks) below =
    let first : k < n = All-head (λ j. j < n) k ks below in
    let test : nat_lt k n ≡ true = grind (arith, nat_tests) in
    let rest = all_pass n ks (All-tail (λ j. j < n) k ks below) in
    rw test (omega (arith, rest))

-- where each key is below n
pub counted_map : {X : Type 0} (n : ℕ) (m : BTreeMap ℕ X) → IsOrdered nat_cmp m → ((k : ℕ) → IsSome (get nat_cmp m k) → k < n) → passing n (λ k. is_some (get nat_cmp m k)) ≡ btree_map_len m
counted_map n m ordered below =
    counted_keys n m ordered ∙ all_pass n (keys m) ((all_keys (λ k. k < n) m).1 below) ∙ length-keys_of m.entries

right-presence : (o : Option Page) → is_some o ≡ is_some (right_in o)
right-presence None = refl
right-presence (Some page) = refl

-- the pages of a process
pub mapped-len : (pages : BTreeMap ℕ Page) → IsOrdered nat_cmp pages → AreNumbered (get nat_cmp pages) → btree_map_len pages ≡ mapped_pages (λ page. right_in (get nat_cmp pages page))
mapped-len pages ordered numbered =
    sym (counted_map page_numbers pages ordered (λ k is. numbered k (some_right (get nat_cmp pages k) is)))
    ∙ same_passing page_numbers (λ k. is_some (get nat_cmp pages k)) (λ k. is_some (right_in (get nat_cmp pages k))) (λ k less. right-presence (get nat_cmp pages k))
