-- The pages of a map, each with an object of its own.
use Rattle.std.proofs.Common.{◌≡◌, ℕ, ◌+◌, Bool, true, false, cond, List, [], ◌∷◌, map, Option, Some, is_some, refl, sym, ◌∙◌, ap, arith}
use Rattle.std.proofs.Math.Path.{fun_ext}
use Rattle.std.proofs.lemmas.Bool.Decides.{nat_tests}
use Rattle.std.proofs.lemmas.Cmp.{nat_cmp_total}
use Rattle.std.proofs.lemmas.Map.Entries.{length-keys_of}
use Rattle.std.proofs.lemmas.Map.Keys.{IsDistinct-from_sorted}
use Rattle.std.proofs.lemmas.Map.Made.{update_all_none, is_some-lookup, length-from_same_keys}
use Rattle.std.specs.BTreeMap.{BTreeMap, get, is_at, keys, IsOrdered, IsFromIterResult, btree_map_len}
use Rattle.std.specs.Cmp.{eq_by_cmp_equiv}
use Rattle.std.specs.List.{IsDistinct}
use Rattle.std.specs.Map.{lookup, keys_of}
use Rattle.std.specs.Ordering.{nat_cmp, eq_by_cmp, is_eq}
use Rattle.std.specs.Set.{is_member}
use Rattle.gup_exec_parts.specs.declared.pages.Page.{Page}
use Rattle.gup_exec_parts.specs.Pages.{page_with, with_object, own_objects}

-- an entry with an object of its own
abbrev pub own_entry : (objects : ℕ) → ℕ × Page → ℕ × Page
own_entry objects e = (e.0, page_with e.1.rights (objects + e.0))

found-own : (b : Bool) (objects q k : ℕ) (p : Page) (rest rest' : Option Page) → (b ≡ true → k ≡ q) → rest ≡ with_object (objects + q) rest' → cond b (Some (page_with p.rights (objects + k))) rest ≡ with_object (objects + q) (cond b (Some p) rest')
found-own true objects q k p rest rest' same later = ap (λ (n : ℕ). Some (page_with p.rights (objects + n))) (same refl)
found-own false objects q k p rest rest' same later = later

same-key : (q k : ℕ) → is_eq (nat_cmp q k) ≡ true → k ≡ q
same-key q k h = grind (arith, nat_tests)

lookup-own : (objects q : ℕ) (es : List (ℕ × Page)) → lookup (is_at (nat_cmp q)) (map (own_entry objects) es) ≡ with_object (objects + q) (lookup (is_at (nat_cmp q)) es)
lookup-own objects q [] = refl
lookup-own objects q (e ∷ es) = found-own (is_eq (nat_cmp q e.0)) objects q e.0 e.1 _ _ (same-key q e.0) (lookup-own objects q es)

keys-own : (objects : ℕ) (es : List (ℕ × Page)) → keys_of (map (own_entry objects) es) ≡ keys_of es
keys-own objects [] = refl
keys-own objects (e ∷ es) = ap (λ (ks : List ℕ). e.0 ∷ ks) (keys-own objects es)

distinct : (m : BTreeMap ℕ Page) → IsOrdered nat_cmp m → IsDistinct (eq_by_cmp nat_cmp) (keys m)
distinct m ordered = IsDistinct-from_sorted nat_cmp (keys m) ordered

pub get-own : (objects : ℕ) (m own : BTreeMap ℕ Page) → IsOrdered nat_cmp m → IsFromIterResult nat_cmp (map (own_entry objects) m.entries) own → get nat_cmp own ≡ own_objects objects (get nat_cmp m)
get-own objects m own ordered made =
    fun_ext
    (λ q.
    let apart : IsDistinct (eq_by_cmp nat_cmp) (keys_of (map (own_entry objects) m.entries)) = rw keys-own (distinct m ordered) in
    made.0 q
    ∙ update_all_none (eq_by_cmp_equiv nat_cmp_total) (eq_by_cmp nat_cmp) (λ _ _. refl) (map (own_entry objects) m.entries) q apart
    ∙ lookup-own objects q m.entries)

same-presence : (object : ℕ) (o : Option Page) → is_some (with_object object o) ≡ is_some o
same-presence object o = grind arith

pub len-own : (objects : ℕ) (m own : BTreeMap ℕ Page) → IsOrdered nat_cmp m → IsOrdered nat_cmp own → get nat_cmp own ≡ own_objects objects (get nat_cmp m) → btree_map_len own ≡ btree_map_len m
len-own objects m own ordered own_ordered same =
    let there : (q : ℕ) → is_some (get nat_cmp own q) ≡ is_some (get nat_cmp m q) =
    λ q. ap (λ (f : ℕ → Option Page). is_some (f q)) same ∙ same-presence (objects + q) (get nat_cmp m q) in
    let members : (q : ℕ) → is_member (eq_by_cmp nat_cmp) (keys own) q ≡ is_member (eq_by_cmp nat_cmp) (keys m) q =
    λ q. sym (is_some-lookup (is_at (nat_cmp q)) own.entries) ∙ there q ∙ is_some-lookup (is_at (nat_cmp q)) m.entries in
    sym (length-keys_of own.entries)
    ∙ length-from_same_keys (eq_by_cmp_equiv nat_cmp_total) (keys own) (keys m) (distinct own own_ordered) (distinct m ordered) members
    ∙ length-keys_of m.entries
