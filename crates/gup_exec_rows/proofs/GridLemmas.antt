-- Rows of a grid: copies of a map, and what holds of all its keys.
use Rattle.std.proofs.Common.{◌≡◌, ℕ, Bool, true, false, cond, List, [], ◌∷◌, map, Option, Some, None, IsSome, IsTrue, refl, ◌∙◌, ap, length, ◌↔◌, arith}
use Rattle.std.proofs.Math.Bool.{beq}
use Rattle.std.proofs.Math.Path.{fun_ext}
use Rattle.std.proofs.lemmas.Bool.Decides.{nat_tests}
use Rattle.std.proofs.lemmas.Cmp.{nat_cmp_total}
use Rattle.std.proofs.lemmas.Map.Keys.{IsDistinct-from_sorted}
use Rattle.std.proofs.lemmas.Map.Made.{update_all_none}
use Rattle.std.specs.BTreeMap.{BTreeMap, get, is_at, keys, IsOrdered, IsFromIterResult}
use Rattle.std.specs.Cmp.{eq_by_cmp_equiv}
use Rattle.std.specs.List.{IsDistinct}
use Rattle.std.specs.Map.{lookup, keys_of}
use Rattle.std.specs.Option.{option_map}
use Rattle.std.specs.Ordering.{nat_cmp, eq_by_cmp, is_eq}
use Rattle.gup_base.specs.declared.entry.Entry.{Entry}
use Rattle.gup_spec_events.specs.Event.{AreGone}

-- an entry whose value is changed by its key
abbrev pub changed : {V W : Type 0} → (ℕ → V → W) → ℕ × V → ℕ × W
changed h e = (e.0, h e.0 e.1)

found-changed : {V W : Type 0} (h : ℕ → V → W) (b : Bool) (q k : ℕ) (v : V) (rest : Option W) (rest' : Option V) → (b ≡ true → k ≡ q) → rest ≡ option_map (h q) rest' → cond b (Some (h k v)) rest ≡ option_map (h q) (cond b (Some v) rest')
found-changed h true q k v rest rest' same later = ap (λ (n : ℕ). Some (h n v)) (same refl)
found-changed h false q k v rest rest' same later = later

same-key : (q k : ℕ) → is_eq (nat_cmp q k) ≡ true → k ≡ q
same-key q k h = grind (arith, nat_tests)

lookup-changed : {V W : Type 0} (h : ℕ → V → W) (q : ℕ) (es : List (ℕ × V)) → lookup (is_at (nat_cmp q)) (map (changed h) es) ≡ option_map (h q) (lookup (is_at (nat_cmp q)) es)
lookup-changed h q [] = refl
lookup-changed h q (e ∷ es) = found-changed h (is_eq (nat_cmp q e.0)) q e.0 e.1 _ _ (same-key q e.0) (lookup-changed h q es)

keys-changed : {V W : Type 0} (h : ℕ → V → W) (es : List (ℕ × V)) → keys_of (map (changed h) es) ≡ keys_of es
keys-changed h [] = refl
keys-changed h (e ∷ es) = ap (λ (ks : List ℕ). e.0 ∷ ks) (keys-changed h es)

-- a map collected from the changed entries of another
pub get-changed : {V W : Type 0} (h : ℕ → V → W) (m : BTreeMap ℕ V) (n : BTreeMap ℕ W) → IsOrdered nat_cmp m → IsFromIterResult nat_cmp (map (changed h) m.entries) n → get nat_cmp n ≡ (λ q. option_map (h q) (get nat_cmp m q))
get-changed h m n ordered made =
    fun_ext
    (λ q.
    let apart : IsDistinct (eq_by_cmp nat_cmp) (keys_of (map (changed h) m.entries)) = rw (keys-changed h m.entries) (IsDistinct-from_sorted nat_cmp (keys m) ordered) in
    made.0 q
    ∙ update_all_none (eq_by_cmp_equiv nat_cmp_total) (eq_by_cmp nat_cmp) (λ _ _. refl) (map (changed h) m.entries) q apart
    ∙ lookup-changed h q m.entries)

unchanged : {V : Type 0} (o : Option V) → option_map (λ v. v) o ≡ o
unchanged None = refl
unchanged (Some v) = refl

-- a map collected from the entries of another
pub get-copied : {V : Type 0} (m n : BTreeMap ℕ V) → IsOrdered nat_cmp m → IsFromIterResult nat_cmp (map (changed (λ _ (v : V). v)) m.entries) n → get nat_cmp n ≡ get nat_cmp m
get-copied m n ordered made = get-changed (λ _ v. v) m n ordered made ∙ fun_ext (λ q. unchanged (get nat_cmp m q))

none-listed : {V : Type 0} (es : List (ℕ × V)) → length es ≡ 0 → (k : ℕ) → lookup (is_at (nat_cmp k)) es ≡ None
none-listed [] is k = refl
none-listed (e ∷ es) is k = absurd (cc)

self-key : (k : ℕ) → is_eq (nat_cmp k k) ≡ true
self-key k = grind (arith, nat_tests)

listed-none : {V : Type 0} (es : List (ℕ × V)) → ((k : ℕ) → lookup (is_at (nat_cmp k)) es ≡ None) → length es ≡ 0
listed-none [] none = refl
listed-none (e ∷ es) none = let clash : Some e.1 ≡ None = (rw (self-key e.0) at (none e.0)) in absurd (cc)

one-listed : {V : Type 0} (es : List (ℕ × V)) → (length es ≡ 0 → ⊥) → (k : ℕ) × IsSome (lookup (is_at (nat_cmp k)) es)
one-listed [] some = absurd (some refl)
one-listed (e ∷ es) some = (e.0, rw (self-key e.0) refl)

-- a map of entries has nothing at any key where it is empty, and else something at one
pub gone_is : (m : BTreeMap ℕ Entry) (empty gone : Bool) → IsTrue empty ↔ (length m.entries ≡ 0) → IsTrue (beq empty gone) ↔ AreGone (get nat_cmp m) gone
gone_is m true true is = ((λ _. none-listed m.entries (is.0 refl)), λ _. refl)
gone_is m false false is = ((λ _. one-listed m.entries (λ none. let no : false ≡ true = is.1 none in cc)), λ _. refl)
gone_is m true false is = ((λ h. absurd (cc)), λ some. let none : get nat_cmp m some.0 ≡ None = none-listed m.entries (is.0 refl) some.0 in absurd (let h : IsSome (get nat_cmp m some.0) = some.1 in cc))
gone_is m false true is = ((λ h. absurd (cc)), λ none. is.1 (listed-none m.entries none))
