-- A page without rights has no entry.
use Rattle.std.proofs.Common.{◌≡◌, ℕ, ◌<◌, ◌↔◌, Bool, true, false, IsTrue, Option, Some, None, IsSome, is_some, not, IfSome, List, [], ◌∷◌, length, zero, suc, refl, ap, arith}
use Rattle.std.specs.BTreeMap.{BTreeMap, get, is_at, btree_map_len}
use Rattle.std.specs.Map.{lookup}
use Rattle.std.specs.Ordering.{nat_cmp}
use Rattle.gup_exec_parts.specs.declared.pages.Page.{Page}
use Rattle.gup_exec_parts.specs.Pages.{right_in}

pub no_entry : (found : Option Page) → right_in found ≡ None → found ≡ None
no_entry None without = refl
no_entry (Some page) without = absurd (cc)

pub no_right : (found : Option Page) → found ≡ None → right_in found ≡ None
no_right None without = refl
no_right (Some page) without = absurd (cc)

-- a map without a first entry has nothing, and one that has nothing is without a first entry
nothing_in : (m : BTreeMap ℕ Page) (es : List (ℕ × Page)) → m.entries ≡ es → length es ≡ 0 → (page : ℕ) → get nat_cmp m page ≡ None
nothing_in m [] same none page = ap (λ (xs : List (ℕ × Page)). lookup (is_at (nat_cmp page)) xs) same
nothing_in m (e ∷ es) same none page = absurd (cc)

no_entry_in : false ≡ true → ⊥
no_entry_in wrong = absurd (cc)

none_long : (n : ℕ) → (0 < n → ⊥) → n ≡ 0
none_long zero never = refl
none_long (suc n) never = absurd (never (omega arith))

pub nothing_first : {E : Type 0} (m : BTreeMap ℕ Page) (first : Option E) (none : Bool) → is_some first ≡ not none → IsSome first ↔ (0 < btree_map_len m) → IsTrue none → (page : ℕ) → get nat_cmp m page ≡ None
nothing_first m None none same variant is page = nothing_in m m.entries refl (none_long (length m.entries) (λ some. no_entry_in (variant.1 some))) page
nothing_first m (Some e) true same variant is page = absurd (cc)
nothing_first m (Some e) false same variant is page = absurd (cc)

pub lacks_first : {E : Type 0} (key : E → ℕ) (value : E → Page) (m : BTreeMap ℕ Page) (first : Option E) (none : Bool) → is_some first ≡ not none → IfSome first (λ e. get nat_cmp m (key e) ≡ Some (value e)) → ((page : ℕ) → get nat_cmp m page ≡ None) → IsTrue none
lacks_first key value m None true same has lacks = refl
lacks_first key value m None false same has lacks = absurd (cc)
lacks_first key value m (Some e) none same has lacks =
    let nothing : get nat_cmp m (key e) ≡ None = lacks (key e) in
    absurd (cc)
