-- Bounds and tests of one process.
use Rattle.std.proofs.Common.{◌≡◌, ℕ, ◌+◌, ◌-◌, ◌<◌, ◌≤◌, true, false, IsTrue, IsSome, Option, Some, None, All, ◌↔◌, refl, arith}
use Rattle.std.proofs.lemmas.Cmp.{nat_cmp_total}
use Rattle.std.proofs.lemmas.List.Elements.{All-contains}
use Rattle.std.proofs.lemmas.Map.Lookups.{exact_unsigned}
use Rattle.std.proofs.lemmas.Map.Views.{btree_map_contains_key_iff, All-keys_from_lookup}
use Rattle.std.specs.BTreeMap.{BTreeMap, get, keys}
use Rattle.std.specs.Cmp.{eq_by_cmp_equiv}
use Rattle.std.specs.Ordering.{nat_cmp}
use Rattle.gup_plain.specs.Event.{page_numbers}
use Rattle.gup_exec_parts.specs.declared.pages.Page.{Page}
use Rattle.gup_exec_parts.specs.Pages.{right_in}
use Rattle.gup_exec_parts.specs.Space.{SpaceState, CanMap, CanProtect, HasNumbers}

pub page_numbers-is : page_numbers ≡ 34359738368
unfolding page_numbers
page_numbers-is = refl

pub absurd_truth : {P : Type 0} → IsTrue false → P
absurd_truth h = let clash : false ≡ true = h in absurd (cc)

pub too-far : (x : SpaceState) (page n : ℕ) → 34359738368 < page + n → CanMap x page n → ⊥
too-far x page n far can = let bound : page + n ≤ page_numbers = can.1 in let is = page_numbers-is in absurd (omega arith)

pub too-far-to-protect : (x : SpaceState) (page n : ℕ) → HasNumbers x → page < 34359738368 → 34359738368 < page + n → CanProtect x page n → ⊥
too-far-to-protect x page n numbers small far can =
    let last = numbers (page + (n - 1)) (can.1 (n - 1) (omega arith)) in
    let is = page_numbers-is in
    absurd (omega arith)

pub right_none : (o : Option Page) → right_in o ≡ None → o ≡ None
right_none None is = refl
right_none (Some p) is = absurd (cc)

pub right_some : (o : Option Page) → IsSome (right_in o) → IsSome o
right_some o is = grind arith

pub some_right : (o : Option Page) → IsSome o → IsSome (right_in o)
some_right o is = grind arith

-- what holds of each key holds where the map has something
pub all_keys : {X : Type 0} (P : ℕ → Type 0) (m : BTreeMap ℕ X) → All P (keys m) ↔ ((k : ℕ) → IsSome (get nat_cmp m k) → P k)
all_keys P m = (
  λ h k found. All-contains P (keys m) k h ((btree_map_contains_key_iff nat_cmp_total exact_unsigned m k).0 found),
  λ h. All-keys_from_lookup (eq_by_cmp_equiv nat_cmp_total) P m.entries h,
)
