-- What lies between two keys of a map.
use Rattle.std.proofs.Common.{◌≡◌, ℕ, ◌<◌, ◌≤◌, Bool, true, false, not, IsTrue, Option, Some, None, is_some, IfSome, List, [], ◌∷◌, slice_get, refl, subst, arith}
use Rattle.std.proofs.lemmas.Bool.Decides.{nat_tests}
use Rattle.std.specs.Option.{MatchOption}
use Rattle.std.specs.BTreeMap.{BTreeMap, get}
use Rattle.std.specs.Ordering.{nat_cmp, is_gt}
use Rattle.std.specs.declared.cmp.Ordering.TheVariants.{Less}
use Rattle.std.specs.declared.ops.Bound.TheVariants.{Included, Excluded}
use Rattle.std.specs.BTreeMap.Range.{IsRangeOf, IsEntryInRange}
use Rattle.gup_exec_parts.specs.declared.pages.Page.{Page}
use Rattle.gup_exec_parts.specs.Pages.{AreFreeBetween}

less : (x y : ℕ) → x < y → nat_cmp x y ≡ Less
less x y below = grind (arith, nat_tests)

not_more : (x y : ℕ) → x ≤ y → is_gt (nat_cmp x y) ≡ false
not_more x y upto = grind (arith, nat_tests)

from_less : (x y : ℕ) → nat_cmp x y ≡ Less → x < y
from_less x y is = grind (arith, nat_tests)

from_not_more : (x y : ℕ) → is_gt (nat_cmp x y) ≡ false → x ≤ y
from_not_more x y is = grind (arith, nat_tests)

module _ (m : BTreeMap ℕ Page) (from below : ℕ) (r : List (ℕ × Page)) (is : IsRangeOf nat_cmp (Included from) (Excluded below) m r) where
  pub nothing_between : r ≡ [] → AreFreeBetween (get nat_cmp m) from below
  nothing_between empty page after before = is.5 empty page (not_more from page after, less page below before)

  pub something_between : (e : ℕ × Page) (rest : List (ℕ × Page)) → r ≡ e ∷ rest → AreFreeBetween (get nat_cmp m) from below → ⊥
  something_between e rest shape free =
      let first : IfSome (slice_get (e ∷ rest) 0) (IsEntryInRange nat_cmp (Included from) (Excluded below) m) =
      subst (λ xs. IfSome (slice_get xs 0) (IsEntryInRange nat_cmp (Included from) (Excluded below) m)) shape is.1 in
      let none : get nat_cmp m e.0 ≡ None = free e.0 (from_not_more from e.0 first.0.0) (from_less e.0 below first.0.1) in
      let some : get nat_cmp m e.0 ≡ Some e.1 = first.1 in
      absurd (cc)

-- what an iterator's next element says of whether there is none
pub none_next : {E A : Type 0} (B : E → Type 0) (next : Option E) (none : Bool) → is_some next ≡ not none → MatchOption next A B → IsTrue none → A
none_next B None none same says is = says
none_next B (Some e) true same says is = absurd (cc)
none_next B (Some e) false same says is = absurd (cc)

pub some_next : {E : Type 0} (A : Type 0) (B : E → Type 0) (next : Option E) (none : Bool) → is_some next ≡ not none → MatchOption next A B → ((e : E) → B e → ⊥) → IsTrue none
some_next A B None true same says never = refl
some_next A B None false same says never = absurd (cc)
some_next A B (Some e) none same says never = absurd (never e says)
