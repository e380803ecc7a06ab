-- The pages that a running pin has taken.
use Rattle.std.proofs.Common.{◌≡◌, ℕ, ◌==◌, Bool, true, false, List, [], ◌∷◌, Some, All, Contains, slice_get, get_or, refl, sym, ◌∙◌, arith}
use Rattle.std.proofs.lemmas.Bool.Decides.{nat_tests}
use Rattle.std.proofs.lemmas.List.Folds.{list_any_at}
use Rattle.std.proofs.lemmas.Map.Views.{Contains-from_any}
use Rattle.std.specs.List.{list_any}
use Rattle.gup_plain.specs.State.{Pending}
use Rattle.gup_plain.specs.Event.{pending_pages, AreTaken, write_flag}

-- where the first page agrees with all
pub agreed-is : (taken : List Pending) (first : Pending) (w : Bool) → slice_get taken 0 ≡ Some first → w ≡ first.write → All (λ (t : Pending). t.write ≡ w) taken → AreTaken taken w × (w ≡ write_flag taken)
agreed-is [] first w found same all = absurd (cc)
agreed-is (t ∷ ts) first w found same all = (all, same-write t first w found same)
  where
    same-write : (t first : Pending) (w : Bool) → Some t ≡ Some first → w ≡ first.write → w ≡ t.write
    same-write t first w found same = cc

abbrev pub has : ℕ → Pending → Bool
has page t = t.page == page

any-map : (page : ℕ) (taken : List Pending) → list_any (λ n. n == page) (pending_pages taken) ≡ list_any (has page) taken
any-map page [] = refl
any-map page (t ∷ ts) = let rest = any-map page ts in cc

same-number : (q k : ℕ) → (k == q) ≡ true → q ≡ k
same-number q k h = grind (arith, nat_tests)

pub taken-has : (taken : List Pending) (page : ℕ) → list_any (has page) taken ≡ true → Contains (pending_pages taken) page
taken-has taken page found =
    Contains-from_any {eq = λ (q k : ℕ). k == q} (λ q k h. same-number q k h) page (pending_pages taken) (any-map page taken ∙ found)

self-equal : (n : ℕ) (m : ℕ) → m ≡ n → (m == n) ≡ true
self-equal n m h = grind (arith, nat_tests)

pub has-taken : (taken : List Pending) (page : ℕ) → Contains (pending_pages taken) page → list_any (has page) taken ≡ true
has-taken taken page at =
    sym (any-map page taken)
    ∙ list_any_at (λ (n : ℕ). n == page) (pending_pages taken) at.0 page at.1 (self-equal page (get_or (pending_pages taken) at.0 page) at.2)

pub lacks : (taken : List Pending) (page : ℕ) → false ≡ list_any (has page) taken → Contains (pending_pages taken) page → ⊥
lacks taken page none at = let clash : false ≡ true = none ∙ has-taken taken page at in cc
