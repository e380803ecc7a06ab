-- Pages of a range, one after another, and pages past the last.
use Rattle.std.proofs.Common.{◌≡◌, ℕ, zero, suc, ◌+◌, ◌<◌, ◌≤◌, ◌^◌, ◌==◌, Bool, true, false, Option, Some, None, IsSome, refl, sym, ◌∙◌, ap, arith}
use Rattle.std.specs.Prelude.{◌||◌, is_some, not}
use Rattle.std.proofs.lemmas.Bool.Decides.{nat_tests}
use Rattle.gup_base.specs.declared.entry.Rights.{Rights}
use Rattle.gup_plain.specs.Pages.{page_numbers}
use Rattle.gup_plain.specs.Denial.{any_below, any_mapped, any_unmapped}

or_right : (a b : Bool) → b ≡ true → (a || b) ≡ true
or_right true b q = refl
or_right false b q = q

or_left : (a b : Bool) → a ≡ true → (a || b) ≡ true
or_left a b p = rw p refl

-- the test holds of k, which is below n
one_below : (n k : ℕ) (test : ℕ → Bool) → k < n → test k ≡ true → any_below n test ≡ true
one_below zero k test less here = absurd (omega arith)
one_below (suc n) k test less here = split (k == n) refl (λ below. one_below n k test below here)
  where
    split : (same : Bool) → (k == n) ≡ same → (k < n → any_below n test ≡ true) → any_below (suc n) test ≡ true
    split true is rest = let at : k ≡ n = grind (arith, nat_tests) in or_right (any_below n test) (test n) (ap test (sym at) ∙ here)
    split false is rest = or_left (any_below n test) (test n) (rest (grind (arith, nat_tests)))

-- one of the pages is mapped
pub found_mapped : (right : ℕ → Option Rights) (page n k at : ℕ) (found : Option Rights) → k < n → at ≡ page + k → found ≡ right at → true ≡ is_some found → true ≡ any_mapped right page n
found_mapped right page n k at found below is reads mapped =
    sym (one_below n k (λ j. is_some (right (page + j))) below (ap (λ (q : ℕ). is_some (right q)) (sym is) ∙ ap (λ (o : Option Rights). is_some o) (sym reads) ∙ sym mapped))

-- one isn't
pub found_unmapped : (right : ℕ → Option Rights) (page n k at : ℕ) (found : Option Rights) → k < n → at ≡ page + k → found ≡ right at → is_some found ≡ false → true ≡ any_unmapped right page n
found_unmapped right page n k at found below is reads unmapped =
    sym (one_below n k (λ j. not (is_some (right (page + j)))) below (ap (λ (q : ℕ). not (is_some (right q))) (sym is) ∙ ap (λ (o : Option Rights). not (is_some o)) (sym reads) ∙ ap not unmapped))

-- a page past the last has no rights
pub no_rights : (rights : Option Rights) (page : ℕ) → (IsSome rights → page < page_numbers) → 2 ^ 35 ≤ page → None ≡ rights
unfolding page_numbers
no_rights None page numbered past = refl
no_rights (Some r) page numbered past = let below : page < page_numbers = numbered refl in absurd (omega arith)
