-- What a search for a mapped page finds.
use Rattle.std.proofs.Common.{◌≡◌, ℕ, ◌+◌, ◌<◌, ◌≤◌, ◌⊎◌, inl, inr, eq-or-lt_of_le, Bool, true, false, cond, Option, Some, None, IsSome, is_some, zero, suc, refl, ap, ◌∙◌, arith}
use Rattle.gup_base.specs.declared.entry.Rights.{Rights}
use Rattle.gup_plain.specs.Event.{page_numbers}
use Rattle.gup_plain.specs.Put.{lowest}
use Rattle.gup_space.specs.Space.{SpaceValue}

-- the lowest of n numbers from the first on that passes, where those before it don't
pub found_at : (first n f : ℕ) (test : ℕ → Bool) → first ≤ f → f < first + n → test f ≡ true → ((k : ℕ) → first ≤ k → k < f → test k ≡ false) → lowest first n test ≡ Some f
found_at first zero f test from below passes others = absurd (omega arith)
found_at first (suc n) f test from below passes others =
    go (test first) refl (λ more. found_at (first + 1) n f test more (omega arith) passes (λ k least less. others k (omega arith) less))
  where
    here : (first ≡ f) ⊎ (first < f) → test first ≡ true → first ≡ f
    here (inl same) is = same
    here (inr less) is = let failed : test first ≡ false = others first (omega arith) less in absurd (cc)

    further : (first ≡ f) ⊎ (first < f) → test first ≡ false → first + 1 ≤ f
    further (inl same) is = let passed : test first ≡ true = ap test same ∙ passes in absurd (cc)
    further (inr less) is = omega arith

    go : (b : Bool) → test first ≡ b → (first + 1 ≤ f → lowest (first + 1) n test ≡ Some f) → cond b (Some first) (lowest (first + 1) n test) ≡ Some f
    go true is later = ap (λ (k : ℕ). Some k) (here (eq-or-lt_of_le from) is)
    go false is later = later (further (eq-or-lt_of_le from) is)

pub none_found : (first n : ℕ) (test : ℕ → Bool) → ((k : ℕ) → first ≤ k → test k ≡ false) → lowest first n test ≡ None
none_found first zero test others = refl
none_found first (suc n) test others =
    ap (λ b. cond b (Some first) (lowest (first + 1) n test)) (others first (omega arith)) ∙ none_found (first + 1) n test (λ k least. others k (omega arith))

pub unmapped_is : (rights : Option Rights) → rights ≡ None → is_some rights ≡ false
unmapped_is rights none = ap is_some none

pub below_numbers : (S : SpaceValue) (page : ℕ) → ((g : ℕ) (rights : Rights) → S.right g ≡ Some rights → g < page_numbers) → IsSome (S.right page) → page < page_numbers
below_numbers S page numbered mapped = go (S.right page) refl mapped
  where
    go : (rights : Option Rights) → S.right page ≡ rights → IsSome rights → page < page_numbers
    go None is some = absurd (cc)
    go (Some rights) is some = numbered page rights is
