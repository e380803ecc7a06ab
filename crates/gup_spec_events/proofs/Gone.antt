-- What it says of entries that none of some pages has one.
use Rattle.std.proofs.Common.{◌≡◌, ℕ, ◌+◌, ◌<◌, ◌≤◌, nat_lt, ◌⊎◌, inl, inr, Bool, true, false, List, [], ◌++◌, zero, suc, refl, ap, sym, ◌∙◌, arith, eq-or-lt_of_le}
use Rattle.std.specs.Prelude.{Option, Some, None, IsSome, is_some, not, ◌&&◌}
use Rattle.std.proofs.lemmas.Bool.Decides.{nat_tests}
use Rattle.gup_base.specs.declared.entry.Entry.{Entry}
use Rattle.gup_spec_events.specs.Event.{CoreEvent, AreGone}
use Rattle.gup_spec_events.specs.Failure.{are_gone, puts_entry, puts_entries}

below_or_from : (k n : ℕ) → (k < n) ⊎ (n ≤ k)
below_or_from k n = go (nat_lt k n) refl
  where
    go : (b : Bool) → nat_lt k n ≡ b → (k < n) ⊎ (n ≤ k)
    go true is = inl (grind (arith, nat_tests))
    go false is = inr (grind (arith, nat_tests))

here_none : (o : Option Entry) (rest : Bool) → not (is_some o) && rest ≡ true → (o ≡ None) × (rest ≡ true)
here_none None rest is = (refl, is)
here_none (Some e) rest is = absurd (cc)

-- then none of them has one
pub all_gone : (entry : ℕ → Option Entry) (first n : ℕ) → are_gone entry first n ≡ true → (page : ℕ) → first ≤ page → page < first + n → entry page ≡ None
all_gone entry first zero is page least below = absurd (omega arith)
all_gone entry first (suc n) is page least below =
    let both = here_none (entry first) (are_gone entry (first + 1) n) is in
    elim (eq-or-lt_of_le least) [ inl same ↦ ap entry (sym same) ∙ both.0 | inr more ↦ all_gone entry (first + 1) n both.1 page (omega (arith, more)) (omega arith) ]

-- else one has
pub one_left : (entry : ℕ → Option Entry) (first n : ℕ) → are_gone entry first n ≡ false → (page : ℕ) × (first ≤ page) × (page < first + n) × IsSome (entry page)
one_left entry first zero is = absurd (cc)
one_left entry first (suc n) is = go (entry first) refl is (one_left entry (first + 1) n)
  where
    go : (o : Option Entry) → entry first ≡ o → not (is_some o) && are_gone entry (first + 1) n ≡ false → (are_gone entry (first + 1) n ≡ false → (page : ℕ) × (first + 1 ≤ page) × (page < first + 1 + n) × IsSome (entry page)) → (page : ℕ) × (first ≤ page) × (page < first + suc n) × IsSome (entry page)
    go (Some e) some gone later = (first, omega arith, omega arith, ap is_some some)
    go None none gone later =
        let left = later gone in
        (left.0, omega (arith, left.1), omega (arith, left.2), left.3)

-- no reference is given back where there are none
pub no_puts : (a p c : ℕ) (done : List ℕ) (entry : ℕ → Option Entry) (first n : ℕ) → are_gone entry first n ≡ true → puts_entries a p c done entry first n ≡ []
no_puts a p c done entry first zero is = refl
no_puts a p c done entry first (suc n) is =
    let both = here_none (entry first) (are_gone entry (first + 1) n) is in
    let none : puts_entry a p c done first (entry first) (are_gone entry (first + 1) n) ≡ [] = ap (λ (o : Option Entry). puts_entry a p c done first o (are_gone entry (first + 1) n)) both.0 in
    ap (λ (es : List CoreEvent). es ++ puts_entries a p c done entry (first + 1) n) none ∙ no_puts a p c done entry (first + 1) n both.1

-- it is whether a process has no entry, where its entries are these, and none elsewhere
pub are_said : (all entry : ℕ → Option Entry) (first n : ℕ) → ((page : ℕ) → first ≤ page → page < first + n → all page ≡ entry page) → ((page : ℕ) → (page < first) ⊎ (first + n ≤ page) → all page ≡ None) → AreGone all (are_gone entry first n)
are_said all entry first n alike others = go (are_gone entry first n) refl
  where
    either : (page : ℕ) → are_gone entry first n ≡ true → (page < first) ⊎ (first ≤ page) → (page < first + n) ⊎ (first + n ≤ page) → all page ≡ None
    either page gone (inl less) high = others page (inl less)
    either page gone (inr least) (inr high) = others page (inr high)
    either page gone (inr least) (inl below) = alike page least below ∙ all_gone entry first n gone page least below

    go : (gone : Bool) → are_gone entry first n ≡ gone → AreGone all gone
    go true is = λ page. either page is (below_or_from page first) (below_or_from page (first + n))
    go false is = let left = one_left entry first n is in (left.0, ap is_some (alike left.0 left.1 left.2) ∙ left.3)
