-- What a page has in parent and child: rights, and objects, as the plain state shows them.
use Rattle.std.proofs.Common.{◌≡◌, ℕ, false, refl, subst, arith}
use Rattle.std.specs.Prelude.{Option, Some, None, IsSome, nat_lt}
use Rattle.std.proofs.lemmas.Bool.Decides.{nat_tests}
use Rattle.gup_base.specs.declared.entry.Rights.{Rights}
use Rattle.gup_plain.specs.State.{growing, named_or_zero}
use Rattle.gup_spec_events.specs.State.{CoreState, plain_of}
use Rattle.gup_law_base.specs.Sound.{View, IsSoundBy}
use Rattle.gup_law_base.proofs.DonePages.{some_there}
use Rattle.gup_law_base.proofs.NamedObjects.{named_here}
use Rattle.gup_plain.specs.Event.{AreForking}

-- the child of a fork names an object of its own where it is mapped
pub child_names : (v : View) (s : CoreState) (c g : ℕ) → IsSoundBy v s → (s.right c g ≡ None → ⊥) → v.names c g ≡ Some (s.object c g)
child_names v s c g h mapped = by_right (s.right c g) refl
  where
    by_right : (r : Option Rights) → s.right c g ≡ r → v.names c g ≡ Some (s.object c g)
    by_right None is = absurd (mapped is)
    by_right (Some r) is = h.right_names c g r is

-- the objects of a forked page are shown by the plain state
pub shown_same : (v : View) (s : CoreState) (p c page : ℕ) → IsSoundBy v s → s.birth c ≡ growing p → (s.right c page ≡ None → ⊥) → ◌≡◌ {A = ℕ × ℕ} (named_or_zero (s.right p page) (s.object p page), named_or_zero (s.right c page) (s.object c page)) (s.object p page, s.object c page)
shown_same v s p c page h grows mapped =
    let child : IsSome (s.right c page) = some_there (s.right c page) mapped in
    let parent : IsSome (s.right p page) = subst (λ (r : Option Rights). IsSome r) (h.growing_rights c p page grows) child in
    let one = named_here (s.right p page) (s.object p page) parent in
    let two = named_here (s.right c page) (s.object c page) child in
    cc

-- parent and child have the page
pub page_forks : (v : View) (s : CoreState) (p c page : ℕ) → IsSoundBy v s → s.birth c ≡ growing p → (s.right c page ≡ None → ⊥) → AreForking (plain_of s) p c page
page_forks v s p c page h grows mapped =
    let child : IsSome (s.right c page) = some_there (s.right c page) mapped in
    (grows, subst (λ (r : Option Rights). IsSome r) (h.growing_rights c p page grows) child, child)

-- no word is before the first
pub none_before : (w : ℕ) → nat_lt w 0 ≡ false
none_before w = grind (arith, nat_tests)
