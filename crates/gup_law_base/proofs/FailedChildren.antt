-- Forks that fail: their children have entries left, and no two forks bring one child.
use Rattle.std.proofs.Common.{◌≡◌, ℕ, ◌==◌, inl, inr, Bool, true, false, refl, ap, sym, ◌∙◌, subst, arith}
use Rattle.std.specs.Prelude.{Option, Some, None, IsSome, if◌then◌else◌}
use Rattle.std.proofs.lemmas.Bool.Decides.{nat_tests}
use Rattle.gup_base.specs.declared.entry.Entry.{Entry}
use Rattle.gup_plain.specs.Put.{put, put2}
use Rattle.gup_plain.specs.State.{born, growing, failed}
use Rattle.gup_spec_events.specs.State.{CoreState, ForkStep, failing}
use Rattle.gup_law_base.specs.Sound.{View, Forking, IsSoundBy, is_failing}
use Rattle.gup_law_base.proofs.DonePages.{changed_fork, fork_after}

-- a fork that is there when one is over is another's
without_fork : (forks : ℕ → Option Forking) (a b : ℕ) (k : Forking) → put a None forks b ≡ Some k → (b ≡ a → ⊥) × (forks b ≡ Some k)
without_fork forks a b k is = go (b == a) refl
  where
    go : (t : Bool) → (b == a) ≡ t → (b ≡ a → ⊥) × (forks b ≡ Some k)
    go true same = absurd (let no : ⊥ = grind (arith, nat_tests) in no)
    go false other = ((λ same. let no : ⊥ = grind (arith, nat_tests) in no), grind (arith, nat_tests))

-- 1. No two forks bring one child.

abbrev AreAlone : (ℕ → Option Forking) → Type 0
AreAlone forks = (a b : ℕ) (k l : Forking) → forks a ≡ Some k → forks b ≡ Some l → k.child ≡ l.child → a ≡ b

-- a fork of which no other's child is
pub alone_with : (forks : ℕ → Option Forking) (a : ℕ) (x : Forking) → ((b : ℕ) (k : Forking) → (b ≡ a → ⊥) → forks b ≡ Some k → k.child ≡ x.child → ⊥) → AreAlone forks → AreAlone (put a (Some x) forks)
alone_with forks a x apart alone b d k l first second one =
    elim (changed_fork forks a x b k first) [
      | inl e ↦ elim (changed_fork forks a x d l second) [
        | inl u ↦ e.0 ∙ sym u.0
        | inr u ↦ absurd (apart d l u.0 u.1 (sym (ap (λ (y : Forking). y.child) e.1 ∙ one)))
      ]
      | inr e ↦ elim (changed_fork forks a x d l second) [
        | inl u ↦ absurd (apart b k e.0 e.1 (one ∙ sym (ap (λ (y : Forking). y.child) u.1)))
        | inr u ↦ alone b d k l e.1 u.1 one
      ]
    ]

-- a fork goes on, with the same child
pub alone_next : (forks : ℕ → Option Forking) (a : ℕ) (was next : Forking) → forks a ≡ Some was → next.child ≡ was.child → AreAlone forks → AreAlone (put a (Some next) forks)
alone_next forks a was next mine same alone =
    alone_with forks a next (λ b k other is child. other (alone b a k was is mine (child ∙ same))) alone

-- a fork is over
pub alone_without : (forks : ℕ → Option Forking) (a : ℕ) → AreAlone forks → AreAlone (put a None forks)
alone_without forks a alone b d k l first second one = alone b d k l (without_fork forks a b k first).1 (without_fork forks a d l second).1 one

-- 2. The child of a fork that fails has an entry.

abbrev AreLeft : (ℕ → Option Forking) → (ℕ → ℕ → Option Entry) → Type 0
AreLeft forks entry = (a : ℕ) (k : Forking) → forks a ≡ Some k → k.step ≡ failing → (g : ℕ) × IsSome (entry k.child g)

-- another process's entry changes
left_apart : (entry : ℕ → ℕ → Option Entry) (q page : ℕ) (o : Option Entry) (c : ℕ) → (c ≡ q → ⊥) → (g : ℕ) × IsSome (entry c g) → (g : ℕ) × IsSome (put2 q page o entry c g)
left_apart entry q page o c apart left =
    let same : put2 q page o entry c left.0 ≡ entry c left.0 = grind (arith, nat_tests, apart) in
    (left.0, subst (λ (x : Option Entry). IsSome x) (sym same) left.1)

module _ (v : View) (s : CoreState) where
  lost_child : IsSoundBy v s → (a : ℕ) (k : Forking) → v.forks a ≡ Some k → k.step ≡ failing → s.birth k.child ≡ failed
  lost_child h a k is at = h.fork_birth a k is ∙ ap (λ (step : ForkStep). if is_failing step then failed else growing k.proc) at

  -- the entry of a born process, or of a child that grows, is of no child that is lost
  pub left_born : (p page : ℕ) (o : Option Entry) → IsSoundBy v s → s.birth p ≡ born → AreLeft v.forks (put2 p page o s.entry)
  left_born p page o h lives a k is at =
      let lost : s.birth k.child ≡ failed = lost_child h a k is at in
      left_apart s.entry p page o k.child (λ same. let here : s.birth k.child ≡ born = subst (λ q. s.birth q ≡ born) (sym same) lives in cc) (h.fork_left a k is at)

  pub left_growing : (c p page : ℕ) (o : Option Entry) → IsSoundBy v s → s.birth c ≡ growing p → AreLeft v.forks (put2 c page o s.entry)
  left_growing c p page o h grows a k is at =
      let lost : s.birth k.child ≡ failed = lost_child h a k is at in
      left_apart s.entry c page o k.child (λ same. let here : s.birth k.child ≡ growing p = subst (λ q. s.birth q ≡ growing p) (sym same) grows in cc) (h.fork_left a k is at)

  -- a reference of a lost child's entries is given back, and one is left
  pub left_more : (c page : ℕ) → IsSoundBy v s → (g : ℕ) × IsSome (put page None (s.entry c) g) → AreLeft v.forks (put2 c page None s.entry)
  left_more c page h more a k is at = go (k.child == c) refl
    where
      go : (t : Bool) → (k.child == c) ≡ t → (g : ℕ) × IsSome (put2 c page None s.entry k.child g)
      go true same =
          let here : put2 c page None s.entry k.child more.0 ≡ put page None (s.entry c) more.0 = grind (arith, nat_tests) in
          (more.0, subst (λ (x : Option Entry). IsSome x) (sym here) more.1)
      go false other = left_apart s.entry c page None k.child (λ same. let no : ⊥ = grind (arith, nat_tests) in no) (h.fork_left a k is at)

  -- none is left, and the fork is over
  pub left_none : (a c page : ℕ) (was : Forking) → IsSoundBy v s → v.forks a ≡ Some was → was.child ≡ c → AreLeft (put a None v.forks) (put2 c page None s.entry)
  left_none a c page was h mine child b k is at =
      let other = without_fork v.forks a b k is in
      left_apart s.entry c page None k.child (λ same. other.0 (h.fork_alone b a k was other.1 mine (same ∙ sym child))) (h.fork_left b k other.1 at)

-- a fork goes on, at a step at which it doesn't fail, or at which its child has an entry
pub left_with : (forks : ℕ → Option Forking) (a : ℕ) (next : Forking) (entry : ℕ → ℕ → Option Entry) → (g : ℕ) × IsSome (entry next.child g) → AreLeft forks entry → AreLeft (put a (Some next) forks) entry
left_with forks a next entry there left =
    fork_after (λ b k. k.step ≡ failing → (g : ℕ) × IsSome (entry k.child g)) forks a next (λ at. there) (λ b k other. left b k)

pub left_next : (forks : ℕ → Option Forking) (a : ℕ) (next : Forking) (entry : ℕ → ℕ → Option Entry) → is_failing next.step ≡ false → AreLeft forks entry → AreLeft (put a (Some next) forks) entry
left_next forks a next entry goes left =
    fork_after (λ b k. k.step ≡ failing → (g : ℕ) × IsSome (entry k.child g)) forks a next (λ at. let fails : is_failing next.step ≡ true = ap is_failing at in absurd (cc)) (λ b k other. left b k)

-- a fork is over
pub left_without : (forks : ℕ → Option Forking) (a : ℕ) (entry : ℕ → ℕ → Option Entry) → AreLeft forks entry → AreLeft (put a None forks) entry
left_without forks a entry left b k is = left b k (without_fork forks a b k is).1
