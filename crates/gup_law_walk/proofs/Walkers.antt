-- How many walks a process has: one that begins adds its actor to the list of those that walk, one that ends takes it out.
use Rattle.std.proofs.Common.{◌≡◌, ℕ, ◌+◌, ◌-◌, ◌==◌, Bool, true, false, List, ◌∷◌, refl, ap, sym, ◌∙◌, subst, arith}
use Rattle.std.specs.Prelude.{Option, Some, None, Contains, if◌then◌else◌}
use Rattle.std.proofs.lemmas.Bool.Decides.{nat_tests}
use Rattle.std.proofs.lemmas.Map.Made.{Contains-tail}
use Rattle.gup_plain.specs.Put.{put}
use Rattle.gup_law_base.specs.Sound.{Walking, walk_process, AreWalkers}
use Rattle.gup_law_base.proofs.Holders.{first_element, later_element}
use Rattle.gup_law_base.proofs.Numbers.{by_number, IsShorter, taken_out}
use Rattle.gup_law_base.proofs.Tally.{number_here}
use Rattle.gup_law_walk.proofs.Switches.{put_there}

-- the walk of actor a becomes w
module _ (walks : ℕ → Option Walking) (a : ℕ) (w : Option Walking) where
  abbrev next : ℕ → Option Walking
  next = put a w walks

  process_here : walk_process (next a) ≡ walk_process w
  process_here = ap walk_process (number_here a w walks)

  process_there : (b : ℕ) → (b ≡ a → ⊥) → walk_process (next b) ≡ walk_process (walks b)
  process_there b apart = ap walk_process (put_there a w walks b apart)

  -- what it is of the process before, it is after
  stay : (p n : ℕ) → (walk_process (walks a) ≡ Some p → walk_process w ≡ Some p) → (walk_process w ≡ Some p → walk_process (walks a) ≡ Some p) → AreWalkers walks p n → AreWalkers next p n
  stay p n to from are =
      let into = λ (b : ℕ) (is : walk_process (next b) ≡ Some p). (are.2 b).0 (by_number b a (λ same. subst (λ c. walk_process (walks c) ≡ Some p) (sym same) (from (sym process_here ∙ subst (λ c. walk_process (next c) ≡ Some p) same is))) (λ apart. sym (process_there b apart) ∙ is)) in
      let out = λ (b : ℕ) (has : Contains are.0 b). by_number b a (λ same. subst (λ c. walk_process (next c) ≡ Some p) (sym same) (process_here ∙ to (subst (λ c. walk_process (walks c) ≡ Some p) same ((are.2 b).1 has)))) (λ apart. process_there b apart ∙ (are.2 b).1 has) in
      (are.0, are.1, (λ b. (into b, out b)), are.3)

  -- the walk goes on
  pub walkers_same : walk_process (walks a) ≡ walk_process w → (count : ℕ → ℕ) → ((p : ℕ) → AreWalkers walks p (count p)) → (p : ℕ) → AreWalkers next p (count p)
  walkers_same same count all p = stay p (count p) (λ is. sym same ∙ is) (λ is. same ∙ is) (all p)

  -- a walk of process p begins
  pub walkers_more : (p : ℕ) (count : ℕ → ℕ) → walk_process (walks a) ≡ None → walk_process w ≡ Some p → ((q : ℕ) → AreWalkers walks q (count q)) → (q : ℕ) → AreWalkers next q (put p (count p + 1) count q)
  walkers_more p count was is all q = go (q == p) refl
    where
      one_more : AreWalkers next p (count p + 1)
      one_more =
          let xs : List ℕ = (all p).0 in
          let fresh : Contains xs a → ⊥ = λ has. let no : None ≡ Some p = sym was ∙ ((all p).2 a).1 has in absurd (cc) in
          let into = λ (b : ℕ) (at : walk_process (next b) ≡ Some p). by_number b a (λ same. subst (Contains (a ∷ xs)) (sym same) (first_element a xs)) (λ apart. later_element a xs b (((all p).2 b).0 (sym (process_there b apart) ∙ at))) in
          let out = λ (b : ℕ) (has : Contains (a ∷ xs) b). by_number b a (λ same. subst (λ c. walk_process (next c) ≡ Some p) (sym same) (process_here ∙ is)) (λ apart. process_there b apart ∙ ((all p).2 b).1 (Contains-tail a xs b (λ e. apart (sym e)) has)) in
          (a ∷ xs, (fresh, (all p).1), (λ b. (into b, out b)), omega (arith, (all p).3))

      go : (b : Bool) → (q == p) ≡ b → AreWalkers next q (if b then count p + 1 else count q)
      go true same = let equal : p ≡ q = grind (arith, nat_tests) in subst (λ r. AreWalkers next r (count p + 1)) equal one_more
      go false other =
          let apart : p ≡ q → ⊥ = λ e. let no : ⊥ = grind (arith, nat_tests) in no in
          stay q (count q) (λ at. absurd (let no : None ≡ Some q = sym was ∙ at in cc)) (λ at. absurd (apart (let e : Some p ≡ Some q = sym is ∙ at in cc))) (all q)

  -- a walk of process p ends
  pub walkers_less : (p : ℕ) (count : ℕ → ℕ) → walk_process (walks a) ≡ Some p → walk_process w ≡ None → ((q : ℕ) → AreWalkers walks q (count q)) → (q : ℕ) → AreWalkers next q (put p (count p - 1) count q)
  walkers_less p count was is all q = go (q == p) refl
    where
      one_less : AreWalkers next p (count p - 1)
      one_less =
          let xs : List ℕ = (all p).0 in
          let rest = taken_out a xs (all p).1 (((all p).2 a).0 was) in
          let ys : List ℕ = rest.0 in
          let without : IsShorter a xs ys = rest.1 in
          let into = λ (b : ℕ) (at : walk_process (next b) ≡ Some p). by_number b a (λ same. absurd (let no : None ≡ Some p = sym is ∙ (sym process_here ∙ subst (λ c. walk_process (next c) ≡ Some p) same at) in cc)) (λ apart. without.rest b apart (((all p).2 b).0 (sym (process_there b apart) ∙ at))) in
          let out = λ (b : ℕ) (has : Contains ys b). by_number b a (λ same. absurd (without.gone (subst (Contains ys) same has))) (λ apart. process_there b apart ∙ ((all p).2 b).1 (without.less b has)) in
          (ys, without.alone, (λ b. (into b, out b)), omega (arith, without.shorter, (all p).3))

      go : (b : Bool) → (q == p) ≡ b → AreWalkers next q (if b then count p - 1 else count q)
      go true same = let equal : p ≡ q = grind (arith, nat_tests) in subst (λ r. AreWalkers next r (count p - 1)) equal one_less
      go false other =
          let apart : p ≡ q → ⊥ = λ e. let no : ⊥ = grind (arith, nat_tests) in no in
          stay q (count q) (λ at. absurd (apart (let e : Some p ≡ Some q = sym was ∙ at in cc))) (λ at. absurd (let no : None ≡ Some q = sym is ∙ at in cc)) (all q)
