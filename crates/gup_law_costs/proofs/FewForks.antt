-- A script has no more forks than processes, since each fork brings a child of its own.
use Rattle.std.proofs.Common.{◌≡◌, ℕ, ◌+◌, ◌<◌, ◌≤◌, ◌==◌, ◌⊎◌, inl, inr, Bool, true, false, if◌then◌else◌, List, [], ◌∷◌, length, slice_get, Some, refl, ap, sym, suc, eqb-true, arith}
use Rattle.std.specs.Prelude.{sum_by}
use Rattle.std.proofs.lemmas.Bool.Decides.{nat_tests}
use Rattle.std.proofs.lemmas.List.Sums.{sum_by-cons}
use Rattle.gup_script.specs.declared.op.Op.{Op}
use Rattle.gup_script.specs.declared.op.Op.TheVariants.{Fork}
use Rattle.gup_script.specs.Script.{ScriptValue, Actor, ops_in}
use Rattle.gup_script.specs.Valid.{IsScript}
use Rattle.gup_spec_turns.specs.Cost.{is_fork, forks}
use Rattle.gup_plain.specs.Pages.{sum_below}
use Rattle.gup_law_turns.proofs.ScriptLemmas.{child_declared}
use Rattle.gup_law_turns.proofs.Sums.{sum_at, sum_both, sum_ones, sum_zero}

-- the forks that bring a child

-- one where the operation is a fork that brings the child
abbrev brings : Op → (child : ℕ) → ℕ
brings (Fork c) child = if child == c then 1 else 0
brings op child = 0

-- how many of these operations bring it
abbrev bringing : List Op → (child : ℕ) → ℕ
bringing [] child = 0
bringing (op ∷ ops) child = brings op child + bringing ops child

-- and how many of all of these actors'
abbrev all_bringing : List Actor → (child : ℕ) → ℕ
all_bringing [] child = 0
all_bringing (actor ∷ actors) child = bringing actor.ops child + all_bringing actors child

-- the operation at this place is one
abbrev BringsAt : List Op → (k child : ℕ) → Type 0
BringsAt ops k child = slice_get ops k ≡ Some (Fork child)

abbrev AllBringAt : List Actor → (a k child : ℕ) → Type 0
AllBringAt actors a k child = BringsAt (ops_in (slice_get actors a)) k child

-- by their children, the forks are all of them

module _ (n : ℕ) where
  fork_sum : (op : Op) → ((c : ℕ) → op ≡ Fork c → c < n) → sum_below n (brings op) ≡ is_fork op
  fork_sum (Fork c) low =
      let all = sum_at n (brings (Fork c)) (λ j. 0) c (low c refl) (λ j other. rw other refl) in
      let none = sum_zero n (λ j. 0) (λ j. refl) in
      let here : brings (Fork c) c ≡ 1 = grind (arith, nat_tests) in
      omega (arith, all, none, here)
  fork_sum op low = sum_zero n (λ j. 0) (λ j. refl)

  bringing_sum : (ops : List Op) → ((k c : ℕ) → BringsAt ops k c → c < n) → sum_below n (bringing ops) ≡ sum_by is_fork ops
  bringing_sum [] low = sum_zero n (λ j. 0) (λ j. refl)
  bringing_sum (op ∷ ops) low =
      let first = fork_sum op (λ c is. low 0 c (ap (λ (o : Op). Some o) is)) in
      let rest = bringing_sum ops (λ k. low (suc k)) in
      let both = sum_both n (brings op) (bringing ops) in
      let all = sum_by-cons is_fork op ops in
      omega (arith, first, rest, both, all)

  all_bringing_sum : (actors : List Actor) → ((a k c : ℕ) → AllBringAt actors a k c → c < n) → sum_below n (all_bringing actors) ≡ sum_by (λ (a : Actor). sum_by is_fork a.ops) actors
  all_bringing_sum [] low = sum_zero n (λ j. 0) (λ j. refl)
  all_bringing_sum (actor ∷ actors) low =
      let first = bringing_sum actor.ops (low 0) in
      let rest = all_bringing_sum actors (λ a. low (suc a)) in
      let both = sum_both n (bringing actor.ops) (all_bringing actors) in
      let all = sum_by-cons (λ (a : Actor). sum_by is_fork a.ops) actor actors in
      omega (arith, first, rest, both, all)

-- where the child is brought, there is a place of the fork

module _ (child : ℕ) where
  -- the operation, of which so many bring the child, is its fork or isn't
  abbrev IsForkOr : Op → (count : ℕ) → Type 0
  IsForkOr op count = (count ≡ 0) ⊎ ((op ≡ Fork child) × (count ≡ 1))

  brings_by : (c : ℕ) (b : Bool) → (child == c) ≡ b → IsForkOr (Fork c) (if b then 1 else 0)
  brings_by c true same = inr (ap (λ (d : ℕ). Fork d) (sym (eqb-true child c same)), refl)
  brings_by c false same = inl refl

  brings_or : (op : Op) → IsForkOr op (brings op child)
  brings_or (Fork c) = brings_by c (child == c) refl
  brings_or op = inl refl

  bringing_or : (ops : List Op) → (bringing ops child ≡ 0) ⊎ ((k : ℕ) × BringsAt ops k child)
  bringing_or [] = inl refl
  bringing_or (op ∷ ops) =
      elim (brings_or op) [
        | inl other ↦ elim (bringing_or ops) [
          | inl none ↦ inl (omega (arith, other, none))
          | inr later ↦ inr (suc later.0, later.1)
        ]
        | inr is ↦ inr (0, ap (λ (o : Op). Some o) is.0)
      ]

  all_bringing_or : (actors : List Actor) → (all_bringing actors child ≡ 0) ⊎ ((a : ℕ) × (k : ℕ) × AllBringAt actors a k child)
  all_bringing_or [] = inl refl
  all_bringing_or (actor ∷ actors) =
      elim (bringing_or actor.ops) [
        | inl other ↦ elim (all_bringing_or actors) [
          | inl none ↦ inl (omega (arith, other, none))
          | inr later ↦ inr (suc later.0, later.1, later.2)
        ]
        | inr first ↦ inr (0, first.0, first.1)
      ]

  -- and where all such places are one, it is brought once

  bringing_one : (ops : List Op) → ((j k : ℕ) → BringsAt ops j child → BringsAt ops k child → j ≡ k) → bringing ops child ≤ 1
  bringing_one [] once = omega arith
  bringing_one (op ∷ ops) once =
      let rest = bringing_one ops (λ j k here there. let same = once (suc j) (suc k) here there in omega (arith, same)) in
      elim (brings_or op) [
        | inl other ↦ omega (arith, other, rest)
        | inr is ↦ elim (bringing_or ops) [
          | inl none ↦ omega (arith, is.1, none)
          | inr later ↦ (let same = once 0 (suc later.0) (ap (λ (o : Op). Some o) is.0) later.1 in absurd (omega (arith, same)))
        ]
      ]

  all_bringing_one : (actors : List Actor) → ((a b j k : ℕ) → AllBringAt actors a j child → AllBringAt actors b k child → (a ≡ b) × (j ≡ k)) → all_bringing actors child ≤ 1
  all_bringing_one [] once = omega arith
  all_bringing_one (actor ∷ actors) once =
      let rest = all_bringing_one actors (λ a b j k here there. let same = once (suc a) (suc b) j k here there in (omega (arith, same.0), same.1)) in
      let first = bringing_one actor.ops (λ j k here there. (once 0 0 j k here there).1) in
      elim (bringing_or actor.ops) [
        | inl other ↦ omega (arith, other, rest)
        | inr here ↦ elim (all_bringing_or actors) [
          | inl none ↦ omega (arith, first, none)
          | inr later ↦ (let same = once 0 (suc later.0) here.0 later.1 here.1 later.2 in absurd (omega (arith, same.0)))
        ]
      ]

-- so there are no more forks than processes
pub few_forks : (script : ScriptValue) → IsScript script → forks script ≤ length script.processes
few_forks script valid =
    let n : ℕ = length script.processes in
    let all = all_bringing_sum n script.actors (λ a k child there. child_declared script valid a k child there) in
    let few = sum_ones n (all_bringing script.actors) (λ child. all_bringing_one child script.actors (λ a b j k here there. valid.forks_once a b j k child here there)) in
    omega (arith, all, few)
