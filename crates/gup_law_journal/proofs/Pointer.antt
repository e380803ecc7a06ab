-- Where the pointer goes: round the circle of actors, to the first that can take a turn.
use Rattle.std.proofs.Common.{◌≡◌, ℕ, ◌+◌, ◌<◌, ◌==◌, Bool, true, false, cond, Option, Some, None, length, refl, sym, subst, ap, ◌∙◌, nat_le, ◌-◌, ◌≤◌, leb-true, leb-false, zero, suc, arith}
use Rattle.std.proofs.lemmas.Bool.Decides.{nat_tests}
use Rattle.gup_script.specs.Script.{ScriptValue}
use Rattle.gup_spec_journal.specs.Order.{behind, behind_by, pointer_after}
use Rattle.gup_spec_turns.specs.Run.{RunState, can_go, pointed, next_by, next_actor, written_in}
use Rattle.gup_law_turns.proofs.Puts.{some_same}

-- in the circle

pub behind_below : (n a : ℕ) → a < n → behind n a < n
behind_below n a less = grind (arith, nat_tests)

pub behind_by_below : (n steps a : ℕ) → a < n → behind_by n steps a < n
behind_by_below n zero a less = less
behind_by_below n (suc steps) a less = behind_by_below n steps (behind n a) (behind_below n a less)

behind_inside : (n a : ℕ) → a + 1 < n → behind n a ≡ a + 1
behind_inside n a less = grind (arith, nat_tests)

behind_last : (n a : ℕ) → a + 1 ≡ n → behind n a ≡ 0
behind_last n a last = grind (arith, nat_tests)

-- without coming round
reaches_up : (n steps a : ℕ) → a + steps < n → behind_by n steps a ≡ a + steps
reaches_up n zero a less = omega arith
reaches_up n (suc steps) a less =
    let next = behind_inside n a (omega arith) in
    let later = reaches_up n steps (a + 1) (omega arith) in
    let same : a + 1 + steps ≡ a + suc steps = omega arith in
    ap (behind_by n steps) next ∙ later ∙ same

-- coming round once
reaches_round : (n steps a b : ℕ) → a < n → b < n → a + steps ≡ n + b → behind_by n steps a ≡ b
reaches_round n zero a b less below is = absurd (omega arith)
reaches_round n (suc steps) a b less below is = go (a + 1 == n) refl (λ inside. reaches_round n steps (a + 1) b inside below (omega arith))
  where
    go : (c : Bool) → (a + 1 == n) ≡ c → (a + 1 < n → behind_by n steps (a + 1) ≡ b) → behind_by n steps (behind n a) ≡ b
    go true e later =
        let last : a + 1 ≡ n = grind (arith, nat_tests) in
        let up = reaches_up n steps 0 (omega arith) in
        let same : 0 + steps ≡ b = omega arith in
        ap (behind_by n steps) (behind_last n a last) ∙ up ∙ same
    go false e later =
        let inside : a + 1 < n = grind (arith, nat_tests) in
        ap (behind_by n steps) (behind_inside n a inside) ∙ later inside

-- each actor is so many steps after each
pub reaches : (n a b : ℕ) → a < n → b < n → (steps : ℕ) × (steps < n) × (behind_by n steps a ≡ b)
reaches n a b less below = go (nat_le a b) refl
  where
    go : (c : Bool) → nat_le a b ≡ c → (steps : ℕ) × (steps < n) × (behind_by n steps a ≡ b)
    go true e =
        let up : a ≤ b = leb-true a b e in
        let same : a + (b - a) ≡ b = omega arith in
        (b - a, omega arith, reaches_up n (b - a) a (omega arith) ∙ same)
    go false e =
        let down : b < a = leb-false a b e in
        (n + b - a, omega arith, reaches_round n (n + b - a) a b less below (omega arith))

-- of a run

-- what fails at the first and at each after it fails at one step more
passed_too : (test : ℕ → Bool) (n from steps : ℕ) → test from ≡ false → ((k : ℕ) → k < steps → test (behind_by n k (behind n from)) ≡ false) → (k : ℕ) → k < suc steps → test (behind_by n k from) ≡ false
passed_too test n from steps here later zero less = here
passed_too test n from steps here later (suc k) less = later k (omega arith)

module _ (script : ScriptValue) (r : RunState) where
  -- b is the first of n actors from this one on that can go
  abbrev pub IsFirstToGo : (n from b : ℕ) → Type 0
  IsFirstToGo n from b =
      (steps : ℕ) × (steps < n) × (b ≡ behind_by (length script.actors) steps from)
      × ((k : ℕ) → k < steps → can_go script r (behind_by (length script.actors) k from) ≡ false) × (can_go script r b ≡ true)

  -- none of n actors from this one on can go
  abbrev pub NoneCanGo : (n from : ℕ) → Type 0
  NoneCanGo n from = (k : ℕ) → k < n → can_go script r (behind_by (length script.actors) k from) ≡ false

  pub pointed_some : (n from b : ℕ) → pointed script r n from ≡ Some b → IsFirstToGo n from b
  pointed_some zero from b is = absurd (cc is)
  pointed_some (suc n) from b is = go (can_go script r from) refl is (pointed_some n (behind (length script.actors) from) b)
    where
      go : (c : Bool) → can_go script r from ≡ c → cond c (Some from) (pointed script r n (behind (length script.actors) from)) ≡ Some b → (pointed script r n (behind (length script.actors) from) ≡ Some b → IsFirstToGo n (behind (length script.actors) from) b) → IsFirstToGo (suc n) from b
      go true e now later =
          let same : from ≡ b = some_same now in
          (0, omega arith, sym same, (λ k less. absurd (omega arith)), subst (λ (a : ℕ). can_go script r a ≡ true) same e)
      go false e now later =
          let found = later now in
          (suc found.0, omega arith, found.2, passed_too (can_go script r) (length script.actors) from found.0 e found.3, found.4)

  pub pointed_none : (n from : ℕ) → pointed script r n from ≡ None → NoneCanGo n from
  pointed_none zero from is k less = absurd (omega arith)
  pointed_none (suc n) from is k less = go (can_go script r from) refl is (pointed_none n (behind (length script.actors) from))
    where
      go : (c : Bool) → can_go script r from ≡ c → cond c (Some from) (pointed script r n (behind (length script.actors) from)) ≡ None → (pointed script r n (behind (length script.actors) from) ≡ None → NoneCanGo n (behind (length script.actors) from)) → can_go script r (behind_by (length script.actors) k from) ≡ false
      go true e now later = absurd (cc now)
      go false e now later = passed_too (can_go script r) (length script.actors) from n e (later now) k less

  -- the pointer is at an actor, if there is one
  abbrev pub PointerFits : Type 0
  PointerFits = 0 < length script.actors → r.pointer < length script.actors

  -- at the end of a run no actor can go
  end_by : (written : Option ℕ) → PointerFits → next_by script r written ≡ None → (written ≡ None) × ((a : ℕ) → a < length script.actors → can_go script r a ≡ false)
  end_by (Some w) fits is = absurd (cc is)
  end_by None fits is = (refl, each)
    where
      each : (a : ℕ) → a < length script.actors → can_go script r a ≡ false
      each a below =
          let way = reaches (length script.actors) r.pointer a (fits (omega arith)) below in
          subst (λ (b : ℕ). can_go script r b ≡ false) way.2 (pointed_none (length script.actors) r.pointer is way.0 way.1)

  pub none_can_go : PointerFits → next_actor script r ≡ None → (written_in script r ≡ None) × ((a : ℕ) → a < length script.actors → can_go script r a ≡ false)
  none_can_go fits is = end_by (written_in script r) fits is

  -- a turn leaves the pointer at an actor
  pointer_by : (written : Option ℕ) (a : ℕ) → PointerFits → next_by script r written ≡ Some a → 0 < length script.actors → pointer_after (length script.actors) r.pointer written a < length script.actors
  pointer_by (Some w) a fits is some = fits some
  pointer_by None a fits is some =
      let found = pointed_some (length script.actors) r.pointer a is in
      let below = behind_by_below (length script.actors) found.0 r.pointer (fits some) in
      behind_below (length script.actors) a (subst (λ (b : ℕ). b < length script.actors) (sym found.2) below)

  pub pointer_fits : (a : ℕ) → PointerFits → next_actor script r ≡ Some a → 0 < length script.actors → pointer_after (length script.actors) r.pointer (written_in script r) a < length script.actors
  pointer_fits a fits is some = pointer_by (written_in script r) a fits is some
