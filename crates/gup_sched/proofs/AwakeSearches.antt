-- Whom the search among the awake finds, and whom the pointer gives the turn then.
use Rattle.std.proofs.Common.{◌≡◌, ◌≢◌, ℕ, ◌+◌, ◌<◌, ◌≤◌, Bool, true, false, cond, Some, None, length, refl, ap, ◌∙◌, zero, suc, ⊎_elim, arith}
use Rattle.std.proofs.lemmas.Bool.{cases_eq}
use Rattle.std.proofs.lemmas.Bool.Decides.{nat_tests}
use Rattle.gup_script.specs.Script.{ScriptValue}
use Rattle.gup_spec_journal.specs.Order.{behind}
use Rattle.gup_spec_turns.specs.Run.{RunState, can_go, pointed}
use Rattle.gup_sched.specs.Awake.{AreAsleep, awake_from}

-- the next number, in a circle

pub behind_inside : (n a : ℕ) → a + 1 < n → behind n a ≡ a + 1
behind_inside n a less = grind (arith, nat_tests)

pub behind_last : (n a : ℕ) → a + 1 ≡ n → behind n a ≡ 0
behind_last n a last = grind (arith, nat_tests)

pub behind_below : (n a : ℕ) → a < n → behind n a < n
behind_below n a less = grind (arith, nat_tests)

-- whom the search finds

-- the first one from here on
pub search_is : (awake : ℕ → Bool) (n steps a x : ℕ) → a ≤ x → x < n → x < a + steps → awake x ≡ true → ((j : ℕ) → a ≤ j → j < x → awake j ≡ false) → awake_from awake n steps a ≡ Some x
search_is awake n zero a x above below near is before = absurd (omega arith)
search_is awake n (suc steps) a x above below near is before =
    ⊎_elim
    (λ (e : a ≡ x). rw e (rw is refl))
    (λ (ne : a ≢ x).
    rw (before a (omega arith) (omega arith), behind_inside n a (omega arith))
    (search_is awake n steps (a + 1) x (omega arith) below (omega arith) is (λ j h l. before j (omega arith) l)))
    (cases_eq a x)

-- or where none is there, the first of all
pub search_wraps : (awake : ℕ → Bool) (n steps a x : ℕ) → a < n → x < n → x + n < a + steps → ((j : ℕ) → a ≤ j → j < n → awake j ≡ false) → awake x ≡ true → ((j : ℕ) → j < x → awake j ≡ false) → awake_from awake n steps a ≡ Some x
search_wraps awake n zero a x there below near none is before = absurd (omega arith)
search_wraps awake n (suc steps) a x there below near none is before =
    ⊎_elim
    (λ (last : a + 1 ≡ n).
    rw (none a (omega arith) there, behind_last n a last)
    (search_is awake n steps 0 x (omega arith) below (omega arith) is (λ j h l. before j l)))
    (λ (more : a + 1 ≢ n).
    rw (none a (omega arith) there, behind_inside n a (omega arith))
    (search_wraps awake n steps (a + 1) x (omega arith) below (omega arith) (λ j h l. none j (omega arith) l) is before))
    (cases_eq (a + 1) n)

-- or none at all
pub search_none : (awake : ℕ → Bool) (n steps a : ℕ) → a < n → ((j : ℕ) → j < n → awake j ≡ false) → awake_from awake n steps a ≡ None
search_none awake n zero a there none = refl
search_none awake n (suc steps) a there none = rw (none a there) (search_none awake n steps (behind n a) (behind_below n a there) none)

-- Where whoever is asleep can't go, the search of the pointer passes it.

-- the first awake one is the pointer's, if it can go
pub awake_pointed : (script : ScriptValue) (r : RunState) (awake : ℕ → Bool) → AreAsleep script r (length script.actors) awake → (steps a x : ℕ) → a < length script.actors → awake_from awake (length script.actors) steps a ≡ Some x → can_go script r x ≡ true → pointed script r steps a ≡ Some x
awake_pointed script r awake asleep zero a x there found goes = absurd (cc found)
awake_pointed script r awake asleep (suc steps) a x there found goes =
    go (awake a) refl found (λ now. awake_pointed script r awake asleep steps (behind (length script.actors) a) x (behind_below (length script.actors) a there) now goes)
  where
    n : ℕ
    n = length script.actors

    go : (b : Bool) → awake a ≡ b → cond b (Some a) (awake_from awake n steps (behind n a)) ≡ Some x → (awake_from awake n steps (behind n a) ≡ Some x → pointed script r steps (behind n a) ≡ Some x) → cond (can_go script r a) (Some a) (pointed script r steps (behind n a)) ≡ Some x
    go true is now later = let same : a ≡ x = cc now in rw (ap (can_go script r) same ∙ goes) now
    go false is now later = rw (asleep a there is) (later now)

-- and where none is awake, the pointer gives the turn to none
pub none_pointed : (script : ScriptValue) (r : RunState) (awake : ℕ → Bool) → AreAsleep script r (length script.actors) awake → (steps a : ℕ) → a < length script.actors → awake_from awake (length script.actors) steps a ≡ None → pointed script r steps a ≡ None
none_pointed script r awake asleep zero a there found = refl
none_pointed script r awake asleep (suc steps) a there found =
    go (awake a) refl found (λ now. none_pointed script r awake asleep steps (behind (length script.actors) a) (behind_below (length script.actors) a there) now)
  where
    n : ℕ
    n = length script.actors

    go : (b : Bool) → awake a ≡ b → cond b (Some a) (awake_from awake n steps (behind n a)) ≡ None → (awake_from awake n steps (behind n a) ≡ None → pointed script r steps (behind n a) ≡ None) → cond (can_go script r a) (Some a) (pointed script r steps (behind n a)) ≡ None
    go true is now later = absurd (cc now)
    go false is now later = rw (asleep a there is) (later now)
