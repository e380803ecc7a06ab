-- Asking the awake: what their answers say of whom the pointer gives the turn, and of who is asleep then.
use Rattle.std.proofs.Common.{◌≡◌, ℕ, ◌+◌, ◌<◌, ◌≤◌, ◌==◌, Bool, true, false, if◌then◌else◌, Option, Some, None, length, refl, sym, ap, ◌∙◌, subst, zero, suc, arith}
use Rattle.std.proofs.lemmas.Bool.Decides.{nat_tests}
use Rattle.std.proofs.lemmas.Option.{slice_get_past}
use Rattle.gup_plain.specs.Put.{put}
use Rattle.gup_plain.specs.declared.note.Waiting.{Waiting}
use Rattle.gup_script.specs.declared.op.Op.{Op}
use Rattle.gup_script.specs.Script.{ScriptValue}
use Rattle.gup_spec_journal.specs.Place.{Place, has_finished, ops_of}
use Rattle.gup_spec_turns.specs.JobPlace.{place_in}
use Rattle.gup_spec_turns.specs.Run.{RunState, run_after, is_ready, op_in, waiting_in, can_go, pointed}
use Rattle.gup_core.specs.declared.outcome.Woken.{Woken as SaidWoken}
use Rattle.gup_core.specs.Waking.{woken_of}
use Rattle.gup_law_waits.specs.Woken.{Woken, wakes}
use Rattle.gup_sched.specs.Awake.{awake_from, AreAsleep, awake_behind}
use Rattle.gup_sched.proofs.AwakeSearches.{awake_pointed, none_pointed}
use Rattle.gup_sched.proofs.AwakeTurns.{WakesNoOthers, asleep_on}

-- ---- whoever waits or has finished can't go

ready_waits : (op : Option Op) (waiting : Waiting) → is_ready op (Some waiting) ≡ false
ready_waits None waiting = refl
ready_waits (Some op) waiting = refl

pub waits_so : (script : ScriptValue) (r : RunState) (a : ℕ) (waiting : Waiting) → waiting_in script r a ≡ Some waiting → can_go script r a ≡ false
waits_so script r a waiting is = ap (λ w. is_ready (op_in script r a) w) is ∙ ready_waits (op_in script r a) waiting

finished_at : (script : ScriptValue) (a : ℕ) (place : Place) → has_finished script a place ≡ true → length (ops_of script a) ≤ place.answered
finished_at script a place is = grind (arith, nat_tests)

pub finished_so : (script : ScriptValue) (r : RunState) (a : ℕ) → has_finished script a (r.places a) ≡ true → can_go script r a ≡ false
finished_so script r a is =
    let none : op_in script r a ≡ None = slice_get_past (ops_of script a) (r.places a).answered (finished_at script a (r.places a) is) in
    ap (λ o. is_ready o (waiting_in script r a)) none

-- so it may sleep
pub falls_asleep : (script : ScriptValue) (r : RunState) (n a : ℕ) (awake : ℕ → Bool) → can_go script r a ≡ false → AreAsleep script r n awake → AreAsleep script r n (put a false awake)
falls_asleep script r n a awake stays asleep k below = go (k == a) refl
  where
    go : (t : Bool) → (k == a) ≡ t → (if t then false else awake k) ≡ false → can_go script r k ≡ false
    go true e sleeps = let same : k ≡ a = grind (arith, nat_tests) in ap (can_go script r) same ∙ stays
    go false e sleeps = asleep k below sleeps

-- ---- how many are awake

abbrev pub count_awake : (n : ℕ) → (ℕ → Bool) → ℕ
count_awake zero awake = 0
count_awake (suc n) awake = (if awake n then 1 else 0) + count_awake n awake

count_same : (n a : ℕ) (awake : ℕ → Bool) → n ≤ a → count_awake n (put a false awake) ≡ count_awake n awake
count_same zero a awake past = refl
count_same (suc n) a awake past =
    let other : (n == a) ≡ false = grind (arith, nat_tests) in
    rw other (ap (λ m. (if awake n then 1 else 0) + m) (count_same n a awake (omega arith)))

pub count_falls : (n a : ℕ) (awake : ℕ → Bool) → a < n → awake a ≡ true → count_awake n (put a false awake) < count_awake n awake
count_falls zero a awake there is = absurd (omega arith)
count_falls (suc n) a awake there is = go (n == a) refl (λ less. count_falls n a awake less is)
  where
    go : (t : Bool) → (n == a) ≡ t → (a < n → count_awake n (put a false awake) < count_awake n awake) → count_awake (suc n) (put a false awake) < count_awake (suc n) awake
    go true e below =
        let same : n ≡ a = grind (arith, nat_tests) in
        let was : awake n ≡ true = ap awake same ∙ is in
        let rest = count_same n a awake (omega (arith, same)) in
        rw (e, was) (omega (arith, rest))
    go false e below =
        let less : a < n = grind (arith, nat_tests) in
        let rest = below less in
        rw e (omega (arith, rest))

-- ---- whom the pointer gives the turn

pub asked_goes : (script : ScriptValue) (r : RunState) (n pointer a : ℕ) (awake : ℕ → Bool) → n ≡ length script.actors → AreAsleep script r n awake → pointer < n → awake_from awake n n pointer ≡ Some a → can_go script r a ≡ true → Some a ≡ pointed script r n pointer
asked_goes script r n pointer a awake all asleep there found goes =
    let m : ℕ = length script.actors in
    sym (awake_pointed script r awake (subst (λ (k : ℕ). AreAsleep script r k awake) all asleep) n pointer a (subst (λ (k : ℕ). pointer < k) all there) (subst (λ (k : ℕ). awake_from awake k n pointer ≡ Some a) all found) goes)

pub asked_none : (script : ScriptValue) (r : RunState) (n pointer : ℕ) (awake : ℕ → Bool) → n ≡ length script.actors → AreAsleep script r n awake → (0 < n → pointer < n) → awake_from awake n n pointer ≡ None → None ≡ pointed script r n pointer
asked_none script r zero pointer awake all asleep there found = refl
asked_none script r (suc k) pointer awake all asleep there found =
    let n : ℕ = suc k in
    sym (none_pointed script r awake (subst (λ (j : ℕ). AreAsleep script r j awake) all asleep) n pointer (subst (λ (j : ℕ). pointer < j) all (there (omega arith))) (subst (λ (j : ℕ). awake_from awake j n pointer ≡ None) all found))

-- ---- who is asleep after its turn

pub asleep_behind : (script : ScriptValue) (r : RunState) (n a : ℕ) (awake now : ℕ → Bool) (woken : SaidWoken) → WakesNoOthers script r → awake a ≡ true → AreAsleep script r n awake
    → woken_of woken ≡ wakes (op_in script r a) (place_in (run_after script r a).core a)
    → ((k : ℕ) → k < n → now k ≡ awake_behind (woken_of woken) n awake k)
    → AreAsleep script (run_after script r a) n now
asleep_behind script r n a awake now woken law own asleep is same k below sleeps =
    asleep_on script r n a awake law own asleep k below (ap (λ (w : Woken). awake_behind w n awake k) (sym is) ∙ sym (same k below) ∙ sleeps)
