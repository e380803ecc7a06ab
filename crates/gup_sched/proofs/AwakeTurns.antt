-- Who is asleep after a turn.
use Rattle.std.proofs.Common.{◌≡◌, ℕ, ◌<◌, ◌==◌, Bool, true, false, if◌then◌else◌, List, refl, sym, ap, ◌∙◌, subst, arith}
use Rattle.std.proofs.lemmas.Bool.Decides.{nat_tests}
use Rattle.gup_script.specs.Script.{ScriptValue}
use Rattle.gup_script.specs.Valid.{IsScript}
use Rattle.gup_spec_turns.specs.JobPlace.{place_in}
use Rattle.gup_spec_turns.specs.Run.{RunState, run_start, run_after, op_in, can_go, turned}
use Rattle.gup_law_waits.specs.Woken.{Woken, nobody, one, everybody, wakes, MayWake}
use Rattle.gup_sched.specs.Awake.{AreAsleep, awake_behind}

-- the law of who wakes, of one state
abbrev pub WakesNoOthers : ScriptValue → RunState → Type 0
WakesNoOthers script r =
    (a b : ℕ) → (a ≡ b → ⊥) → (MayWake (wakes (op_in script r a) (place_in (run_after script r a).core a)) b → ⊥)
    → can_go script r b ≡ false → can_go script (run_after script r a) b ≡ false

-- by what `turns_wake_no_others` ensures
pub law_here : ((script : ScriptValue) (actors : List ℕ) (a b : ℕ) → IsScript script → (a ≡ b → ⊥) → (MayWake (wakes (op_in script (turned script (run_start script) actors) a) (place_in (run_after script (turned script (run_start script) actors) a).core a)) b → ⊥) → can_go script (turned script (run_start script) actors) b ≡ false → can_go script (run_after script (turned script (run_start script) actors) a) b ≡ false)
    → (script : ScriptValue) → IsScript script → (actors : List ℕ) (r : RunState) → turned script (run_start script) actors ≡ r → WakesNoOthers script r
law_here law script valid actors r reached =
    subst (WakesNoOthers script) reached (λ a b other sleeps is. law script actors a b valid other sleeps is)

-- an awake actor's turn leaves asleep whom it doesn't wake
pub asleep_on : (script : ScriptValue) (r : RunState) (n a : ℕ) (awake : ℕ → Bool) → WakesNoOthers script r → awake a ≡ true → AreAsleep script r n awake → AreAsleep script (run_after script r a) n (awake_behind (wakes (op_in script r a) (place_in (run_after script r a).core a)) n awake)
asleep_on script r n a awake law own asleep = go (wakes (op_in script r a) (place_in (run_after script r a).core a)) refl
  where
    woken : Woken
    woken = wakes (op_in script r a) (place_in (run_after script r a).core a)

    still : (w : Woken) → woken ≡ w → (k : ℕ) → k < n → awake k ≡ false → (MayWake w k → ⊥) → can_go script (run_after script r a) k ≡ false
    still w is k below sleeps apart =
        law a k (λ same. let both : awake k ≡ true = ap awake (sym same) ∙ own in cc) (λ may. apart (subst (λ (x : Woken). MayWake x k) is may)) (asleep k below sleeps)

    go : (w : Woken) → woken ≡ w → AreAsleep script (run_after script r a) n (awake_behind w n awake)
    go nobody is = λ k below sleeps. still nobody is k below sleeps (λ none. none)
    go (one b) is = λ k below sleeps. by_test is k below (k == b) refl sleeps
      where
        by_test : woken ≡ one b → (k : ℕ) → k < n → (t : Bool) → (k == b) ≡ t → (if t then true else awake k) ≡ false → can_go script (run_after script r a) k ≡ false
        by_test is k below true e sleeps = absurd (cc sleeps)
        by_test is k below false e sleeps = still (one b) is k below sleeps (λ same. grind (arith, nat_tests))
    go everybody is = λ k below sleeps. absurd (grind (arith, nat_tests))
