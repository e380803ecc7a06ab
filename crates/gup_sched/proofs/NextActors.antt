-- Who can go, and whom the pointer gives the turn.
use Rattle.std.proofs.Common.{◌≡◌, ℕ, ◌-◌, ◌<◌, Bool, true, false, cond, Some, length, refl, sym, ap, subst, ◌∙◌, zero, suc, arith}
use Rattle.gup_plain.specs.Note.{JournalValue}
use Rattle.gup_script.specs.Script.{ScriptValue}
use Rattle.gup_spec_journal.specs.Order.{behind}
use Rattle.gup_spec_turns.specs.Run.{RunState, can_go, pointed}
use Rattle.gup_core.specs.Machine.{MachineValue, Shows}
use Rattle.gup_core.specs.Going.{Stays}

-- whom the pointer gives the turn can go
pub pointed_goes : (script : ScriptValue) (r : RunState) (n from a : ℕ) → pointed script r n from ≡ Some a → can_go script r a ≡ true
pointed_goes script r zero from a is = absurd (cc is)
pointed_goes script r (suc n) from a is = go (can_go script r from) refl is (pointed_goes script r n (behind (length script.actors) from) a)
  where
    go : (c : Bool) → can_go script r from ≡ c → cond c (Some from) (pointed script r n (behind (length script.actors) from)) ≡ Some a → (pointed script r n (behind (length script.actors) from) ≡ Some a → can_go script r a ≡ true) → can_go script r a ≡ true
    go true e now later = let same : from ≡ a = cc now in subst (λ (b : ℕ). can_go script r b ≡ true) same e
    go false e now later = later now

-- one step of the search
pub pointed_here : (script : ScriptValue) (r : RunState) (n from : ℕ) → 0 < n → can_go script r from ≡ true → pointed script r n from ≡ Some from
pointed_here script r zero from some goes = absurd (omega arith)
pointed_here script r (suc n) from some goes = rw goes refl

pub pointed_later : (script : ScriptValue) (r : RunState) (n from : ℕ) → 0 < n → can_go script r from ≡ false → pointed script r n from ≡ pointed script r (n - 1) (behind (length script.actors) from)
pointed_later script r zero from some stays = absurd (omega arith)
pointed_later script r (suc n) from some stays =
    let less : suc n - 1 ≡ n = omega arith in
    rw stays (ap (λ (k : ℕ). pointed script r k (behind (length script.actors) from)) (sym less))

-- what an actor's answer says of a machine that is as it was
pub went_so : (m n : MachineValue) (a : ℕ) (went : Bool) → n ≡ m → ((r : RunState) → Shows n r → went ≡ can_go n.script r a) → (r : RunState) → Shows m r → can_go m.script r a ≡ went
went_so m n a went same can r shown =
    sym (subst (λ (x : MachineValue). went ≡ can_go x.script r a) same (can r (subst (λ (x : MachineValue). Shows x r) (sym same) shown)))

-- nothing has changed, and nothing changes
pub still_stays : (m n o : MachineValue) (i j k : JournalValue) → Stays m n i j → Stays n o j k → Stays m o i k
still_stays m n o i j k first then =
    let more = first.room in
    let room = then.room in
    record { machine = then.machine ∙ first.machine; notes = then.notes ∙ first.notes; room = omega (arith, more, room) }
