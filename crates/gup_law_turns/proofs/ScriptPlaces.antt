-- Where an actor stands before an operation.
use Rattle.std.proofs.Common.{◌≡◌, ℕ, ◌≤◌, false, [], Bool, List, Option, Some, None, slice_get, refl, ap, sym, subst, arith}
use Rattle.gup_base.specs.Parts.{words_of}
use Rattle.gup_base.specs.declared.entry.Want.{Want}
use Rattle.gup_plain.specs.State.{unborn, unmade}
use Rattle.gup_script.specs.Script.{ScriptValue}
use Rattle.gup_script.specs.Valid.{IsScript, IsOp, ForksAt, MakesAt}
use Rattle.gup_script.specs.declared.op.Op.{Op}
use Rattle.gup_script.specs.declared.op.Op.TheVariants.{Unmap, Discard, Pin, Unpin, Transfer, Move, Fork, Exit}
use Rattle.gup_spec_events.specs.State.{CoreState, Taken, Job}
use Rattle.gup_spec_journal.specs.Place.{Place, Doer, ops_of}
use Rattle.gup_spec_turns.specs.PinPlace.{HasTaken}
use Rattle.gup_law_turns.proofs.ScriptLemmas.{op_is_op}
use Rattle.gup_law_turns.proofs.TurnShapes.{FitsPin, FitsOp, FitsAt, Rests, HasLeft}

-- an actor that has answered so many operations, at the first turn of the next
abbrev pub fresh_place : ℕ → Place
fresh_place k = record { answered = k; far = 0; had = false }

-- no page is taken yet
none_taken : (p page : ℕ) (want : Want) → HasTaken p page want 0 []
none_taken p page want = record { many = refl; each = λ k t is. absurd (cc is) }

-- It stands where that can, if it is in the middle of nothing, a fork's child is unborn, a pin's handle is unmade, and the
-- handles that it holds have all their pages.
fresh_op : (t : CoreState) (who : Doer) (k : ℕ) (op : Op) → Rests t who.actor → IsOp op → ((child : ℕ) → op ≡ Fork child → t.birth child ≡ unborn) → ((h page n : ℕ) (want : Want) (fast : Bool) → op ≡ Pin h page n want fast → t.handle h ≡ unmade) → ((h : ℕ) → HasLeft t who.actor h 0) → FitsOp t who op (fresh_place k)
fresh_op t who k (Unmap page n) rests range births yet left = (rests, (let some : 1 ≤ n = range.0 in omega arith))
fresh_op t who k (Discard page n) rests range births yet left = (rests, (let some : 1 ≤ n = range.0 in omega arith))
fresh_op t who k (Pin handle page n want fast) rests range births yet left =
    subst (λ (ts : List Taken). FitsPin t who.actor who.proc handle page n want fast (fresh_place k) ts (t.job who.actor)) (sym rests.1)
    (subst (λ (j : Job). FitsPin t who.actor who.proc handle page n want fast (fresh_place k) [] j) (sym rests.0)
    (record {
      had_none = λ never none. refl;
      had_some = λ some. absurd (omega (arith, some));
      least = omega arith;
      most = omega arith;
      within = let some : 1 ≤ n = range.0 in omega arith;
      yet = yet handle page n want fast refl;
      has = none_taken who.proc page want;
      flag = λ walks some. absurd (omega (arith, some));
      at = tt;
    }))
fresh_op t who k (Unpin handle) rests range births yet left = (rests, refl, (λ far. absurd (omega arith)), left handle)
fresh_op t who k (Transfer handle outward slot parts) rests range births yet left =
    (rests, ((λ far. refl), (λ far. absurd (omega arith))), (let some : 1 ≤ words_of parts = range.0.1 in omega arith), (λ far. absurd (omega arith)), left handle)
fresh_op t who k (Move proc page zone) rests range births yet left = (rests.1, refl, rw rests.0 refl)
fresh_op t who k (Fork child) rests range births yet left = (rests.1, rw rests.0 ((refl, refl), births child refl))
fresh_op t who k Exit rests range births yet left = rests
fresh_op t who k op rests range births yet left = (rests, (refl, refl))

fresh_at : (script : ScriptValue) → IsScript script → (t : CoreState) (who : Doer) (a k : ℕ) (op : Option Op) → slice_get (ops_of script a) k ≡ op → Rests t who.actor → ((child : ℕ) → op ≡ Some (Fork child) → t.birth child ≡ unborn) → ((h page n : ℕ) (want : Want) (fast : Bool) → op ≡ Some (Pin h page n want fast) → t.handle h ≡ unmade) → ((h : ℕ) → HasLeft t who.actor h 0) → FitsAt t who op (fresh_place k)
fresh_at script valid t who a k None there rests births yet left = (rests, (refl, refl))
fresh_at script valid t who a k (Some op) there rests births yet left =
    fresh_op t who k op rests (op_is_op script valid a k op there) (λ child is. births child (ap (λ (o : Op). Some o) is))
    (λ h page n want fast is. yet h page n want fast (ap (λ (o : Op). Some o) is)) left

pub fresh_fits : (script : ScriptValue) → IsScript script → (t : CoreState) (who : Doer) (a k : ℕ) → Rests t who.actor → ((child : ℕ) → ForksAt script a k child → t.birth child ≡ unborn) → ((h : ℕ) → MakesAt script a k h → t.handle h ≡ unmade) → ((h : ℕ) → HasLeft t who.actor h 0) → FitsAt t who (slice_get (ops_of script a) k) (fresh_place k)
fresh_fits script valid t who a k rests births yet left =
    fresh_at script valid t who a k (slice_get (ops_of script a) k) refl rests births (λ h page n want fast is. yet h (Pin h page n want fast, is, refl)) left
