-- Whoever is in the middle of an operation, by what is kept of it.
use Rattle.std.proofs.Common.{◌≡◌, ℕ, ◌<◌, ◌↔◌, Bool, true, Option, Some, None, Bor, IsTrue, nat_lt, slice_get, sym, ◌∙◌, arith}
use Rattle.std.specs.Prelude.{MatchOption}
use Rattle.std.specs.Option.{option_copied}
use Rattle.std.proofs.lemmas.Bool.Decides.{nat_tests}
use Rattle.gup_script.specs.Script.{ScriptValue, ops_of}
use Rattle.gup_script.specs.declared.op.Op.{Op}
use Rattle.gup_spec_accepted.specs.Waits.{HoldsFor}
use Rattle.gup_spec_journal.specs.Order.{KeepsLock}
use Rattle.gup_spec_journal.specs.Place.{doer_of, present_op}
use Rattle.gup_spec_check.specs.Seen.{Seen}
use Rattle.gup_spec_check.specs.Times.{Times}
use Rattle.gup_check_state.specs.declared.kept.Kept.{Kept}
use Rattle.gup_check_state.specs.declared.kept.Progress.{Progress}
use Rattle.gup_check_state.specs.Shows.{Shows}
use Rattle.gup_check_judge.specs.Knows.{Knows}
use Rattle.gup_check_judge.proofs.Actors.{progress_shown, present_shown}

-- b's operation keeps a lock of the process that a's is of
abbrev pub Locks : ScriptValue → (b : ℕ) → Option Op → (a : ℕ) → Option Op → Type 0
Locks script b held a op = ((doer_of script b held).proc ≡ (doer_of script a op).proc) × KeepsLock held

copied : (found : Option (Bor Op)) (here : Option Op) → MatchOption found (here ≡ None) (λ op. here ≡ Some op.now) → option_copied found ≡ here
copied None here is = sym is
copied (Some op) here is = sym is

pub holds_shown : (script : ScriptValue) (kept : Kept) (seen : Seen) (times : Times) (a b : ℕ) (progress : Progress) (op : Op) (held : Option (Bor Op)) (locks : Bool) → Shows script kept seen times → Knows script seen times → slice_get kept.actors.items b ≡ Some progress → (a ≡ b → ⊥) → progress.has_begun ≡ true → MatchOption held (slice_get (ops_of script b) progress.answered ≡ None) (λ op. slice_get (ops_of script b) progress.answered ≡ Some op.now) → IsTrue locks ↔ Locks script b (option_copied held) a (Some op) → present_op script a (seen.judged.places a) ≡ Some op → IsTrue locks ↔ HoldsFor script seen.judged a b
holds_shown script kept seen times a b progress op held locks shows knows is other begun found tells present =
    let held_is : option_copied held ≡ present_op script b (seen.judged.places b) =
    copied held (slice_get (ops_of script b) progress.answered) found ∙ present_shown script kept seen times b progress shows knows is in
    let under_way : nat_lt 0 (seen.judged.places b).far ≡ true = sym (progress_shown script kept seen times b progress shows is).begun ∙ begun in
    let far : 0 < (seen.judged.places b).far = grind (arith, nat_tests) in
    let told : IsTrue locks ↔ Locks script b (present_op script b (seen.judged.places b)) a (present_op script a (seen.judged.places a)) = rw (← held_is, present) tells in (
      λ so. let lock = told.0 so in (other, lock.0, far, lock.1),
      λ holds. told.1 (holds.1, holds.3),
    )
