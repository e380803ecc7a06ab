-- If allocation fails, the event is refused so.
use Rattle.std.proofs.Common.{◌≡◌, Result, Ok, Err, sym, subst}
use Rattle.std.specs.Result.{IsErrAnd}
use Rattle.gup_plain.specs.State.{PlainState}
use Rattle.gup_plain.specs.declared.event.PlainEvent.{PlainEvent}
use Rattle.gup_exec_plain.specs.declared.refusal.PlainRefusal.{PlainRefusal}
use Rattle.gup_exec_plain.specs.declared.refusal.PlainRefusal.TheVariants.{NoMemory}
use Rattle.gup_exec_plain.specs.Parts.{Applies, IsRight, WantsMemory}

pub refused : (old new : PlainState) (e : PlainEvent) (r : Result (Unit {0}) PlainRefusal) → WantsMemory e → IsErrAnd r (λ x. x ≡ NoMemory) → new ≡ old → Applies old new e r
refused old new e (Ok x) wants is same = absurd is
refused old new e (Err x) wants is same = let P : PlainRefusal → Type 0 = λ y. IsRight y old e in (subst P (sym is) wants, same)
