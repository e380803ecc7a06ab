-- Notes that are put on, where room was made before.
use Rattle.std.proofs.Common.{◌≡◌, ℕ, ◌≤◌, ◌++◌, List, ap, ◌∙◌, arith}
use Rattle.gup_plain.specs.Note.{NoteValue, JournalValue}
use Rattle.gup_core.specs.declared.outcome.Advanced.{Advanced}
use Rattle.gup_core.specs.declared.outcome.Advanced.TheVariants.{Moved, Waits, Finished}
use Rattle.gup_core.specs.Machine.{MachineValue}
use Rattle.gup_core.specs.Going.{Advances, WritesTurn, Stays}

pub writes_from : (old new : MachineValue) (was mid now : JournalValue) (a : ℕ) → mid.notes ≡ was.notes → WritesTurn old new mid now a → WritesTurn old new was now a
writes_from old new was mid now a same writes r h =
    let took = writes r h in (took.0, took.1 ∙ ap (λ (notes : List NoteValue). notes ++ took.0) same, took.2)

stays_from : (old new : MachineValue) (was mid now : JournalValue) → mid.notes ≡ was.notes → was.room ≤ mid.room → Stays old new mid now → Stays old new was now
stays_from old new was mid now same more stays =
    record { machine = stays.machine; notes = stays.notes ∙ same; room = let room = stays.room in omega (arith, more, room) }

pub advances_from : (old new : MachineValue) (was mid now : JournalValue) (a : ℕ) (advanced : Advanced) → mid.notes ≡ was.notes → was.room ≤ mid.room → Advances old new mid now a advanced → Advances old new was now a advanced
advances_from old new was mid now a (Moved woken) same more (goes, writes, wakes) = (goes, writes_from old new was mid now a same writes, wakes)
advances_from old new was mid now a (Waits waiting) same more (waits, stays) = (waits, stays_from old new was mid now same more stays)
advances_from old new was mid now a Finished same more (finished, stays) = (finished, stays_from old new was mid now same more stays)
