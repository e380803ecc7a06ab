-- What notes name, beside their numbers. Where that is declared, and the numbers fit their types, they can be written.
use Rattle.std.proofs.Common.{◌≡◌, ℕ, true, false, Option, refl, arith}
use Rattle.std.proofs.lemmas.Bool.Decides.{nat_tests}
use Rattle.gup_plain.specs.Note.{NoteValue}
use Rattle.gup_plain.specs.declared.answer.Answer.{Answer}
use Rattle.gup_plain.specs.declared.answer.Answer.TheVariants.{Value, Pinned}
use Rattle.gup_plain.specs.declared.event.PlainEvent.{PlainEvent}
use Rattle.gup_plain.specs.declared.event.PlainEvent.TheVariants.{Map, Unmap, Discard, Protect, Load, Store, PinTry, PinDrop, PinOk, Unpin, Give, Take, MoveOut, MoveIn, MirrorFill, Look, ForkBegin, ForkPage, ForkWord, ForkEnd, ForkFail}
use Rattle.gup_plain.specs.declared.note.What.{What}
use Rattle.gup_plain.specs.declared.note.What.TheVariants.{Wait, Event, Done}
use Rattle.gup_script.specs.Script.{ScriptValue}
use Rattle.gup_script.specs.declared.op.Op.{Op}
use Rattle.gup_spec_trace.specs.Kept.{IsEventKept, IsAnswerKept, IsWhatKept, IsKept}
use Rattle.gup_spec_trace.specs.Written.{IsActor, IsProcess, IsHandle, IsSlot, IsWaiting, IsEventOf, IsAnswerOf, IsWhatOf, is_pin, op_at, CanBeWritten}

-- what an event of actor a names is declared
abbrev pub NamesIn : ScriptValue → (a : ℕ) → PlainEvent → Type 0
NamesIn s a (Map b p page n rights) = (b ≡ a) × IsProcess s p
NamesIn s a (Unmap b p page) = (b ≡ a) × IsProcess s p
NamesIn s a (Discard b p page) = (b ≡ a) × IsProcess s p
NamesIn s a (Protect b p page n rights) = (b ≡ a) × IsProcess s p
NamesIn s a (Load b p page word value) = (b ≡ a) × IsProcess s p
NamesIn s a (Store b p page word value) = (b ≡ a) × IsProcess s p
NamesIn s a (PinTry b p page write) = (b ≡ a) × IsProcess s p
NamesIn s a (PinDrop b page) = b ≡ a
NamesIn s a (PinOk b h) = (b ≡ a) × IsHandle s h
NamesIn s a (Unpin b h) = (b ≡ a) × IsHandle s h
NamesIn s a (Give b h to) = (b ≡ a) × IsHandle s h × IsActor s to
NamesIn s a (Take b h) = (b ≡ a) × IsHandle s h
NamesIn s a (MoveOut b h i k value) = (b ≡ a) × IsHandle s h
NamesIn s a (MoveIn b h i k value) = (b ≡ a) × IsHandle s h
NamesIn s a (MirrorFill b m p page) = (b ≡ a) × IsSlot s m × IsProcess s p
NamesIn s a (Look b m word value) = (b ≡ a) × IsSlot s m
NamesIn s a (ForkBegin p child) = IsProcess s p × IsProcess s child
NamesIn s a (ForkPage p child page) = IsProcess s p × IsProcess s child
NamesIn s a (ForkWord p child page word) = IsProcess s p × IsProcess s child
NamesIn s a (ForkEnd p child) = IsProcess s p × IsProcess s child
NamesIn s a (ForkFail child) = IsProcess s child

-- an answer counts pages where the operation is a pin, and is a word where it is none
abbrev pub Answers : Option Op → Answer → Type 0
Answers op (Value value) = is_pin op ≡ false
Answers op (Pinned pages) = is_pin op ≡ true
Answers op answer = Unit {0}

-- what a note of actor a, at this operation, says
abbrev pub Says : ScriptValue → (a : ℕ) → Option Op → What → Type 0
Says s a op (Wait waiting) = IsWaiting s waiting
Says s a op (Event event) = NamesIn s a event
Says s a op (Done answer) = Answers op answer
Says s a op what = Unit {0}

event_written : (s : ScriptValue) (a : ℕ) (event : PlainEvent) → NamesIn s a event → IsEventKept event → IsEventOf s a event
event_written s a (PinDrop b page) names kept = (names, kept)
event_written s a event names kept = assumption

answer_written : (op : Option Op) (answer : Answer) → Answers op answer → IsAnswerKept answer → IsAnswerOf op answer
answer_written op (Value value) says kept = (rw says refl, kept)
answer_written op (Pinned pages) says kept = rw says (grind (arith, nat_tests))
answer_written op answer says kept = kept

what_written : (s : ScriptValue) (a number : ℕ) (what : What) → Says s a (op_at s a number) what → IsWhatKept what → IsWhatOf s a number what
what_written s a number (Event event) says kept = event_written s a event says kept
what_written s a number (Done answer) says kept = answer_written (op_at s a number) answer says kept
what_written s a number what says kept = says

pub note_written : (s : ScriptValue) (note : NoteValue) → IsKept note → IsActor s note.actor → Says s note.actor (op_at s note.actor note.op) note.what → CanBeWritten s note
note_written s note kept actor says = (kept.0, actor, kept.1, what_written s note.actor note.op note.what says kept.2)
