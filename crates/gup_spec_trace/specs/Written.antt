-- Which notes can be written, so that no two have one text: what they name is declared, their numbers are in range, and an event is
-- of the note's actor.
use Rattle.std.specs.Prelude.{◌≡◌, ℕ, ◌^◌, ◌<◌, ◌&&◌, nat_lt, Bool, true, false, length, Option, Some, None, slice_get, zero, suc}
use Rattle.gup_plain.specs.Note.{NoteValue}
use Rattle.gup_plain.specs.declared.answer.Answer.{Answer}
use Rattle.gup_plain.specs.declared.answer.Answer.TheVariants.{Value, Pinned, Short, Unmovable as UnmovableAnswer, Busy}
use Rattle.gup_plain.specs.declared.answer.Cause.{Cause}
use Rattle.gup_plain.specs.declared.answer.Cause.TheVariants.{Unmovable}
use Rattle.gup_plain.specs.declared.event.PlainEvent.{PlainEvent}
use Rattle.gup_plain.specs.declared.event.PlainEvent.TheVariants.{Map, Unmap, Discard, Protect, Load, Store, PinTry, PinDrop, PinOk, Unpin, Give, Take, MoveOut, MoveIn, MirrorFill, Look, ForkBegin, ForkPage, ForkWord, ForkEnd, ForkFail}
use Rattle.gup_plain.specs.declared.note.What.{What}
use Rattle.gup_plain.specs.declared.note.What.TheVariants.{Wait, Event, Done}
use Rattle.gup_plain.specs.declared.note.Waiting.{Waiting}
use Rattle.gup_plain.specs.declared.note.Waiting.TheVariants.{Holder, Handle, Process}
use Rattle.gup_script.specs.declared.op.Op.{Op}
use Rattle.gup_script.specs.declared.op.Op.TheVariants.{Pin}
use Rattle.gup_script.specs.Script.{ScriptValue, ops_of}

-- what is declared

abbrev pub IsActor : ScriptValue → ℕ → Type 0
IsActor s a = a < length s.actors

abbrev pub IsProcess : ScriptValue → ℕ → Type 0
IsProcess s p = p < length s.processes

abbrev pub IsHandle : ScriptValue → ℕ → Type 0
IsHandle s h = h < length s.handles

abbrev pub IsSlot : ScriptValue → ℕ → Type 0
IsSlot s m = m < length s.mirrors

abbrev pub IsWaiting : ScriptValue → Waiting → Type 0
IsWaiting s (Holder a) = IsActor s a
IsWaiting s (Handle h) = IsHandle s h
IsWaiting s (Process p) = IsProcess s p

-- an event of actor a; a fork's names none
abbrev pub IsEventOf : ScriptValue → (a : ℕ) → PlainEvent → Type 0
IsEventOf s a (Map b p page n rights) = (b ≡ a) × IsProcess s p × (page < 2 ^ 35) × (n < 2 ^ 16)
IsEventOf s a (Unmap b p page) = (b ≡ a) × IsProcess s p × (page < 2 ^ 35)
IsEventOf s a (Discard b p page) = (b ≡ a) × IsProcess s p × (page < 2 ^ 35)
IsEventOf s a (Protect b p page n rights) = (b ≡ a) × IsProcess s p × (page < 2 ^ 35) × (n < 2 ^ 16)
IsEventOf s a (Load b p page word value) = (b ≡ a) × IsProcess s p × (page < 2 ^ 35) × (word < 512) × (value < 2 ^ 64)
IsEventOf s a (Store b p page word value) = (b ≡ a) × IsProcess s p × (page < 2 ^ 35) × (word < 512) × (value < 2 ^ 64)
IsEventOf s a (PinTry b p page write) = (b ≡ a) × IsProcess s p × (page < 2 ^ 35)
IsEventOf s a (PinDrop b page) = (b ≡ a) × (page < 2 ^ 35)
IsEventOf s a (PinOk b h) = (b ≡ a) × IsHandle s h
IsEventOf s a (Unpin b h) = (b ≡ a) × IsHandle s h
IsEventOf s a (Give b h to) = (b ≡ a) × IsHandle s h × IsActor s to
IsEventOf s a (Take b h) = (b ≡ a) × IsHandle s h
IsEventOf s a (MoveOut b h i k value) = (b ≡ a) × IsHandle s h × (i < 2 ^ 32) × (k < 2 ^ 32) × (value < 2 ^ 64)
IsEventOf s a (MoveIn b h i k value) = (b ≡ a) × IsHandle s h × (i < 2 ^ 32) × (k < 2 ^ 32) × (value < 2 ^ 64)
IsEventOf s a (MirrorFill b m p page) = (b ≡ a) × IsSlot s m × IsProcess s p × (page < 2 ^ 35)
IsEventOf s a (Look b m word value) = (b ≡ a) × IsSlot s m × (word < 512) × (value < 2 ^ 64)
IsEventOf s a (ForkBegin p child) = IsProcess s p × IsProcess s child
IsEventOf s a (ForkPage p child page) = IsProcess s p × IsProcess s child × (page < 2 ^ 35)
IsEventOf s a (ForkWord p child page word) = IsProcess s p × IsProcess s child × (page < 2 ^ 35) × (word < 512)
IsEventOf s a (ForkEnd p child) = IsProcess s p × IsProcess s child
IsEventOf s a (ForkFail child) = IsProcess s child

-- The number behind `ok` counts pages where the operation is a pin, and the number is one that counts them, and else is a word that was read.

abbrev pub is_pin : Option Op → Bool
is_pin (Some (Pin handle page n want fast)) = true
is_pin op = false

abbrev pub counts_pages : Option Op → (n : ℕ) → Bool
counts_pages op n = is_pin op && nat_lt n 256

abbrev pub IsCause : Cause → Type 0
IsCause (Unmovable count) = count < 2 ^ 64
IsCause cause = Unit {0}

abbrev pub IsAnswerOf : Option Op → Answer → Type 0
IsAnswerOf op (Value value) = (counts_pages op value ≡ false) × (value < 2 ^ 64)
IsAnswerOf op (Pinned pages) = counts_pages op pages ≡ true
IsAnswerOf op (Short got wanted cause) = (got < 256) × (wanted < 256) × IsCause cause
IsAnswerOf op (UnmovableAnswer count) = count < 2 ^ 64
IsAnswerOf op (Busy count) = count < 2 ^ 64
IsAnswerOf op answer = Unit {0}

-- the actor's operation with this number, from 1
abbrev pub op_at : ScriptValue → (a number : ℕ) → Option Op
op_at s a zero = None
op_at s a (suc k) = slice_get (ops_of s a) k

abbrev pub IsWhatOf : ScriptValue → (a number : ℕ) → What → Type 0
IsWhatOf s a number (Wait waiting) = IsWaiting s waiting
IsWhatOf s a number (Event event) = IsEventOf s a event
IsWhatOf s a number (Done answer) = IsAnswerOf (op_at s a number) answer
IsWhatOf s a number what = Unit {0}

-- the note can be written behind this script
abbrev pub CanBeWritten : ScriptValue → NoteValue → Type 0
CanBeWritten s note =
    (note.turn < 2 ^ 32) × IsActor s note.actor × (note.op < 2 ^ 32) × IsWhatOf s note.actor note.op note.what
