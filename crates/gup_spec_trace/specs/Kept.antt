-- The numbers of a note that is kept in memory: they fit their types.
use Rattle.std.specs.Prelude.{ℕ, ◌^◌, ◌<◌}
use Rattle.gup_plain.specs.Note.{NoteValue}
use Rattle.gup_plain.specs.declared.answer.Answer.{Answer}
use Rattle.gup_plain.specs.declared.answer.Answer.TheVariants.{Value, Pinned, Short, Unmovable as UnmovableAnswer, Busy}
use Rattle.gup_plain.specs.declared.event.PlainEvent.{PlainEvent}
use Rattle.gup_plain.specs.declared.event.PlainEvent.TheVariants.{Map, Unmap, Discard, Protect, Load, Store, PinTry, PinDrop, MoveOut, MoveIn, MirrorFill, Look, ForkPage, ForkWord}
use Rattle.gup_plain.specs.declared.note.What.{What}
use Rattle.gup_plain.specs.declared.note.What.TheVariants.{Event, Done}
use Rattle.gup_spec_trace.specs.Written.{IsCause}

abbrev pub IsEventKept : PlainEvent → Type 0
IsEventKept (Map b p page n rights) = (page < 2 ^ 35) × (n < 2 ^ 16)
IsEventKept (Unmap b p page) = page < 2 ^ 35
IsEventKept (Discard b p page) = page < 2 ^ 35
IsEventKept (Protect b p page n rights) = (page < 2 ^ 35) × (n < 2 ^ 16)
IsEventKept (Load b p page word value) = (page < 2 ^ 35) × (word < 512) × (value < 2 ^ 64)
IsEventKept (Store b p page word value) = (page < 2 ^ 35) × (word < 512) × (value < 2 ^ 64)
IsEventKept (PinTry b p page write) = page < 2 ^ 35
IsEventKept (PinDrop b page) = page < 2 ^ 35
IsEventKept (MoveOut b h i k value) = (i < 2 ^ 32) × (k < 2 ^ 32) × (value < 2 ^ 64)
IsEventKept (MoveIn b h i k value) = (i < 2 ^ 32) × (k < 2 ^ 32) × (value < 2 ^ 64)
IsEventKept (MirrorFill b m p page) = page < 2 ^ 35
IsEventKept (Look b m word value) = (word < 512) × (value < 2 ^ 64)
IsEventKept (ForkPage p child page) = page < 2 ^ 35
IsEventKept (ForkWord p child page word) = (page < 2 ^ 35) × (word < 512)
IsEventKept event = Unit {0}

abbrev pub IsAnswerKept : Answer → Type 0
IsAnswerKept (Value value) = value < 2 ^ 64
IsAnswerKept (Pinned pages) = pages < 256
IsAnswerKept (Short got wanted cause) = (got < 256) × (wanted < 256) × IsCause cause
IsAnswerKept (UnmovableAnswer count) = count < 2 ^ 64
IsAnswerKept (Busy count) = count < 2 ^ 64
IsAnswerKept answer = Unit {0}

abbrev pub IsWhatKept : What → Type 0
IsWhatKept (Event event) = IsEventKept event
IsWhatKept (Done answer) = IsAnswerKept answer
IsWhatKept what = Unit {0}

abbrev pub IsKept : NoteValue → Type 0
IsKept note = (note.turn < 2 ^ 32) × (note.op < 2 ^ 32) × IsWhatKept note.what
