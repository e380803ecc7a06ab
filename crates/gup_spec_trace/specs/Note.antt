-- The text of a note: the turn, the actor's name, the number of the operation in it, and what happened, in one line of words.
use Rattle.std.specs.Prelude.{ℕ, Bool, true, false, List, [], ◌∷◌, ◌++◌, codes, decimal}
use Rattle.std.specs.List.{flat_map}
use Rattle.gup_base.specs.declared.entry.Rights.{Rights}
use Rattle.gup_base.specs.declared.entry.Rights.TheVariants.{R, RW}
use Rattle.gup_plain.specs.Note.{NoteValue}
use Rattle.gup_plain.specs.declared.answer.Answer.{Answer}
use Rattle.gup_plain.specs.declared.answer.Answer.TheVariants.{Words}
use Rattle.gup_plain.specs.declared.event.PlainEvent.{PlainEvent}
use Rattle.gup_plain.specs.declared.event.PlainEvent.TheVariants.{Map, Unmap, Discard, Protect, Load, Store, PinTry, PinDrop, PinOk, Unpin, Give, Take, MoveOut, MoveIn, MirrorFill, Look, ForkBegin, ForkPage, ForkWord, ForkEnd, ForkFail}
use Rattle.gup_plain.specs.declared.note.What.{What}
use Rattle.gup_plain.specs.declared.note.What.TheVariants.{Silent, Idle, Wait, Event, Done}
use Rattle.gup_plain.specs.declared.note.Waiting.{Waiting}
use Rattle.gup_plain.specs.declared.note.Waiting.TheVariants.{Holder, Handle, Process}
use Rattle.gup_script.specs.Script.{ScriptValue, actor_at, process_at, handle_at, mirror_at}
use Rattle.gup_spec_grammar.specs.Said.{Word as Letters}
use Rattle.gup_spec_grammar.specs.Spelling.{address}
use Rattle.gup_lines.specs.Text.{name_in, process_name, handle_name, answer_text}

-- words, each behind a space
abbrev pub spaced : List Letters → List ℕ
spaced words = flat_map (λ (word : Letters). codes " " ++ word) words

-- a word, and others behind it
abbrev pub said : Letters → List Letters → List ℕ
said word words = word ++ spaced words

-- names

abbrev pub actor : ScriptValue → ℕ → Letters
actor script a = name_in (actor_at script a)

abbrev pub process : ScriptValue → ℕ → Letters
process script p = process_name (process_at script p)

abbrev pub handle : ScriptValue → ℕ → Letters
handle script h = handle_name (handle_at script h)

abbrev pub slot : ScriptValue → ℕ → Letters
slot script m = handle_name (mirror_at script m)

-- fixed words

abbrev pub right : Rights → Letters
right R = codes "r"
right RW = codes "rw"

abbrev pub way : (write : Bool) → Letters
way false = codes "read"
way true = codes "write"

-- what happened

abbrev pub waiting_text : ScriptValue → Waiting → List ℕ
waiting_text s (Holder a) = said (codes "wait") (codes "actor" ∷ actor s a ∷ [])
waiting_text s (Handle h) = said (codes "wait") (codes "handle" ∷ handle s h ∷ [])
waiting_text s (Process p) = said (codes "wait") (codes "process" ∷ process s p ∷ [])

-- an event of the line's actor, which is not said once more
abbrev pub event_text : ScriptValue → PlainEvent → List ℕ
event_text s (Map a p page n rights) = said (codes "map") (process s p ∷ decimal page ∷ decimal n ∷ right rights ∷ [])
event_text s (Unmap a p page) = said (codes "unmap") (process s p ∷ decimal page ∷ [])
event_text s (Discard a p page) = said (codes "discard") (process s p ∷ decimal page ∷ [])
event_text s (Protect a p page n rights) =
    said (codes "protect") (process s p ∷ decimal page ∷ decimal n ∷ right rights ∷ [])
event_text s (Load a p page word value) = said (codes "load") (process s p ∷ address page word ∷ decimal value ∷ [])
event_text s (Store a p page word value) = said (codes "store") (process s p ∷ address page word ∷ decimal value ∷ [])
event_text s (PinTry a p page write) = said (codes "pintry") (process s p ∷ decimal page ∷ way write ∷ [])
event_text s (PinDrop a page) = said (codes "pindrop") (decimal page ∷ [])
event_text s (PinOk a h) = said (codes "pinok") (handle s h ∷ [])
event_text s (Unpin a h) = said (codes "unpin") (handle s h ∷ [])
event_text s (Give a h to) = said (codes "give") (handle s h ∷ actor s to ∷ [])
event_text s (Take a h) = said (codes "take") (handle s h ∷ [])
event_text s (MoveOut a h i k value) = said (codes "out") (handle s h ∷ decimal i ∷ decimal k ∷ decimal value ∷ [])
event_text s (MoveIn a h i k value) = said (codes "in") (handle s h ∷ decimal i ∷ decimal k ∷ decimal value ∷ [])
event_text s (MirrorFill a m p page) = said (codes "mirror") (slot s m ∷ process s p ∷ decimal page ∷ [])
event_text s (Look a m word value) = said (codes "look") (slot s m ∷ decimal word ∷ decimal value ∷ [])
event_text s (ForkBegin p child) = said (codes "forkbegin") (process s p ∷ process s child ∷ [])
event_text s (ForkPage p child page) = said (codes "forkpage") (process s p ∷ process s child ∷ decimal page ∷ [])
event_text s (ForkWord p child page word) =
    said (codes "forkword") (process s p ∷ process s child ∷ address page word ∷ [])
event_text s (ForkEnd p child) = said (codes "forkend") (process s p ∷ process s child ∷ [])
event_text s (ForkFail child) = said (codes "forkfail") (process s child ∷ [])

-- an answer, as a run prints it; of a transfer's only that there are words, which its events have
abbrev pub done_text : Answer → List ℕ
done_text Words = codes "words"
done_text answer = answer_text answer []

abbrev pub what_text : ScriptValue → What → List ℕ
what_text s Silent = codes "silent"
what_text s Idle = codes "idle"
what_text s (Wait waiting) = waiting_text s waiting
what_text s (Event event) = event_text s event
what_text s (Done answer) = codes "done " ++ done_text answer

-- the line of a note
abbrev pub note_line : ScriptValue → NoteValue → List ℕ
note_line s note =
    said (decimal note.turn) (actor s note.actor ∷ decimal note.op ∷ what_text s note.what ∷ []) ++ codes "\n"
