-- The words of a note's line, and that the line is these words with a space between two.
use Rattle.std.proofs.Common.{◌≡◌, ℕ, List, [], ◌∷◌, ◌++◌, refl, sym, ap, ◌∙◌, append-nil, append_assoc}
use Rattle.std.specs.Prelude.{codes, decimal}
use Rattle.std.specs.List.{join_with_byte}
use Rattle.gup_plain.specs.Note.{NoteValue}
use Rattle.gup_plain.specs.declared.answer.Answer.{Answer}
use Rattle.gup_plain.specs.declared.answer.Answer.TheVariants as answers
use Rattle.gup_plain.specs.declared.answer.Cause.{Cause}
use Rattle.gup_plain.specs.declared.answer.Cause.TheVariants as causes
use Rattle.gup_plain.specs.declared.event.PlainEvent.{PlainEvent}
use Rattle.gup_plain.specs.declared.event.PlainEvent.TheVariants.{Map, Unmap, Discard, Protect, Load, Store, PinTry, PinDrop, PinOk, Unpin, Give, Take, MoveOut, MoveIn, MirrorFill, Look, ForkBegin, ForkPage, ForkWord, ForkEnd, ForkFail}
use Rattle.gup_plain.specs.declared.note.What.{What}
use Rattle.gup_plain.specs.declared.note.What.TheVariants.{Silent, Idle, Wait, Event, Done}
use Rattle.gup_plain.specs.declared.note.Waiting.{Waiting}
use Rattle.gup_plain.specs.declared.note.Waiting.TheVariants.{Holder, Handle, Process}
use Rattle.gup_script.specs.Script.{ScriptValue}
use Rattle.gup_lines.specs.Text.{cause_text}
use Rattle.gup_spec_grammar.specs.Said.{Word as Letters}
use Rattle.gup_spec_grammar.specs.Spelling.{address}
use Rattle.gup_spec_trace.specs.Note.{said, spaced, actor, process, handle, slot, right, way, event_text, waiting_text, done_text, what_text, note_line}

-- ---- the words

abbrev pub waiting_fields : ScriptValue → Waiting → List Letters
waiting_fields s (Holder a) = codes "actor" ∷ actor s a ∷ []
waiting_fields s (Handle h) = codes "handle" ∷ handle s h ∷ []
waiting_fields s (Process p) = codes "process" ∷ process s p ∷ []

abbrev pub event_word : PlainEvent → Letters
event_word (Map a p page n rights) = codes "map"
event_word (Unmap a p page) = codes "unmap"
event_word (Discard a p page) = codes "discard"
event_word (Protect a p page n rights) = codes "protect"
event_word (Load a p page word value) = codes "load"
event_word (Store a p page word value) = codes "store"
event_word (PinTry a p page write) = codes "pintry"
event_word (PinDrop a page) = codes "pindrop"
event_word (PinOk a h) = codes "pinok"
event_word (Unpin a h) = codes "unpin"
event_word (Give a h to) = codes "give"
event_word (Take a h) = codes "take"
event_word (MoveOut a h i k value) = codes "out"
event_word (MoveIn a h i k value) = codes "in"
event_word (MirrorFill a m p page) = codes "mirror"
event_word (Look a m word value) = codes "look"
event_word (ForkBegin p child) = codes "forkbegin"
event_word (ForkPage p child page) = codes "forkpage"
event_word (ForkWord p child page word) = codes "forkword"
event_word (ForkEnd p child) = codes "forkend"
event_word (ForkFail child) = codes "forkfail"

abbrev pub event_fields : ScriptValue → PlainEvent → List Letters
event_fields s (Map a p page n rights) = process s p ∷ decimal page ∷ decimal n ∷ right rights ∷ []
event_fields s (Unmap a p page) = process s p ∷ decimal page ∷ []
event_fields s (Discard a p page) = process s p ∷ decimal page ∷ []
event_fields s (Protect a p page n rights) = process s p ∷ decimal page ∷ decimal n ∷ right rights ∷ []
event_fields s (Load a p page word value) = process s p ∷ address page word ∷ decimal value ∷ []
event_fields s (Store a p page word value) = process s p ∷ address page word ∷ decimal value ∷ []
event_fields s (PinTry a p page write) = process s p ∷ decimal page ∷ way write ∷ []
event_fields s (PinDrop a page) = decimal page ∷ []
event_fields s (PinOk a h) = handle s h ∷ []
event_fields s (Unpin a h) = handle s h ∷ []
event_fields s (Give a h to) = handle s h ∷ actor s to ∷ []
event_fields s (Take a h) = handle s h ∷ []
event_fields s (MoveOut a h i k value) = handle s h ∷ decimal i ∷ decimal k ∷ decimal value ∷ []
event_fields s (MoveIn a h i k value) = handle s h ∷ decimal i ∷ decimal k ∷ decimal value ∷ []
event_fields s (MirrorFill a m p page) = slot s m ∷ process s p ∷ decimal page ∷ []
event_fields s (Look a m word value) = slot s m ∷ decimal word ∷ decimal value ∷ []
event_fields s (ForkBegin p child) = process s p ∷ process s child ∷ []
event_fields s (ForkPage p child page) = process s p ∷ process s child ∷ decimal page ∷ []
event_fields s (ForkWord p child page word) = process s p ∷ process s child ∷ address page word ∷ []
event_fields s (ForkEnd p child) = process s p ∷ process s child ∷ []
event_fields s (ForkFail child) = process s child ∷ []

abbrev pub cause_words : Cause → List Letters
cause_words causes.Missing = codes "missing" ∷ []
cause_words causes.Forbidden = codes "forbidden" ∷ []
cause_words causes.NoFrame = codes "noframe" ∷ []
cause_words (causes.Unmovable count) = codes "unmovable" ∷ decimal count ∷ []

abbrev pub answer_words : Answer → List Letters
answer_words answers.Plain = codes "ok" ∷ []
answer_words (answers.Value value) = codes "ok" ∷ decimal value ∷ []
answer_words (answers.Pinned pages) = codes "ok" ∷ decimal pages ∷ []
answer_words (answers.Short got wanted cause) = codes "ok" ∷ decimal got ∷ codes "of" ∷ decimal wanted ∷ cause_words cause
answer_words answers.Words = codes "words" ∷ []
answer_words answers.Missing = codes "missing" ∷ []
answer_words answers.Forbidden = codes "forbidden" ∷ []
answer_words (answers.Unmovable count) = codes "unmovable" ∷ decimal count ∷ []
answer_words answers.NoFrame = codes "noframe" ∷ []
answer_words answers.NotHeld = codes "notheld" ∷ []
answer_words answers.Range = codes "range" ∷ []
answer_words answers.Overlap = codes "overlap" ∷ []
answer_words answers.Full = codes "full" ∷ []
answer_words (answers.Busy count) = codes "busy" ∷ decimal count ∷ []
answer_words answers.Untouched = codes "untouched" ∷ []
answer_words answers.Stale = codes "stale" ∷ []
answer_words answers.Unborn = codes "unborn" ∷ []

abbrev pub what_word : What → Letters
what_word Silent = codes "silent"
what_word Idle = codes "idle"
what_word (Wait waiting) = codes "wait"
what_word (Event event) = event_word event
what_word (Done answer) = codes "done"

abbrev pub what_fields : ScriptValue → What → List Letters
what_fields s Silent = []
what_fields s Idle = []
what_fields s (Wait waiting) = waiting_fields s waiting
what_fields s (Event event) = event_fields s event
what_fields s (Done answer) = answer_words answer

abbrev pub note_words : ScriptValue → NoteValue → List Letters
note_words s note =
    decimal note.turn ∷ actor s note.actor ∷ decimal note.op ∷ what_word note.what ∷ what_fields s note.what

-- ---- they are said so

event_said : (s : ScriptValue) (event : PlainEvent) → event_text s event ≡ said (event_word event) (event_fields s event)
event_said s (Map a p page n rights) = refl
event_said s event = refl

waiting_said : (s : ScriptValue) (waiting : Waiting) → waiting_text s waiting ≡ said (codes "wait") (waiting_fields s waiting)
waiting_said s (Holder a) = refl
waiting_said s waiting = refl

counted_said : (front : List ℕ) (n : ℕ) → front ++ decimal n ≡ front ++ (decimal n ++ [])
counted_said front n = ap (λ (t : List ℕ). front ++ t) (sym (append-nil (decimal n)))

cause_spaced : (cause : Cause) → codes " " ++ cause_text cause ≡ spaced (cause_words cause)
cause_spaced causes.Missing = refl
cause_spaced causes.Forbidden = refl
cause_spaced causes.NoFrame = refl
cause_spaced (causes.Unmovable count) = counted_said (codes " unmovable ") count

done_said : (answer : Answer) → codes "done " ++ done_text answer ≡ said (codes "done") (answer_words answer)
done_said (answers.Value n) = counted_said (codes "done ok ") n
done_said (answers.Pinned n) = counted_said (codes "done ok ") n
done_said (answers.Unmovable n) = counted_said (codes "done unmovable ") n
done_said (answers.Busy n) = counted_said (codes "done busy ") n
done_said (answers.Short got wanted cause) =
    ap (λ (t : List ℕ). codes "done " ++ ((codes "ok " ++ decimal got) ++ (codes " of " ++ decimal wanted) ++ t)) (cause_spaced cause)
    ∙ simp append_assoc
done_said answer = refl

what_said : (s : ScriptValue) (what : What) → what_text s what ≡ said (what_word what) (what_fields s what)
what_said s Silent = refl
what_said s Idle = refl
what_said s (Wait waiting) = waiting_said s waiting
what_said s (Event event) = event_said s event
what_said s (Done answer) = done_said answer

said_joined : (word : Letters) (words : List Letters) → said word words ≡ join_with_byte 32 (word ∷ words)
said_joined word [] = append-nil word
said_joined word (next ∷ words) = ap (λ (t : List ℕ). word ++ (32 ∷ t)) (said_joined next words)

pub line_joined : (s : ScriptValue) (note : NoteValue) → note_line s note ≡ join_with_byte 32 (note_words s note) ++ codes "\n"
line_joined s note =
    let whole : spaced (what_text s note.what ∷ []) ≡ spaced (what_word note.what ∷ what_fields s note.what) =
    ap (λ (t : List ℕ). (32 ∷ t) ++ []) (what_said s note.what) ∙ append-nil _ in
    ap (λ (t : List ℕ). (decimal note.turn ++ ((codes " " ++ actor s note.actor) ++ ((codes " " ++ decimal note.op) ++ t))) ++ codes "\n") whole
    ∙ ap (λ (t : List ℕ). t ++ codes "\n") (said_joined (decimal note.turn) (actor s note.actor ∷ decimal note.op ∷ what_word note.what ∷ what_fields s note.what))
