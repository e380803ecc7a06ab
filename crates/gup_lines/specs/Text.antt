-- The text of a run: a line for each answer of its journal, in order, and one for each actor that is stuck.
use Rattle.std.specs.Prelude.{◌≡◌, ℕ, ◌<◌, take, length, List, [], ◌∷◌, ◌++◌, codes, decimal, Option, Some, None}
use Rattle.std.specs.List.{flat_map, cons_option}
use Rattle.gup_plain.specs.Put.{put}
use Rattle.gup_plain.specs.Note.{NoteValue}
use Rattle.gup_plain.specs.declared.answer.Answer.{Answer}
use Rattle.gup_plain.specs.declared.answer.Answer.TheVariants.{Plain, Value, Pinned, Short, Words, Missing, Forbidden, Unmovable, NoFrame, NotHeld, Range, Overlap, Full, Busy, Untouched, Stale, Unborn}
use Rattle.gup_plain.specs.declared.answer.Cause.{Cause}
use Rattle.gup_plain.specs.declared.answer.Cause.TheVariants as causes
use Rattle.gup_plain.specs.declared.event.PlainEvent.{PlainEvent}
use Rattle.gup_plain.specs.declared.event.PlainEvent.TheVariants as events
use Rattle.gup_plain.specs.declared.note.What.{What}
use Rattle.gup_plain.specs.declared.note.What.TheVariants.{Event, Done}
use Rattle.gup_plain.specs.declared.note.Waiting.{Waiting}
use Rattle.gup_plain.specs.declared.note.Waiting.TheVariants as waitings
use Rattle.gup_script.specs.Script.{ScriptValue, Actor, Process, actor_at, process_at, handle_at}
use Rattle.gup_lines.specs.declared.outcome.Outcome.{Outcome}

abbrev pub cause_text : Cause → List ℕ
cause_text causes.Missing = codes "missing"
cause_text causes.Forbidden = codes "forbidden"
cause_text causes.NoFrame = codes "noframe"
cause_text (causes.Unmovable count) = codes "unmovable " ++ decimal count

-- a word of a transfer, after a space
abbrev pub word_text : ℕ → List ℕ
word_text word = codes " " ++ decimal word

-- the text of an answer; `words` are those that a transfer moved
abbrev pub answer_text : Answer → (words : List ℕ) → List ℕ
answer_text Plain words = codes "ok"
answer_text (Value value) words = codes "ok " ++ decimal value
answer_text (Pinned pages) words = codes "ok " ++ decimal pages
answer_text (Short got wanted cause) words =
    (codes "ok " ++ decimal got) ++ (codes " of " ++ decimal wanted) ++ (codes " " ++ cause_text cause)
answer_text Words words = codes "ok" ++ flat_map word_text words
answer_text Missing words = codes "missing"
answer_text Forbidden words = codes "forbidden"
answer_text (Unmovable count) words = codes "unmovable " ++ decimal count
answer_text NoFrame words = codes "noframe"
answer_text NotHeld words = codes "notheld"
answer_text Range words = codes "range"
answer_text Overlap words = codes "overlap"
answer_text Full words = codes "full"
answer_text (Busy count) words = codes "busy " ++ decimal count
answer_text Untouched words = codes "untouched"
answer_text Stale words = codes "stale"
answer_text Unborn words = codes "unborn"

abbrev pub name_in : Option Actor → List ℕ
name_in None = []
name_in (Some actor) = actor.name

-- the actor's name and the operation's number in it, each with a space after it
abbrev pub head_of : ScriptValue → (actor op : ℕ) → List ℕ
head_of script actor op = name_in (actor_at script actor) ++ (codes " " ++ decimal op) ++ codes " "

-- a line: the head, the answer, and a line feed
abbrev pub line_of : ScriptValue → Outcome → List ℕ
line_of script o = head_of script o.actor o.op ++ answer_text o.answer o.words ++ codes "\n"

abbrev pub process_name : Option Process → List ℕ
process_name None = []
process_name (Some process) = process.name

abbrev pub handle_name : Option (List ℕ) → List ℕ
handle_name None = []
handle_name (Some name) = name

-- what an actor is stuck at
abbrev pub waiting_text : ScriptValue → Waiting → List ℕ
waiting_text script (waitings.Process p) = codes "process " ++ process_name (process_at script p)
waiting_text script (waitings.Handle h) = codes "handle " ++ handle_name (handle_at script h)
waiting_text script (waitings.Holder actor) = []

-- the line of an actor that is stuck
abbrev pub stuck_line : ScriptValue → (actor : ℕ) → Waiting → List ℕ
stuck_line script actor waiting =
    codes "stuck " ++ name_in (actor_at script actor) ++ (codes " " ++ waiting_text script waiting) ++ codes "\n"

-- it waits for a process of the script, or for a handle of the script
abbrev pub NamesWaiting : ScriptValue → Waiting → Type 0
NamesWaiting script (waitings.Process p) = p < length script.processes
NamesWaiting script (waitings.Handle h) = h < length script.handles
NamesWaiting script (waitings.Holder actor) = ⊥

-- the word that an event of a transfer moves
abbrev pub word_in : PlainEvent → Option ℕ
word_in (events.MoveOut actor handle index slot value) = Some value
word_in (events.MoveIn actor handle index slot value) = Some value
word_in event = None

-- the words with one more after them
abbrev pub moved_by : List ℕ → Option ℕ → List ℕ
moved_by words None = words
moved_by words (Some word) = words ++ word ∷ []

-- the words that an actor's operation has moved after a note of it: none after its end
abbrev pub words_after : List ℕ → What → List ℕ
words_after words (Event event) = moved_by words (word_in event)
words_after words (Done answer) = []
words_after words what = words

-- The outcome that a note tells, if it ends an operation; `words` are those that the operation has moved.
abbrev pub outcome_of : (actor op : ℕ) (words : List ℕ) → What → Option Outcome
outcome_of actor op words (Done answer) =
    Some (record { actor = actor; op = op; answer = answer; words = words })
outcome_of actor op words other = None

-- The outcomes that the notes tell, where each actor's operation has moved these words before them.
abbrev pub outcomes_from : (moved : ℕ → List ℕ) → List NoteValue → List Outcome
outcomes_from moved [] = []
outcomes_from moved (note ∷ notes) =
    cons_option (outcome_of note.actor note.op (moved note.actor) note.what)
    (outcomes_from (put note.actor (words_after (moved note.actor) note.what) moved) notes)

abbrev pub outcomes_of : List NoteValue → List Outcome
outcomes_of notes = outcomes_from (λ (actor : ℕ). []) notes

abbrev pub text_of : ScriptValue → List NoteValue → List ℕ
text_of script notes = flat_map (line_of script) (outcomes_of notes)

-- new begins with old
abbrev pub BeginsWith : (new old : List ℕ) → Type 0
BeginsWith new old = take (length old) new ≡ old
