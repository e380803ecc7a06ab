-- A journal follows its script where each actor's notes are those of its operations in order, and the notes of one
-- operation have one of the shapes of its kind. Each turn of an actor is later than the one before it.
use Rattle.std.specs.Prelude.{◌≡◌, ℕ, ◌+◌, ◌≤◌, ◌<◌, ◌==◌, ◌&&◌, ◌⊎◌, Bool, true, false, not, IsTrue, List, [], ◌∷◌, ◌++◌, map, filter, zero, suc}
use Rattle.gup_base.specs.Parts.{Part, words_of, word_at}
use Rattle.gup_base.specs.declared.entry.Want.{Want}
use Rattle.gup_plain.specs.Event.{words}
use Rattle.gup_plain.specs.Note.{NoteValue}
use Rattle.gup_plain.specs.declared.answer.Answer.{Answer}
use Rattle.gup_plain.specs.declared.answer.Answer.TheVariants as answers
use Rattle.gup_plain.specs.declared.answer.Cause.{Cause}
use Rattle.gup_plain.specs.declared.answer.Cause.TheVariants as causes
use Rattle.gup_plain.specs.declared.event.PlainEvent.{PlainEvent}
use Rattle.gup_plain.specs.declared.event.PlainEvent.TheVariants as events
use Rattle.gup_plain.specs.declared.note.What.{What}
use Rattle.gup_plain.specs.declared.note.What.TheVariants.{Silent, Idle, Wait, Event, Done}
use Rattle.gup_script.specs.declared.op.Op.{Op}
use Rattle.gup_script.specs.declared.op.Op.TheVariants.{Map, Unmap, Protect, Discard, Load, Store, Pin, Unpin, Give, Take, Get, Put, Transfer, Mirror, Look, Fork, Exit, Move}
use Rattle.gup_script.specs.Script.{ScriptValue}
use Rattle.gup_spec_journal.specs.Place.{process_of, ops_of}
use Rattle.gup_spec_journal.specs.Plain.{refusal_by_cause}

-- an operation: its actor, the actor's process, and its number in the actor, from 1
pub record Who : Type 0 where
  pub actor : ℕ
  pub proc : ℕ
  pub number : ℕ

abbrev pub note_of : (turn actor number : ℕ) → What → NoteValue
note_of turn actor number what = record { turn = turn; actor = actor; op = number; what = what }

abbrev pub notes_of_turn : (turn actor number : ℕ) → List What → List NoteValue
notes_of_turn turn actor number whats = map (note_of turn actor number) whats

-- the notes are those of one turn of the operation
abbrev pub IsTurn : Who → List What → List NoteValue → Type 0
IsTurn who whats notes = (turn : ℕ) × (notes ≡ notes_of_turn turn who.actor who.number whats)

-- each note is of a turn after this one
abbrev pub AreBehind : (turn : ℕ) → List NoteValue → Type 0
AreBehind turn [] = Unit {0}
AreBehind turn (note ∷ notes) = (turn < note.turn) × AreBehind turn notes

-- each note in front is of an earlier turn than each of the rest
abbrev pub AreBefore : (front rest : List NoteValue) → Type 0
AreBefore [] rest = Unit {0}
AreBefore (note ∷ front) rest = AreBehind note.turn rest × AreBefore front rest

-- notes of the first kind, and after them, in later turns, notes of the second
abbrev pub Then : (First Second : List NoteValue → Type 0) → List NoteValue → Type 0
Then First Second notes =
    (front rest : List NoteValue) × (notes ≡ front ++ rest) × AreBefore front rest × First front × Second rest

-- turns with these notes, one after another, and then the rest
abbrev pub Turns : Who → List (List What) → (Rest : List NoteValue → Type 0) → List NoteValue → Type 0
Turns who [] Rest notes = Rest notes
Turns who (whats ∷ turns) Rest notes = Then (IsTurn who whats) (Turns who turns Rest) notes

-- which refusals an operation has
abbrev pub refuses : Op → Answer → Bool
refuses (Load page word) answers.Missing = true
refuses (Load page word) answers.NoFrame = true
refuses (Store page word value) answers.Missing = true
refuses (Store page word value) answers.Forbidden = true
refuses (Store page word value) answers.NoFrame = true
refuses (Map page n rights) answers.Overlap = true
refuses (Map page n rights) answers.Full = true
refuses (Protect page n rights) answers.Missing = true
refuses (Pin handle page n want fast) answers.Missing = true
refuses (Pin handle page n want fast) answers.Forbidden = true
refuses (Pin handle page n want fast) answers.NoFrame = true
refuses (Pin handle page n want fast) (answers.Unmovable count) = want.long
refuses (Unpin handle) answers.NotHeld = true
refuses (Give handle to) answers.NotHeld = true
refuses (Get handle page) answers.Missing = true
refuses (Get handle page) answers.NoFrame = true
refuses (Put handle) answers.NotHeld = true
refuses (Transfer handle outward slot parts) answers.NotHeld = true
refuses (Transfer handle outward slot parts) answers.Forbidden = not outward
refuses (Transfer handle outward slot parts) answers.Range = true
refuses (Transfer handle outward slot parts) answers.Unborn = false
refuses (Mirror mirror proc page) answers.Missing = true
refuses (Mirror mirror proc page) answers.NoFrame = true
refuses (Look mirror word) answers.Stale = true
refuses (Look mirror word) answers.Unborn = false
refuses (Move proc page zone) answers.Missing = true
refuses (Move proc page zone) answers.Untouched = true
refuses (Move proc page zone) (answers.Busy count) = true
refuses (Move proc page zone) answers.NoFrame = true
-- a fork of a failed process has a shape of its own
refuses (Fork child) answers.Unborn = false
refuses op answers.Unborn = true
refuses op answer = false

-- two silent turns, and then one with these notes
abbrev pub IsThirdTurn : Who → List What → List NoteValue → Type 0
IsThirdTurn who whats notes =
    Then (IsTurn who (Silent ∷ [])) (Then (IsTurn who (Silent ∷ [])) (IsTurn who whats)) notes

-- a move that has cleared its entry and counted is refused in the turn after those, for what it counted or for want of a frame
abbrev pub RefusesMove : Who → Answer → List NoteValue → Type 0
RefusesMove who (answers.Busy count) notes = IsThirdTurn who (Done (answers.Busy count) ∷ []) notes
RefusesMove who answers.NoFrame notes = IsThirdTurn who (Done answers.NoFrame ∷ []) notes
RefusesMove who answer notes = IsTurn who (Done answer ∷ []) notes

-- the turns of one page of a pin that is tried, the last of which has these notes: one turn, or of a long pin, which moves the
-- page first, three
abbrev pub TriesIn : Who → Want → List What → List NoteValue → Type 0
TriesIn who want whats notes = IsTurn who whats notes ⊎ ((want.long ≡ true) × IsThirdTurn who whats notes)

-- The same of a page that is refused so: what denies it comes in the first turn, what its frame's count says in the third, and
-- want of a frame in either.
abbrev pub RefusesPage : Who → Want → Answer → List What → List NoteValue → Type 0
RefusesPage who want (answers.Unmovable count) whats notes = (want.long ≡ true) × IsThirdTurn who whats notes
RefusesPage who want answers.NoFrame whats notes = TriesIn who want whats notes
RefusesPage who want answer whats notes = IsTurn who whats notes

-- The lockless walk of a pin.

-- the turns of a page that it takes and keeps: its entry is read, its frame is grabbed, the entry is read again, and the mark
abbrev pub takes_page : Who → (page : ℕ) → (write : Bool) → List (List What)
takes_page who page write =
    (Silent ∷ []) ∷ (Silent ∷ []) ∷ (Event (events.PinTry who.actor who.proc page write) ∷ []) ∷ (Silent ∷ []) ∷ []

-- what it looks at where it stops
pub data Stop : Type 0 where
  at_entry : Stop
  at_frame : Stop
  at_entry_again : Stop
  at_mark : Stop

-- The turns of a page at which it stops: it has read the entry, has found the frame free, has found another entry and dropped
-- the frame, or has found no mark and dropped the page.
abbrev pub stops_at : Who → (page : ℕ) → (write : Bool) → Stop → List (List What)
stops_at who page write at_entry = (Silent ∷ []) ∷ []
stops_at who page write at_frame = (Silent ∷ []) ∷ (Silent ∷ []) ∷ []
stops_at who page write at_entry_again = (Silent ∷ []) ∷ (Silent ∷ []) ∷ (Silent ∷ []) ∷ (Silent ∷ []) ∷ []
stops_at who page write at_mark = takes_page who page write ++ (Event (events.PinDrop who.actor page) ∷ []) ∷ []

-- the turns in which it drops so many pages, in rising order from this one on
abbrev pub drops_pages : (actor page pages : ℕ) → List (List What)
drops_pages actor page zero = []
drops_pages actor page (suc pages) = (Event (events.PinDrop actor page) ∷ []) ∷ drops_pages actor (page + 1) pages

-- it has read another sequence than at first: each of the pages is dropped, and all are left to the slow turns
abbrev pub DropsAll : Who → (page n kept : ℕ) → (Slowly : (got left : ℕ) → List NoteValue → Type 0) → List NoteValue → Type 0
DropsAll who page n kept Slowly notes = Turns who ((Silent ∷ []) ∷ drops_pages who.actor page kept) (Slowly 0 n) notes

-- A walk that stopped reads the sequence again. Where that is as it was the pages so far are kept, and the others left to the slow
-- turns.
abbrev pub StopsWalk : Who → (page n : ℕ) → (Slowly : (got left : ℕ) → List NoteValue → Type 0) → (kept left : ℕ) → List NoteValue → Type 0
StopsWalk who page n Slowly kept left notes =
    Turns who ((Silent ∷ []) ∷ []) (Slowly kept left) notes ⊎ DropsAll who page n kept Slowly notes

-- A walk that has kept so many pages, so many of which are left: it keeps the next one, or stops at it. After the last one it
-- reads the sequence again.
abbrev pub WalksOn : Who → (page n : ℕ) → (write : Bool) → (All : List NoteValue → Type 0) → (Slowly : (got left : ℕ) → List NoteValue → Type 0) → (kept left : ℕ) → List NoteValue → Type 0
WalksOn who page n write All Slowly kept zero notes = All notes ⊎ DropsAll who page n kept Slowly notes
WalksOn who page n write All Slowly kept (suc left) notes =
    Turns who (takes_page who (page + kept) write) (WalksOn who page n write All Slowly (kept + 1) left) notes
    ⊎ ((stop : Stop) × Turns who (stops_at who (page + kept) write stop) (StopsWalk who page n Slowly kept (suc left)) notes)

-- The walk of a pin of n pages, and what comes behind it: nothing but its answer where it has kept all, and slow turns of those
-- that it hasn't. First has-pinned is set, and the sequence read: where that is odd no page is walked.
abbrev pub Walks : Who → (page n : ℕ) → (write : Bool) → (All : List NoteValue → Type 0) → (Slowly : (got left : ℕ) → List NoteValue → Type 0) → List NoteValue → Type 0
Walks who page n write All Slowly notes =
    Turns who ((Silent ∷ []) ∷ (Silent ∷ []) ∷ []) (λ rest. Slowly 0 n rest ⊎ WalksOn who page n write All Slowly 0 n rest) notes

-- a pin that walks is refused at its first page, in its slow turns; one of a failed process at once
abbrev pub RefusesFirst : Who → Want → Answer → (got left : ℕ) → List NoteValue → Type 0
RefusesFirst who want answer got left notes = (got ≡ 0) × RefusesPage who want answer (Done answer ∷ []) notes

abbrev pub RefusesFast : Who → (page n : ℕ) → Want → Answer → List NoteValue → Type 0
RefusesFast who page n want answers.Unborn notes = IsTurn who (Done answers.Unborn ∷ []) notes
RefusesFast who page n want answer notes = Walks who page n want.write (λ rest. ⊥) (RefusesFirst who want answer) notes

abbrev pub RefusesPin : Who → (page n : ℕ) → Want → (fast : Bool) → Answer → List NoteValue → Type 0
RefusesPin who page n want false answer notes = RefusesPage who want answer (Done answer ∷ []) notes
RefusesPin who page n want true answer notes = RefusesFast who page n want answer notes

-- the turns of an operation that is refused, the last of which has these notes: one turn, but of a move and of a pin
abbrev pub RefusesIn : Who → Op → List What → List NoteValue → Type 0
RefusesIn who (Pin handle page n want fast) (Done answer ∷ []) notes = RefusesPin who page n want fast answer notes
RefusesIn who (Move proc page zone) (Done answer ∷ []) notes = RefusesMove who answer notes
RefusesIn who op whats notes = IsTurn who whats notes

abbrev pub IsRefused : Who → Op → List NoteValue → Type 0
IsRefused who op notes = (answer : Answer) × IsTrue (refuses op answer) × RefusesIn who op (Done answer ∷ []) notes

-- one page in a turn: with its event, or passed in silence
abbrev pub TakesDown : Who → PlainEvent → List NoteValue → Type 0
TakesDown who event notes = IsTurn who (Event event ∷ []) notes ⊎ IsTurn who (Silent ∷ []) notes

-- the last page, with the answer
abbrev pub TakesDownLast : Who → PlainEvent → List NoteValue → Type 0
TakesDownLast who event notes =
    IsTurn who (Event event ∷ Done answers.Plain ∷ []) notes ⊎ IsTurn who (Done answers.Plain ∷ []) notes

-- n pages from this one on, one a turn, in rising order, each with this event
abbrev pub TakesDownAll : Who → (ℕ → PlainEvent) → (page n : ℕ) → List NoteValue → Type 0
TakesDownAll who event page zero notes = ⊥
TakesDownAll who event page (suc zero) notes = TakesDownLast who (event page) notes
TakesDownAll who event page (suc (suc n)) notes =
    Then (TakesDown who (event page)) (TakesDownAll who event (page + 1) (suc n)) notes

-- so many pages, one a turn, and then the answer
abbrev pub TakesDownWhole : Who → (pages : ℕ) → List NoteValue → Type 0
TakesDownWhole who zero notes = IsTurn who (Done answers.Plain ∷ []) notes
TakesDownWhole who (suc pages) notes =
    (page : ℕ)
    × Then (IsTurn who (Event (events.Unmap who.actor who.proc page) ∷ [])) (TakesDownWhole who pages) notes

-- of a page that a fork copies so many words are left, from this one on, one a turn; then the copy is placed
abbrev pub CopiesWords : Who → (child page word left : ℕ) → List NoteValue → Type 0
CopiesWords who child page word zero notes = IsTurn who (Silent ∷ []) notes
CopiesWords who child page word (suc left) notes =
    Then (IsTurn who (Event (events.ForkWord who.proc child page word) ∷ []))
    (CopiesWords who child page (word + 1) left) notes

-- a frame is taken for a page, and then all its words are copied, from this one on
abbrev pub CopiesFrom : Who → (child page word : ℕ) → List NoteValue → Type 0
CopiesFrom who child page word notes = (left : ℕ) × (word + left ≡ words) × CopiesWords who child page word left notes

abbrev pub CopiesPage : Who → (child page : ℕ) → List NoteValue → Type 0
CopiesPage who child page notes = Then (IsTurn who (Silent ∷ [])) (CopiesFrom who child page 0) notes

-- a page that a fork has counted is shared in one turn, or copied
abbrev pub SharesOrCopies : Who → (child page : ℕ) → List NoteValue → Type 0
SharesOrCopies who child page notes =
    IsTurn who (Event (events.ForkPage who.proc child page) ∷ []) notes ⊎ CopiesPage who child page notes

-- a page of a fork: it is passed in one turn, or counted in one and shared in the next, or counted in one and copied in
-- those after it
abbrev pub ForksPage : Who → (child page : ℕ) → List NoteValue → Type 0
ForksPage who child page notes =
    IsTurn who (Event (events.ForkPage who.proc child page) ∷ []) notes
    ⊎ Then (IsTurn who (Silent ∷ [])) (SharesOrCopies who child page) notes

-- after a page that it counted a fork finds no frame for it, for its copy or for a page table
abbrev pub FailsFork : Who → (child : ℕ) → List NoteValue → Type 0
FailsFork who child notes =
    Then (IsTurn who (Silent ∷ [])) (IsTurn who (Event (events.ForkFail child) ∷ Done answers.NoFrame ∷ [])) notes

-- so many pages of a fork, in rising order from this one on, and then its end, or its failure
abbrev pub ForksPages : Who → (child from pages : ℕ) → List NoteValue → Type 0
ForksPages who child from zero notes =
    IsTurn who (Event (events.ForkEnd who.proc child) ∷ Done answers.Plain ∷ []) notes ⊎ FailsFork who child notes
ForksPages who child from (suc pages) notes =
    (page : ℕ) × (from ≤ page) × Then (ForksPage who child page) (ForksPages who child (page + 1) pages) notes

-- a fork: its beginning, its pages, its end or its failure
abbrev pub Forks : Who → (child : ℕ) → List NoteValue → Type 0
Forks who child notes =
    (pages : ℕ)
    × Then (IsTurn who (Event (events.ForkBegin who.proc child) ∷ [])) (ForksPages who child 0 pages) notes

-- what may refuse a page of a pin
abbrev pub EndsPin : Want → Cause → Type 0
EndsPin want causes.Missing = Unit {0}
EndsPin want causes.Forbidden = Unit {0}
EndsPin want causes.NoFrame = Unit {0}
EndsPin want (causes.Unmovable count) = want.long ≡ true

-- the page after the first `got` of n is refused: the pin has those, where there are some
abbrev pub EndsShort : Who → (handle n : ℕ) → Want → (got : ℕ) → List NoteValue → Type 0
EndsShort who handle n want got notes =
    (0 < got) × (cause : Cause) × EndsPin want cause
    × RefusesPage who want (refusal_by_cause cause) (Event (events.PinOk who.actor handle) ∷ Done (answers.Short got n cause) ∷ [])
    notes

-- Of the n pages of a pin the first `got` are taken, and so many are left: they are tried in rising order, to the last one or to
-- the first that is refused. The last turn makes the handle.
abbrev pub PinsPages : Who → (handle page n : ℕ) → Want → (got left : ℕ) → List NoteValue → Type 0
PinsPages who handle page n want got zero notes = ⊥
PinsPages who handle page n want got (suc zero) notes =
    TriesIn who want (Event (events.PinTry who.actor who.proc (page + got) want.write) ∷ Event (events.PinOk who.actor handle)
    ∷ Done (answers.Pinned n) ∷ []) notes
    ⊎ EndsShort who handle n want got notes
PinsPages who handle page n want got (suc (suc left)) notes =
    Then (TriesIn who want (Event (events.PinTry who.actor who.proc (page + got) want.write) ∷ []))
    (PinsPages who handle page n want (got + 1) (suc left)) notes
    ⊎ EndsShort who handle n want got notes

-- a walk that has kept all pages makes the handle
abbrev pub PinsAll : Who → (handle n : ℕ) → List NoteValue → Type 0
PinsAll who handle n notes = IsTurn who (Event (events.PinOk who.actor handle) ∷ Done (answers.Pinned n) ∷ []) notes

-- a pin of n pages, that walks first or goes slowly from the first page on
abbrev pub Pins : Who → (handle page n : ℕ) → Want → (fast : Bool) → List NoteValue → Type 0
Pins who handle page n want false notes = PinsPages who handle page n want 0 n notes
Pins who handle page n want true notes =
    Walks who page n want.write (PinsAll who handle n) (PinsPages who handle page n want) notes

-- an unpin gives back so many pages, one a turn, and then the last, with which the pin is gone
abbrev pub Unpins : Who → (handle more : ℕ) → List NoteValue → Type 0
Unpins who handle zero notes = IsTurn who (Event (events.Unpin who.actor handle) ∷ Done answers.Plain ∷ []) notes
Unpins who handle (suc more) notes = Then (IsTurn who (Silent ∷ [])) (Unpins who handle more) notes

-- a word of a transfer, out of a pin's pages or into them
abbrev pub moves_word : (actor handle : ℕ) → (outward : Bool) → (index slot value : ℕ) → PlainEvent
moves_word actor handle true index slot value = events.MoveOut actor handle index slot value
moves_word actor handle false index slot value = events.MoveIn actor handle index slot value

-- the words of a transfer from the k-th on, of which so many are left, one a turn, in their order
abbrev pub MovesWords : Who → (handle : ℕ) → (outward : Bool) → (slot : ℕ) → List Part → (k left : ℕ) → List NoteValue → Type 0
MovesWords who handle outward slot parts k zero notes = ⊥
MovesWords who handle outward slot parts k (suc zero) notes =
    (value : ℕ)
    × IsTurn who (Event (moves_word who.actor handle outward (word_at parts k) (slot + k) value) ∷ Done answers.Words ∷ [])
    notes
MovesWords who handle outward slot parts k (suc (suc left)) notes =
    (value : ℕ)
    × Then (IsTurn who (Event (moves_word who.actor handle outward (word_at parts k) (slot + k) value) ∷ []))
    (MovesWords who handle outward slot parts (k + 1) (suc left)) notes

-- the notes of an operation that is done; a fork of a failed process makes its child failed
abbrev pub Completes : Who → Op → List NoteValue → Type 0
Completes who (Load page word) notes =
    (value : ℕ) × IsTurn who (Event (events.Load who.actor who.proc page word value) ∷ Done (answers.Value value) ∷ []) notes
Completes who (Store page word value) notes =
    IsTurn who (Event (events.Store who.actor who.proc page word value) ∷ Done answers.Plain ∷ []) notes
Completes who (Map page n rights) notes =
    IsTurn who (Event (events.Map who.actor who.proc page n rights) ∷ Done answers.Plain ∷ []) notes
Completes who (Protect page n rights) notes =
    IsTurn who (Event (events.Protect who.actor who.proc page n rights) ∷ Done answers.Plain ∷ []) notes
Completes who (Unmap page n) notes = TakesDownAll who (events.Unmap who.actor who.proc) page n notes
Completes who (Discard page n) notes = TakesDownAll who (events.Discard who.actor who.proc) page n notes
Completes who (Pin handle page n want fast) notes = Pins who handle page n want fast notes
Completes who (Unpin handle) notes = (more : ℕ) × Unpins who handle more notes
Completes who (Give handle to) notes = IsTurn who (Event (events.Give who.actor handle to) ∷ Done answers.Plain ∷ []) notes
Completes who (Take handle) notes = IsTurn who (Event (events.Take who.actor handle) ∷ Done answers.Plain ∷ []) notes
-- references change nothing of the plain state, so getting one and putting it back have no event
Completes who (Get handle page) notes = IsTurn who (Done answers.Plain ∷ []) notes
Completes who (Put handle) notes = IsTurn who (Done answers.Plain ∷ []) notes
Completes who (Transfer handle outward slot parts) notes = MovesWords who handle outward slot parts 0 (words_of parts) notes
Completes who (Mirror mirror proc page) notes =
    IsTurn who (Event (events.MirrorFill who.actor mirror proc page) ∷ Done answers.Plain ∷ []) notes
Completes who (Look mirror word) notes =
    (value : ℕ) × IsTurn who (Event (events.Look who.actor mirror word value) ∷ Done (answers.Value value) ∷ []) notes
Completes who (Move proc page zone) notes = IsThirdTurn who (Done answers.Plain ∷ []) notes
Completes who (Fork child) notes =
    Forks who child notes ⊎ IsTurn who (Event (events.ForkFail child) ∷ Done answers.Unborn ∷ []) notes
Completes who Exit notes = (pages : ℕ) × TakesDownWhole who pages notes

-- the shapes of an operation's notes
abbrev pub Shape : Who → Op → List NoteValue → Type 0
Shape who op notes = Completes who op notes ⊎ IsRefused who op notes

abbrev pub Shapes : (actor proc number : ℕ) → List Op → List NoteValue → Type 0
Shapes actor proc number [] notes = notes ≡ []
Shapes actor proc number (op ∷ ops) notes =
    (notes ≡ [])
    ⊎ Then (Shape (record { actor = actor; proc = proc; number = number }) op) (Shapes actor proc (number + 1) ops) notes

-- the notes of an actor's operations: neither that it waits nor that it has finished
abbrev pub is_of_operation : What → Bool
is_of_operation Idle = false
is_of_operation (Wait waiting) = false
is_of_operation what = true

abbrev pub own_notes : ℕ → List NoteValue → List NoteValue
own_notes a notes = filter (λ (n : NoteValue). (n.actor == a) && is_of_operation n.what) notes

abbrev pub Follows : ScriptValue → List NoteValue → Type 0
Follows script notes = (a : ℕ) → Shapes a (process_of script a) 1 (ops_of script a) (own_notes a notes)
