-- The reader of a line as functions on lists: the note that its words are. Each kind of note is a chain of fields, in their order.
use Rattle.std.specs.Prelude.{ℕ, ◌^◌, nat_lt, Bool, true, false, if◌then◌else◌, List, [], ◌∷◌, codes, Option, Some, None}
use Rattle.std.specs.Str.{bytes_eq}
use Rattle.gup_base.specs.declared.entry.Rights.{Rights}
use Rattle.gup_base.specs.declared.entry.Rights.TheVariants.{R, RW}
use Rattle.gup_plain.specs.Note.{NoteValue}
use Rattle.gup_plain.specs.declared.answer.Answer.{Answer}
use Rattle.gup_plain.specs.declared.answer.Answer.TheVariants as answers
use Rattle.gup_plain.specs.declared.answer.Cause.{Cause}
use Rattle.gup_plain.specs.declared.answer.Cause.TheVariants as causes
use Rattle.gup_plain.specs.declared.event.PlainEvent.{PlainEvent}
use Rattle.gup_plain.specs.declared.event.PlainEvent.TheVariants as events
use Rattle.gup_plain.specs.declared.note.What.{What}
use Rattle.gup_plain.specs.declared.note.What.TheVariants as whats
use Rattle.gup_plain.specs.declared.note.Waiting.{Waiting}
use Rattle.gup_plain.specs.declared.note.Waiting.TheVariants as waitings
use Rattle.gup_script.specs.declared.op.Op.{Op}
use Rattle.gup_script.specs.Script.{ScriptValue}
use Rattle.gup_spec_grammar.specs.Said.{Word as Letters}
use Rattle.gup_spec_grammar.specs.Spelling.{parts}
use Rattle.gup_read_words.specs.Text.{◌>>=◌, is_printable, number_in, index_in, page_in, word_no_in, address_in}
use Rattle.gup_spec_trace.specs.Written.{counts_pages, op_at}
use Rattle.gup_read_notes.specs.Names.{actor_in, process_in, handle_in, slot_in}

-- ---- numbers that a type of 16 or of 8 bits can hold, and fixed words

unfoldable pub short_in : Letters → Option ℕ
short_in word = do
  n ← number_in word
  if nat_lt n (2 ^ 16) then Some n else None

unfoldable pub byte_in : Letters → Option ℕ
byte_in word = do
  n ← number_in word
  if nat_lt n 256 then Some n else None

unfoldable pub rights_in : Letters → Option Rights
rights_in word =
    if bytes_eq word (codes "r") then Some R
    else if bytes_eq word (codes "rw") then Some RW
    else None

-- does a pin write?
unfoldable pub way_in : Letters → Option Bool
way_in word =
    if bytes_eq word (codes "read") then Some false
    else if bytes_eq word (codes "write") then Some true
    else None

-- ---- the fields of events of one form

-- pages of a process from one on, and rights
unfoldable pub range_fields : ScriptValue → List Letters → Option (ℕ × ℕ × ℕ × Rights)
range_fields s (process ∷ page ∷ count ∷ allowed ∷ []) = do
  p ← process_in s process
  g ← page_in page
  n ← short_in count
  rights ← rights_in allowed
  Some (p, g, n, rights)
range_fields s _ = None

-- a page of a process
unfoldable pub page_fields : ScriptValue → List Letters → Option (ℕ × ℕ)
page_fields s (process ∷ page ∷ []) = do
  p ← process_in s process
  g ← page_in page
  Some (p, g)
page_fields s _ = None

-- a word of a page, and its value
unfoldable pub access_fields : ScriptValue → List Letters → Option (ℕ × ℕ × ℕ × ℕ)
access_fields s (process ∷ address ∷ value ∷ []) = do
  p ← process_in s process
  at ← address_in address
  v ← number_in value
  Some (p, at.0, at.1, v)
access_fields s _ = None

-- a handle alone
unfoldable pub handle_field : ScriptValue → List Letters → Option ℕ
handle_field s (handle ∷ []) = handle_in s handle
handle_field s _ = None

-- a word of a transfer: its index in the pin, its slot in the store, and the word
unfoldable pub moved_fields : ScriptValue → List Letters → Option (ℕ × ℕ × ℕ × ℕ)
moved_fields s (handle ∷ index ∷ slot ∷ value ∷ []) = do
  h ← handle_in s handle
  i ← index_in index
  k ← index_in slot
  v ← number_in value
  Some (h, i, k, v)
moved_fields s _ = None

-- the parent and the child of a fork
unfoldable pub fork_fields : ScriptValue → List Letters → Option (ℕ × ℕ)
fork_fields s (parent ∷ child ∷ []) = do
  p ← process_in s parent
  c ← process_in s child
  Some (p, c)
fork_fields s _ = None

-- ---- events, by the words behind their own

unfoldable pub map_in : ScriptValue → (actor : ℕ) → List Letters → Option PlainEvent
map_in s a fields = do
  x ← range_fields s fields
  Some (events.Map a x.0 x.1 x.2 x.3)

unfoldable pub protect_in : ScriptValue → (actor : ℕ) → List Letters → Option PlainEvent
protect_in s a fields = do
  x ← range_fields s fields
  Some (events.Protect a x.0 x.1 x.2 x.3)

unfoldable pub unmap_in : ScriptValue → (actor : ℕ) → List Letters → Option PlainEvent
unmap_in s a fields = do
  x ← page_fields s fields
  Some (events.Unmap a x.0 x.1)

unfoldable pub discard_in : ScriptValue → (actor : ℕ) → List Letters → Option PlainEvent
discard_in s a fields = do
  x ← page_fields s fields
  Some (events.Discard a x.0 x.1)

unfoldable pub load_in : ScriptValue → (actor : ℕ) → List Letters → Option PlainEvent
load_in s a fields = do
  x ← access_fields s fields
  Some (events.Load a x.0 x.1 x.2 x.3)

unfoldable pub store_in : ScriptValue → (actor : ℕ) → List Letters → Option PlainEvent
store_in s a fields = do
  x ← access_fields s fields
  Some (events.Store a x.0 x.1 x.2 x.3)

unfoldable pub pin_try_in : ScriptValue → (actor : ℕ) → List Letters → Option PlainEvent
pin_try_in s a (process ∷ page ∷ way ∷ []) = do
  p ← process_in s process
  g ← page_in page
  write ← way_in way
  Some (events.PinTry a p g write)
pin_try_in s a _ = None

unfoldable pub pin_drop_in : (actor : ℕ) → List Letters → Option PlainEvent
pin_drop_in a (page ∷ []) = do
  g ← page_in page
  Some (events.PinDrop a g)
pin_drop_in a _ = None

unfoldable pub pin_ok_in : ScriptValue → (actor : ℕ) → List Letters → Option PlainEvent
pin_ok_in s a fields = do
  h ← handle_field s fields
  Some (events.PinOk a h)

unfoldable pub unpin_in : ScriptValue → (actor : ℕ) → List Letters → Option PlainEvent
unpin_in s a fields = do
  h ← handle_field s fields
  Some (events.Unpin a h)

unfoldable pub give_in : ScriptValue → (actor : ℕ) → List Letters → Option PlainEvent
give_in s a (handle ∷ to ∷ []) = do
  h ← handle_in s handle
  b ← actor_in s to
  Some (events.Give a h b)
give_in s a _ = None

unfoldable pub take_in : ScriptValue → (actor : ℕ) → List Letters → Option PlainEvent
take_in s a fields = do
  h ← handle_field s fields
  Some (events.Take a h)

unfoldable pub move_out_in : ScriptValue → (actor : ℕ) → List Letters → Option PlainEvent
move_out_in s a fields = do
  x ← moved_fields s fields
  Some (events.MoveOut a x.0 x.1 x.2 x.3)

unfoldable pub move_in_in : ScriptValue → (actor : ℕ) → List Letters → Option PlainEvent
move_in_in s a fields = do
  x ← moved_fields s fields
  Some (events.MoveIn a x.0 x.1 x.2 x.3)

unfoldable pub mirror_in : ScriptValue → (actor : ℕ) → List Letters → Option PlainEvent
mirror_in s a (slot ∷ process ∷ page ∷ []) = do
  m ← slot_in s slot
  p ← process_in s process
  g ← page_in page
  Some (events.MirrorFill a m p g)
mirror_in s a _ = None

unfoldable pub look_in : ScriptValue → (actor : ℕ) → List Letters → Option PlainEvent
look_in s a (slot ∷ word ∷ value ∷ []) = do
  m ← slot_in s slot
  w ← word_no_in word
  v ← number_in value
  Some (events.Look a m w v)
look_in s a _ = None

unfoldable pub fork_begin_in : ScriptValue → List Letters → Option PlainEvent
fork_begin_in s fields = do
  x ← fork_fields s fields
  Some (events.ForkBegin x.0 x.1)

unfoldable pub fork_page_in : ScriptValue → List Letters → Option PlainEvent
fork_page_in s (parent ∷ child ∷ page ∷ []) = do
  p ← process_in s parent
  c ← process_in s child
  g ← page_in page
  Some (events.ForkPage p c g)
fork_page_in s _ = None

unfoldable pub fork_word_in : ScriptValue → List Letters → Option PlainEvent
fork_word_in s (parent ∷ child ∷ address ∷ []) = do
  p ← process_in s parent
  c ← process_in s child
  at ← address_in address
  Some (events.ForkWord p c at.0 at.1)
fork_word_in s _ = None

unfoldable pub fork_end_in : ScriptValue → List Letters → Option PlainEvent
fork_end_in s fields = do
  x ← fork_fields s fields
  Some (events.ForkEnd x.0 x.1)

unfoldable pub fork_fail_in : ScriptValue → List Letters → Option PlainEvent
fork_fail_in s (child ∷ []) = do
  c ← process_in s child
  Some (events.ForkFail c)
fork_fail_in s _ = None

-- the event with this word
unfoldable pub event_in : ScriptValue → (actor : ℕ) → (word : Letters) → List Letters → Option PlainEvent
event_in s a word fields =
    if bytes_eq word (codes "load") then load_in s a fields
    else if bytes_eq word (codes "store") then store_in s a fields
    else if bytes_eq word (codes "forkword") then fork_word_in s fields
    else if bytes_eq word (codes "forkpage") then fork_page_in s fields
    else if bytes_eq word (codes "out") then move_out_in s a fields
    else if bytes_eq word (codes "in") then move_in_in s a fields
    else if bytes_eq word (codes "map") then map_in s a fields
    else if bytes_eq word (codes "unmap") then unmap_in s a fields
    else if bytes_eq word (codes "discard") then discard_in s a fields
    else if bytes_eq word (codes "protect") then protect_in s a fields
    else if bytes_eq word (codes "pintry") then pin_try_in s a fields
    else if bytes_eq word (codes "pindrop") then pin_drop_in a fields
    else if bytes_eq word (codes "pinok") then pin_ok_in s a fields
    else if bytes_eq word (codes "unpin") then unpin_in s a fields
    else if bytes_eq word (codes "give") then give_in s a fields
    else if bytes_eq word (codes "take") then take_in s a fields
    else if bytes_eq word (codes "mirror") then mirror_in s a fields
    else if bytes_eq word (codes "look") then look_in s a fields
    else if bytes_eq word (codes "forkbegin") then fork_begin_in s fields
    else if bytes_eq word (codes "forkend") then fork_end_in s fields
    else if bytes_eq word (codes "forkfail") then fork_fail_in s fields
    else None

-- ---- what an actor waits for

unfoldable pub holder_in : ScriptValue → Letters → Option Waiting
holder_in s name = do
  a ← actor_in s name
  Some (waitings.Holder a)

unfoldable pub awaited_handle_in : ScriptValue → Letters → Option Waiting
awaited_handle_in s name = do
  h ← handle_in s name
  Some (waitings.Handle h)

unfoldable pub awaited_process_in : ScriptValue → Letters → Option Waiting
awaited_process_in s name = do
  p ← process_in s name
  Some (waitings.Process p)

unfoldable pub awaited_in : ScriptValue → (kind name : Letters) → Option Waiting
awaited_in s kind name =
    if bytes_eq kind (codes "actor") then holder_in s name
    else if bytes_eq kind (codes "handle") then awaited_handle_in s name
    else if bytes_eq kind (codes "process") then awaited_process_in s name
    else None

unfoldable pub waiting_in : ScriptValue → List Letters → Option Waiting
waiting_in s (kind ∷ name ∷ []) = awaited_in s kind name
waiting_in s _ = None

-- ---- answers

-- one word
unfoldable pub plain_answer_in : Letters → Option Answer
plain_answer_in word =
    if bytes_eq word (codes "ok") then Some answers.Plain
    else if bytes_eq word (codes "words") then Some answers.Words
    else if bytes_eq word (codes "missing") then Some answers.Missing
    else if bytes_eq word (codes "forbidden") then Some answers.Forbidden
    else if bytes_eq word (codes "noframe") then Some answers.NoFrame
    else if bytes_eq word (codes "notheld") then Some answers.NotHeld
    else if bytes_eq word (codes "range") then Some answers.Range
    else if bytes_eq word (codes "overlap") then Some answers.Overlap
    else if bytes_eq word (codes "full") then Some answers.Full
    else if bytes_eq word (codes "untouched") then Some answers.Untouched
    else if bytes_eq word (codes "stale") then Some answers.Stale
    else if bytes_eq word (codes "unborn") then Some answers.Unborn
    else None

-- the number behind `ok`: pages, or a word that was read
unfoldable pub number_answer : Option Op → ℕ → Answer
number_answer op n = if counts_pages op n then answers.Pinned n else answers.Value n

-- a word and a number
unfoldable pub counted_answer_in : Option Op → (word : Letters) → ℕ → Option Answer
counted_answer_in op word n =
    if bytes_eq word (codes "ok") then Some (number_answer op n)
    else if bytes_eq word (codes "unmovable") then Some (answers.Unmovable n)
    else if bytes_eq word (codes "busy") then Some (answers.Busy n)
    else None

unfoldable pub plain_cause_in : Letters → Option Cause
plain_cause_in word =
    if bytes_eq word (codes "missing") then Some causes.Missing
    else if bytes_eq word (codes "forbidden") then Some causes.Forbidden
    else if bytes_eq word (codes "noframe") then Some causes.NoFrame
    else None

unfoldable pub counted_cause_in : (word count : Letters) → Option Cause
counted_cause_in word count =
    if bytes_eq word (codes "unmovable") then (do
      n ← number_in count
      Some (causes.Unmovable n))
    else None

unfoldable pub cause_in : List Letters → Option Cause
cause_in (word ∷ []) = plain_cause_in word
cause_in (word ∷ count ∷ []) = counted_cause_in word count
cause_in _ = None

-- a short pin's, behind its first word
unfoldable pub short_answer_in : (got of wanted : Letters) → (cause : List Letters) → Option Answer
short_answer_in got of wanted cause =
    if bytes_eq of (codes "of") then (do
      g ← byte_in got
      w ← byte_in wanted
      c ← cause_in cause
      Some (answers.Short g w c))
    else None

unfoldable pub answer_in : Option Op → List Letters → Option Answer
answer_in op (word ∷ []) = plain_answer_in word
answer_in op (word ∷ count ∷ []) = do
  n ← number_in count
  counted_answer_in op word n
answer_in op (word ∷ got ∷ of ∷ wanted ∷ cause) = if bytes_eq word (codes "ok") then short_answer_in got of wanted cause else None
answer_in op _ = None

-- ---- what happened, by the words behind its own

-- a word that stands alone
unfoldable pub alone : What → List Letters → Option What
alone what [] = Some what
alone what _ = None

unfoldable pub wait_in : ScriptValue → List Letters → Option What
wait_in s fields = do
  waiting ← waiting_in s fields
  Some (whats.Wait waiting)

unfoldable pub done_in : Option Op → List Letters → Option What
done_in op fields = do
  answer ← answer_in op fields
  Some (whats.Done answer)

unfoldable pub some_event_in : ScriptValue → (actor : ℕ) → (word : Letters) → List Letters → Option What
some_event_in s a word fields = do
  event ← event_in s a word fields
  Some (whats.Event event)

unfoldable pub what_in : ScriptValue → (actor op : ℕ) → (word : Letters) → List Letters → Option What
what_in s a op word fields =
    if bytes_eq word (codes "done") then done_in (op_at s a op) fields
    else if bytes_eq word (codes "silent") then alone whats.Silent fields
    else if bytes_eq word (codes "idle") then alone whats.Idle fields
    else if bytes_eq word (codes "wait") then wait_in s fields
    else some_event_in s a word fields

-- ---- the note of a line's words

unfoldable pub note_in : ScriptValue → List Letters → Option NoteValue
note_in s (turn ∷ actor ∷ op ∷ word ∷ fields) = do
  t ← index_in turn
  a ← actor_in s actor
  k ← index_in op
  what ← what_in s a k word fields
  Some (record { turn = t; actor = a; op = k; what = what })
note_in s _ = None

-- of a line
unfoldable pub read_in : ScriptValue → (line : List ℕ) → Option NoteValue
read_in s line = if is_printable line then note_in s (parts 32 line) else None
