-- Which events and answers may come next in an operation, and what each makes of its course.
use Rattle.std.specs.Prelude.{ℕ, ◌+◌, ◌-◌, ◌==◌, ◌&&◌, nat_lt, nat_le, if◌then◌else◌, Bool, true, false, List, [], ◌∷◌, Option, None, Some, zero}
use Rattle.gup_base.specs.Parts.{Part, words_of, word_at}
use Rattle.gup_base.specs.declared.entry.Want.{Want}
use Rattle.gup_plain.specs.Event.{words}
use Rattle.gup_plain.specs.declared.answer.Answer.{Answer}
use Rattle.gup_plain.specs.declared.answer.Answer.TheVariants as answers
use Rattle.gup_plain.specs.declared.answer.Cause.{Cause}
use Rattle.gup_plain.specs.declared.answer.Cause.TheVariants as causes
use Rattle.gup_plain.specs.declared.event.PlainEvent.{PlainEvent}
use Rattle.gup_plain.specs.declared.event.PlainEvent.TheVariants as events
use Rattle.gup_plain.specs.declared.note.What.{What}
use Rattle.gup_plain.specs.declared.note.What.TheVariants.{Event, Done}
use Rattle.gup_script.specs.Limits.{most_words}
use Rattle.gup_script.specs.declared.op.Op.{Op}
use Rattle.gup_script.specs.declared.op.Op.TheVariants.{Map, Unmap, Protect, Discard, Load, Store, Pin, Unpin, Give, Take, Get, Put, Transfer, Mirror, Look, Fork, Exit, Move}
use Rattle.gup_spec_journal.specs.Follows.{Who, refuses, moves_word}
use Rattle.gup_check_course.specs.declared.course.Course.{Course}
use Rattle.gup_check_course.specs.declared.course.Course.TheVariants.{Start, Taking, Moved, Forking, Copying, Walking, Stopped, Dropping, Slow, Short, Closing}
use Rattle.gup_check_course.specs.declared.course.Step.{Step}
use Rattle.gup_check_course.specs.declared.course.Step.TheVariants.{On, Ended}
use Rattle.gup_check_course.specs.Same.{same_what}

-- what may come, if this is so, and what it makes of the course
pub record Arc : Type 0 where
  pub allowed : Bool
  pub what : What
  pub step : Step

abbrev pub arc : (allowed : Bool) → What → Step → Arc
arc allowed what step = record { allowed = allowed; what = what; step = step }

-- the event, behind which the operation goes on so
abbrev pub on_event : (allowed : Bool) → PlainEvent → Course → Arc
on_event allowed event course = arc allowed (Event event) (On course)

-- the answer, with which it ends
abbrev pub on_answer : (allowed : Bool) → Answer → Arc
on_answer allowed answer = arc allowed (Done answer) Ended

-- What is said that an operation leaves open: a word that is read, a page, an answer, the cause of one.

abbrev pub value_in : What → ℕ
value_in (Event (events.Load a p page word value)) = value
value_in (Event (events.Look a m word value)) = value
value_in (Event (events.MoveOut a h index slot value)) = value
value_in (Event (events.MoveIn a h index slot value)) = value
value_in what = 0

abbrev pub page_in : What → ℕ
page_in (Event (events.Unmap a p page)) = page
page_in (Event (events.Discard a p page)) = page
page_in (Event (events.ForkPage p child page)) = page
page_in (Event (events.ForkWord p child page word)) = page
page_in what = 0

abbrev pub answer_in : What → Answer
answer_in (Done answer) = answer
answer_in what = answers.Plain

abbrev pub cause_in : What → Cause
cause_in (Done (answers.Short got n cause)) = cause
cause_in what = causes.Missing

-- an event of so many pages, each later than those before it, and the answer at any time
abbrev pub takes_down : (ℕ → PlainEvent) → (next end : ℕ) → What → List Arc
takes_down event next end what =
    on_event (nat_le next (page_in what) && nat_lt (page_in what) end) (event (page_in what)) (Taking (page_in what + 1))
    ∷ on_answer true answers.Plain ∷ []

-- an exit takes down any page of its own process
abbrev pub takes_any : Who → What → List Arc
takes_any who what =
    on_event true (events.Unmap who.actor who.proc (page_in what)) (Taking 0) ∷ on_answer true answers.Plain ∷ []

-- so many words of a transfer are moved, out of so many
abbrev pub moved : (k all : ℕ) → Course
moved k all = if k == all then Closing answers.Words else Moved k

-- it has a word with this number, as at most 64 have one
abbrev pub has_word : List Part → (k : ℕ) → Bool
has_word parts k = nat_lt k most_words && nat_lt k (words_of parts)

abbrev pub moves : Who → (handle : ℕ) → (outward : Bool) → (slot : ℕ) → List Part → (k : ℕ) → What → List Arc
moves who handle outward slot parts k what =
    on_event (has_word parts k) (moves_word who.actor handle outward (word_at parts k) (slot + k) (value_in what))
    (moved (k + 1) (words_of parts))
    ∷ []

-- A fork: the next page is shared, or its first word is copied; or there is no further page, or no frame for one.
abbrev pub forks_on : Who → (child from : ℕ) → What → List Arc
forks_on who child from what =
    on_event (nat_le from (page_in what)) (events.ForkPage who.proc child (page_in what)) (Forking (page_in what + 1))
    ∷ on_event (nat_le from (page_in what)) (events.ForkWord who.proc child (page_in what) 0) (Copying (page_in what) 1)
    ∷ on_event true (events.ForkEnd who.proc child) (Closing answers.Plain)
    ∷ on_event true (events.ForkFail child) (Closing answers.NoFrame)
    ∷ []

-- a fork that copies a page, of which this word is the next
abbrev pub copied : (page word : ℕ) → Course
copied page word = if word == words then Forking (page + 1) else Copying page word

abbrev pub copies : Who → (child page word : ℕ) → List Arc
copies who child page word =
    on_event (nat_lt word words) (events.ForkWord who.proc child page word) (copied page (word + 1)) ∷ []

-- a pin that has taken k of its n pages tries the next one
abbrev pub tries : Who → (page n : ℕ) → Want → (k : ℕ) → (ℕ → Course) → Arc
tries who page n want k course =
    on_event (nat_lt k n) (events.PinTry who.actor who.proc (page + k) want.write) (course (k + 1))

-- or makes the handle of those, if there are any
abbrev pub made : (k n : ℕ) → Course
made k n = if k == n then Closing (answers.Pinned n) else Short k

abbrev pub makes : Who → (handle n k : ℕ) → Arc
makes who handle n k = on_event (nat_lt 0 k) (events.PinOk who.actor handle) (made k n)

-- it drops all that it has taken, the first of them first
abbrev pub dropped : (j k : ℕ) → Course
dropped j k = if j == k then Slow 0 else Dropping j k

abbrev pub drops : Who → (page j k : ℕ) → Arc
drops who page j k = on_event (nat_lt j k) (events.PinDrop who.actor (page + j)) (dropped (j + 1) k)

-- it has stopped at the mark of a page, with k pages before that
abbrev pub stopped : ℕ → Course
stopped zero = Slow 0
stopped k = Stopped k

abbrev pub stops : Who → (page k : ℕ) → Arc
stops who page k = on_event (nat_lt 0 k) (events.PinDrop who.actor (page + (k - 1))) (stopped (k - 1))

-- the walk goes on, or ends with all; or it has stopped, or drops all
abbrev pub walks : Who → (handle page n : ℕ) → Want → (k : ℕ) → List Arc
walks who handle page n want k =
    tries who page n want k Walking ∷ makes who handle n k ∷ stops who page k ∷ drops who page 0 k ∷ []

-- from the mark it goes on slowly, or drops all
abbrev pub goes_from_mark : Who → (handle page n : ℕ) → Want → (k : ℕ) → List Arc
goes_from_mark who handle page n want k =
    tries who page n want k Slow ∷ makes who handle n k ∷ drops who page 0 k ∷ []

-- an operation that is not at its beginning any more is not refused by a birth that fails
abbrev pub refuses_later : Op → Answer → Bool
refuses_later op answers.Unborn = false
refuses_later op answer = refuses op answer

-- at the first page of a pin that goes slowly it may be refused
abbrev pub refuses_at : Op → (k : ℕ) → Answer → Bool
refuses_at op zero answer = refuses_later op answer
refuses_at op k answer = false

abbrev pub goes_slowly : Who → Op → (handle page n : ℕ) → Want → (k : ℕ) → What → List Arc
goes_slowly who op handle page n want k what =
    tries who page n want k Slow ∷ makes who handle n k ∷ on_answer (refuses_at op k (answer_in what)) (answer_in what) ∷ []

-- what may refuse the next page
abbrev pub ends_pin : Want → Cause → Bool
ends_pin want (causes.Unmovable count) = want.long
ends_pin want cause = true

abbrev pub ends_short : (n : ℕ) → Want → (k : ℕ) → What → List Arc
ends_short n want k what = on_answer (ends_pin want (cause_in what)) (answers.Short k n (cause_in what)) ∷ []

-- a pin's first page is tried
abbrev pub first_try : (fast : Bool) → ℕ → Course
first_try true = Walking
first_try false = Slow

-- a fork begins, or its own process never came into being
abbrev pub begins_fork : Who → (child : ℕ) → List Arc
begins_fork who child =
    on_event true (events.ForkBegin who.proc child) (Forking 0)
    ∷ on_event true (events.ForkFail child) (Closing answers.Unborn)
    ∷ []

-- Of an operation that has said nothing yet. It may be refused, too.
abbrev pub begins : Who → Op → What → List Arc
begins who (Load page word) what =
    on_event true (events.Load who.actor who.proc page word (value_in what)) (Closing (answers.Value (value_in what))) ∷ []
begins who (Store page word value) what =
    on_event true (events.Store who.actor who.proc page word value) (Closing answers.Plain) ∷ []
begins who (Map page n rights) what =
    on_event true (events.Map who.actor who.proc page n rights) (Closing answers.Plain) ∷ []
begins who (Protect page n rights) what =
    on_event true (events.Protect who.actor who.proc page n rights) (Closing answers.Plain) ∷ []
begins who (Unmap page n) what = takes_down (events.Unmap who.actor who.proc) page (page + n) what
begins who (Discard page n) what = takes_down (events.Discard who.actor who.proc) page (page + n) what
begins who (Pin handle page n want fast) what = tries who page n want 0 (first_try fast) ∷ []
begins who (Unpin handle) what = on_event true (events.Unpin who.actor handle) (Closing answers.Plain) ∷ []
begins who (Give handle to) what = on_event true (events.Give who.actor handle to) (Closing answers.Plain) ∷ []
begins who (Take handle) what = on_event true (events.Take who.actor handle) (Closing answers.Plain) ∷ []
begins who (Get handle page) what = on_answer true answers.Plain ∷ []
begins who (Put handle) what = on_answer true answers.Plain ∷ []
begins who (Transfer handle outward slot parts) what = moves who handle outward slot parts 0 what
begins who (Mirror mirror proc page) what =
    on_event true (events.MirrorFill who.actor mirror proc page) (Closing answers.Plain) ∷ []
begins who (Look mirror word) what =
    on_event true (events.Look who.actor mirror word (value_in what)) (Closing (answers.Value (value_in what))) ∷ []
begins who (Move proc page zone) what = on_answer true answers.Plain ∷ []
begins who (Fork child) what = begins_fork who child
begins who Exit what = takes_any who what

abbrev pub refusal : Op → What → Arc
refusal op what = on_answer (refuses op (answer_in what)) (answer_in what)

-- Of one that has said something.
abbrev pub goes_on : Who → Op → Course → What → List Arc
goes_on who (Unmap page n) (Taking next) what = takes_down (events.Unmap who.actor who.proc) next (page + n) what
goes_on who (Discard page n) (Taking next) what = takes_down (events.Discard who.actor who.proc) next (page + n) what
goes_on who Exit (Taking next) what = takes_any who what
goes_on who (Transfer handle outward slot parts) (Moved k) what = moves who handle outward slot parts k what
goes_on who (Fork child) (Forking from) what = forks_on who child from what
goes_on who (Fork child) (Copying page word) what = copies who child page word
goes_on who (Pin handle page n want fast) (Walking k) what = walks who handle page n want k
goes_on who (Pin handle page n want fast) (Stopped k) what = goes_from_mark who handle page n want k
goes_on who (Pin handle page n want fast) (Dropping j k) what = drops who page j k ∷ []
goes_on who (Pin handle page n want fast) (Slow k) what =
    goes_slowly who (Pin handle page n want fast) handle page n want k what
goes_on who (Pin handle page n want fast) (Short k) what = ends_short n want k what
goes_on who op course what = []

abbrev pub arcs : Who → Op → Course → What → List Arc
arcs who op Start what = refusal op what ∷ begins who op what
arcs who op (Closing answer) what = on_answer true answer ∷ []
arcs who op course what = goes_on who op course what

-- the first of those that may come
abbrev pub taken : What → List Arc → Option Step
taken what [] = None
taken what (here ∷ later) = if here.allowed && same_what what here.what then Some here.step else taken what later

abbrev pub next_of : Who → Op → Course → What → Option Step
next_of who op course what = taken what (arcs who op course what)
