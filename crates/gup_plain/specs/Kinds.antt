-- How a `Note` keeps what happened: in one enum that has the parts of `What` side by side.
use Rattle.std.specs.Prelude.{◌≡◌, ℕ, refl}
use Rattle.gup_plain.specs.declared.answer.Answer.{Answer}
use Rattle.gup_plain.specs.declared.answer.Answer.TheVariants as answers
use Rattle.gup_plain.specs.declared.answer.Cause.{Cause}
use Rattle.gup_plain.specs.declared.answer.Cause.TheVariants as causes
use Rattle.gup_plain.specs.declared.event.PlainEvent.{PlainEvent}
use Rattle.gup_plain.specs.declared.event.PlainEvent.TheVariants as events
use Rattle.gup_plain.specs.declared.note.What.{What}
use Rattle.gup_plain.specs.declared.note.What.TheVariants as whats
use Rattle.gup_plain.specs.declared.note.Waiting.{Waiting}
use Rattle.gup_plain.specs.declared.note.Waiting.TheVariants as waitings
use Rattle.gup_plain.specs.declared.note.Kind.{Kind}
use Rattle.gup_plain.specs.declared.note.Kind.TheVariants as kinds
use Rattle.gup_plain.specs.declared.note.Note.TheInside.{Inside}
use Rattle.gup_plain.specs.Note.{NoteValue}
use Rattle.std.proofs.Common.{ap}

abbrev pub kind_of_waiting : Waiting → Kind
kind_of_waiting (waitings.Holder x) = kinds.WaitHolder x
kind_of_waiting (waitings.Handle x) = kinds.WaitHandle x
kind_of_waiting (waitings.Process x) = kinds.WaitProcess x

abbrev pub kind_of_event : PlainEvent → Kind
kind_of_event (events.Map actor proc page n rights) = kinds.Map actor proc rights n page
kind_of_event (events.Unmap actor proc page) = kinds.Unmap actor proc page
kind_of_event (events.Discard actor proc page) = kinds.Discard actor proc page
kind_of_event (events.Protect actor proc page n rights) = kinds.Protect actor proc rights n page
kind_of_event (events.Load actor proc page word value) = kinds.Load actor proc word page value
kind_of_event (events.Store actor proc page word value) = kinds.Store actor proc word page value
kind_of_event (events.PinTry actor proc page write) = kinds.PinTry actor proc write page
kind_of_event (events.PinDrop actor page) = kinds.PinDrop actor page
kind_of_event (events.PinOk actor handle) = kinds.PinOk actor handle
kind_of_event (events.Unpin actor handle) = kinds.Unpin actor handle
kind_of_event (events.Give actor handle to) = kinds.Give actor to handle
kind_of_event (events.Take actor handle) = kinds.Take actor handle
kind_of_event (events.MoveOut actor handle index slot value) = kinds.MoveOut actor handle index slot value
kind_of_event (events.MoveIn actor handle index slot value) = kinds.MoveIn actor handle index slot value
kind_of_event (events.MirrorFill actor mirror proc page) = kinds.MirrorFill actor proc mirror page
kind_of_event (events.Look actor mirror word value) = kinds.Look actor mirror word value
kind_of_event (events.ForkBegin parent child) = kinds.ForkBegin parent child
kind_of_event (events.ForkPage parent child page) = kinds.ForkPage parent child page
kind_of_event (events.ForkWord parent child page word) = kinds.ForkWord parent child word page
kind_of_event (events.ForkEnd parent child) = kinds.ForkEnd parent child
kind_of_event (events.ForkFail child) = kinds.ForkFail child

abbrev pub kind_of_short : ℕ → ℕ → Cause → Kind
kind_of_short got wanted causes.Missing = kinds.ShortMissing got wanted
kind_of_short got wanted causes.Forbidden = kinds.ShortForbidden got wanted
kind_of_short got wanted causes.NoFrame = kinds.ShortNoFrame got wanted
kind_of_short got wanted (causes.Unmovable count) = kinds.ShortUnmovable got wanted count

abbrev pub kind_of_answer : Answer → Kind
kind_of_answer answers.Plain = kinds.DonePlain
kind_of_answer answers.Words = kinds.DoneWords
kind_of_answer answers.Missing = kinds.DoneMissing
kind_of_answer answers.Forbidden = kinds.DoneForbidden
kind_of_answer answers.NoFrame = kinds.DoneNoFrame
kind_of_answer answers.NotHeld = kinds.DoneNotHeld
kind_of_answer answers.Range = kinds.DoneRange
kind_of_answer answers.Overlap = kinds.DoneOverlap
kind_of_answer answers.Full = kinds.DoneFull
kind_of_answer answers.Untouched = kinds.DoneUntouched
kind_of_answer answers.Stale = kinds.DoneStale
kind_of_answer answers.Unborn = kinds.DoneUnborn
kind_of_answer (answers.Value x) = kinds.DoneValue x
kind_of_answer (answers.Unmovable x) = kinds.DoneUnmovable x
kind_of_answer (answers.Busy x) = kinds.DoneBusy x
kind_of_answer (answers.Pinned n) = kinds.DonePinned n
kind_of_answer (answers.Short got wanted cause) = kind_of_short got wanted cause

abbrev pub kind_of : What → Kind
kind_of whats.Silent = kinds.Silent
kind_of whats.Idle = kinds.Idle
kind_of (whats.Wait w) = kind_of_waiting w
kind_of (whats.Event e) = kind_of_event e
kind_of (whats.Done a) = kind_of_answer a

abbrev pub what_of : Kind → What
what_of kinds.Silent = whats.Silent
what_of kinds.Idle = whats.Idle
what_of (kinds.WaitHolder x) = whats.Wait (waitings.Holder x)
what_of (kinds.WaitHandle x) = whats.Wait (waitings.Handle x)
what_of (kinds.WaitProcess x) = whats.Wait (waitings.Process x)
what_of (kinds.Map actor proc rights n page) = whats.Event (events.Map actor proc page n rights)
what_of (kinds.Unmap actor proc page) = whats.Event (events.Unmap actor proc page)
what_of (kinds.Discard actor proc page) = whats.Event (events.Discard actor proc page)
what_of (kinds.Protect actor proc rights n page) = whats.Event (events.Protect actor proc page n rights)
what_of (kinds.Load actor proc word page value) = whats.Event (events.Load actor proc page word value)
what_of (kinds.Store actor proc word page value) = whats.Event (events.Store actor proc page word value)
what_of (kinds.PinTry actor proc write page) = whats.Event (events.PinTry actor proc page write)
what_of (kinds.PinDrop actor page) = whats.Event (events.PinDrop actor page)
what_of (kinds.PinOk actor handle) = whats.Event (events.PinOk actor handle)
what_of (kinds.Unpin actor handle) = whats.Event (events.Unpin actor handle)
what_of (kinds.Give actor to handle) = whats.Event (events.Give actor handle to)
what_of (kinds.Take actor handle) = whats.Event (events.Take actor handle)
what_of (kinds.MoveOut actor handle index slot value) = whats.Event (events.MoveOut actor handle index slot value)
what_of (kinds.MoveIn actor handle index slot value) = whats.Event (events.MoveIn actor handle index slot value)
what_of (kinds.MirrorFill actor proc mirror page) = whats.Event (events.MirrorFill actor mirror proc page)
what_of (kinds.Look actor mirror word value) = whats.Event (events.Look actor mirror word value)
what_of (kinds.ForkBegin parent child) = whats.Event (events.ForkBegin parent child)
what_of (kinds.ForkPage parent child page) = whats.Event (events.ForkPage parent child page)
what_of (kinds.ForkWord parent child word page) = whats.Event (events.ForkWord parent child page word)
what_of (kinds.ForkEnd parent child) = whats.Event (events.ForkEnd parent child)
what_of (kinds.ForkFail child) = whats.Event (events.ForkFail child)
what_of kinds.DonePlain = whats.Done answers.Plain
what_of kinds.DoneWords = whats.Done answers.Words
what_of kinds.DoneMissing = whats.Done answers.Missing
what_of kinds.DoneForbidden = whats.Done answers.Forbidden
what_of kinds.DoneNoFrame = whats.Done answers.NoFrame
what_of kinds.DoneNotHeld = whats.Done answers.NotHeld
what_of kinds.DoneRange = whats.Done answers.Range
what_of kinds.DoneOverlap = whats.Done answers.Overlap
what_of kinds.DoneFull = whats.Done answers.Full
what_of kinds.DoneUntouched = whats.Done answers.Untouched
what_of kinds.DoneStale = whats.Done answers.Stale
what_of kinds.DoneUnborn = whats.Done answers.Unborn
what_of (kinds.DoneValue x) = whats.Done (answers.Value x)
what_of (kinds.DoneUnmovable x) = whats.Done (answers.Unmovable x)
what_of (kinds.DoneBusy x) = whats.Done (answers.Busy x)
what_of (kinds.DonePinned n) = whats.Done (answers.Pinned n)
what_of (kinds.ShortMissing got wanted) = whats.Done (answers.Short got wanted causes.Missing)
what_of (kinds.ShortForbidden got wanted) = whats.Done (answers.Short got wanted causes.Forbidden)
what_of (kinds.ShortNoFrame got wanted) = whats.Done (answers.Short got wanted causes.NoFrame)
what_of (kinds.ShortUnmovable got wanted count) = whats.Done (answers.Short got wanted (causes.Unmovable count))

abbrev pub note_value : Inside → NoteValue
note_value n = record { turn = n.turn; actor = n.actor; op = n.op; what = what_of n.kind }

abbrev pub fields_of : NoteValue → Inside
fields_of v = record { turn = v.turn; op = v.op; actor = v.actor; kind = kind_of v.what }

-- nothing is lost
pub kind_of-what_of : (k : Kind) → kind_of (what_of k) ≡ k
kind_of-what_of kinds.Silent = refl
kind_of-what_of kinds.Idle = refl
kind_of-what_of (kinds.WaitHolder x) = refl
kind_of-what_of (kinds.WaitHandle x) = refl
kind_of-what_of (kinds.WaitProcess x) = refl
kind_of-what_of (kinds.Map actor proc rights n page) = refl
kind_of-what_of (kinds.Unmap actor proc page) = refl
kind_of-what_of (kinds.Discard actor proc page) = refl
kind_of-what_of (kinds.Protect actor proc rights n page) = refl
kind_of-what_of (kinds.Load actor proc word page value) = refl
kind_of-what_of (kinds.Store actor proc word page value) = refl
kind_of-what_of (kinds.PinTry actor proc write page) = refl
kind_of-what_of (kinds.PinDrop actor page) = refl
kind_of-what_of (kinds.PinOk actor handle) = refl
kind_of-what_of (kinds.Unpin actor handle) = refl
kind_of-what_of (kinds.Give actor to handle) = refl
kind_of-what_of (kinds.Take actor handle) = refl
kind_of-what_of (kinds.MoveOut actor handle index slot value) = refl
kind_of-what_of (kinds.MoveIn actor handle index slot value) = refl
kind_of-what_of (kinds.MirrorFill actor proc mirror page) = refl
kind_of-what_of (kinds.Look actor mirror word value) = refl
kind_of-what_of (kinds.ForkBegin parent child) = refl
kind_of-what_of (kinds.ForkPage parent child page) = refl
kind_of-what_of (kinds.ForkWord parent child word page) = refl
kind_of-what_of (kinds.ForkEnd parent child) = refl
kind_of-what_of (kinds.ForkFail child) = refl
kind_of-what_of kinds.DonePlain = refl
kind_of-what_of kinds.DoneWords = refl
kind_of-what_of kinds.DoneMissing = refl
kind_of-what_of kinds.DoneForbidden = refl
kind_of-what_of kinds.DoneNoFrame = refl
kind_of-what_of kinds.DoneNotHeld = refl
kind_of-what_of kinds.DoneRange = refl
kind_of-what_of kinds.DoneOverlap = refl
kind_of-what_of kinds.DoneFull = refl
kind_of-what_of kinds.DoneUntouched = refl
kind_of-what_of kinds.DoneStale = refl
kind_of-what_of kinds.DoneUnborn = refl
kind_of-what_of (kinds.DoneValue x) = refl
kind_of-what_of (kinds.DoneUnmovable x) = refl
kind_of-what_of (kinds.DoneBusy x) = refl
kind_of-what_of (kinds.DonePinned x) = refl
kind_of-what_of (kinds.ShortMissing got wanted) = refl
kind_of-what_of (kinds.ShortForbidden got wanted) = refl
kind_of-what_of (kinds.ShortNoFrame got wanted) = refl
kind_of-what_of (kinds.ShortUnmovable got wanted count) = refl

-- and nothing is added
pub what_of-kind_of : (w : What) → what_of (kind_of w) ≡ w
what_of-kind_of whats.Silent = refl
what_of-kind_of whats.Idle = refl
what_of-kind_of (whats.Wait (waitings.Holder x)) = refl
what_of-kind_of (whats.Wait (waitings.Handle x)) = refl
what_of-kind_of (whats.Wait (waitings.Process x)) = refl
what_of-kind_of (whats.Event (events.Map actor proc page n rights)) = refl
what_of-kind_of (whats.Event (events.Unmap actor proc page)) = refl
what_of-kind_of (whats.Event (events.Discard actor proc page)) = refl
what_of-kind_of (whats.Event (events.Protect actor proc page n rights)) = refl
what_of-kind_of (whats.Event (events.Load actor proc page word value)) = refl
what_of-kind_of (whats.Event (events.Store actor proc page word value)) = refl
what_of-kind_of (whats.Event (events.PinTry actor proc page write)) = refl
what_of-kind_of (whats.Event (events.PinDrop actor page)) = refl
what_of-kind_of (whats.Event (events.PinOk actor handle)) = refl
what_of-kind_of (whats.Event (events.Unpin actor handle)) = refl
what_of-kind_of (whats.Event (events.Give actor handle to)) = refl
what_of-kind_of (whats.Event (events.Take actor handle)) = refl
what_of-kind_of (whats.Event (events.MoveOut actor handle index slot value)) = refl
what_of-kind_of (whats.Event (events.MoveIn actor handle index slot value)) = refl
what_of-kind_of (whats.Event (events.MirrorFill actor mirror proc page)) = refl
what_of-kind_of (whats.Event (events.Look actor mirror word value)) = refl
what_of-kind_of (whats.Event (events.ForkBegin parent child)) = refl
what_of-kind_of (whats.Event (events.ForkPage parent child page)) = refl
what_of-kind_of (whats.Event (events.ForkWord parent child page word)) = refl
what_of-kind_of (whats.Event (events.ForkEnd parent child)) = refl
what_of-kind_of (whats.Event (events.ForkFail child)) = refl
what_of-kind_of (whats.Done answers.Plain) = refl
what_of-kind_of (whats.Done answers.Words) = refl
what_of-kind_of (whats.Done answers.Missing) = refl
what_of-kind_of (whats.Done answers.Forbidden) = refl
what_of-kind_of (whats.Done answers.NoFrame) = refl
what_of-kind_of (whats.Done answers.NotHeld) = refl
what_of-kind_of (whats.Done answers.Range) = refl
what_of-kind_of (whats.Done answers.Overlap) = refl
what_of-kind_of (whats.Done answers.Full) = refl
what_of-kind_of (whats.Done answers.Untouched) = refl
what_of-kind_of (whats.Done answers.Stale) = refl
what_of-kind_of (whats.Done answers.Unborn) = refl
what_of-kind_of (whats.Done (answers.Value x)) = refl
what_of-kind_of (whats.Done (answers.Unmovable x)) = refl
what_of-kind_of (whats.Done (answers.Busy x)) = refl
what_of-kind_of (whats.Done (answers.Pinned x)) = refl
what_of-kind_of (whats.Done (answers.Short got wanted causes.Missing)) = refl
what_of-kind_of (whats.Done (answers.Short got wanted causes.Forbidden)) = refl
what_of-kind_of (whats.Done (answers.Short got wanted causes.NoFrame)) = refl
what_of-kind_of (whats.Done (answers.Short got wanted (causes.Unmovable count))) = refl

pub fields-note_value : (a : Inside) → fields_of (note_value a) ≡ a
fields-note_value a = ap (λ (k : Kind). record { turn = a.turn; op = a.op; actor = a.actor; kind = k }) (kind_of-what_of a.kind)
