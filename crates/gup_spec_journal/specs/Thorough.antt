-- A journal of turns is thorough where no operation that goes page by page misses one: a turn without an event passes a
-- page that is not named, an exit takes down the lowest page and ends where none is named, and a pin is gone with the last of
-- its pages.
use Rattle.std.specs.Prelude.{◌≡◌, ℕ, ◌+◌, ◌<◌, List, length, Option, Some, None}
use Rattle.gup_plain.specs.Note.{NoteValue}
use Rattle.gup_plain.specs.State.{PlainState, objects_of}
use Rattle.gup_plain.specs.declared.event.PlainEvent.{PlainEvent}
use Rattle.gup_plain.specs.declared.event.PlainEvent.TheVariants as events
use Rattle.gup_plain.specs.declared.note.What.{What}
use Rattle.gup_plain.specs.declared.note.What.TheVariants.{Silent, Event, Done}
use Rattle.gup_script.specs.declared.op.Op.{Op}
use Rattle.gup_script.specs.declared.op.Op.TheVariants.{Unmap, Discard, Unpin, Exit}
use Rattle.gup_script.specs.Script.{ScriptValue}
use Rattle.gup_spec_journal.specs.Denial.{References}
use Rattle.gup_spec_journal.specs.Place.{Place, Doer}
use Rattle.gup_spec_journal.specs.Plain.{AreSo, judged_first}

-- the page that an unmapping takes down
abbrev pub page_in : PlainEvent → ℕ
page_in (events.Unmap actor proc page) = page
page_in e = 0

-- Where an operation goes page by page, a turn without an event passes a page that is not named. An exit passes none,
-- and ends where no page is named.
abbrev pub Passes : PlainState → ℕ → Op → (far : ℕ) → Type 0
Passes s p (Unmap page n) far = far < n → s.right p (page + far) ≡ None
Passes s p (Discard page n) far = far < n → s.right p (page + far) ≡ None
Passes s p Exit far = (page : ℕ) → s.right p page ≡ None
Passes s p op far = Unit {0}

-- The event is due at this place of its operation: an exit takes down the lowest page that is named, and a pin is gone
-- with the last of its pages.
abbrev pub IsDue : PlainState → ℕ → Op → (far : ℕ) → PlainEvent → Type 0
IsDue s p Exit far e = (page : ℕ) → page < page_in e → s.right p page ≡ None
IsDue s p (Unpin handle) far e = far + 1 ≡ length (objects_of (s.handle handle))
IsDue s p op far e = Unit {0}

-- the note of whoever does the operation misses no page
abbrev pub IsThoroughOf : PlainState → Doer → Place → Op → What → Type 0
IsThoroughOf s who place op Silent = Passes s who.proc op place.far
IsThoroughOf s who place op (Event e) = IsDue s who.proc op place.far e
IsThoroughOf s who place op (Done answer) = Passes s who.proc op place.far
IsThoroughOf s who place op what = Unit {0}

abbrev pub IsThoroughAt : PlainState → References → Doer → Place → Option Op → What → Type 0
IsThoroughAt s references who place (Some op) what = IsThoroughOf s who place op what
IsThoroughAt s references who place None what = Unit {0}

abbrev pub IsThorough : ScriptValue → List NoteValue → Type 0
IsThorough script notes = AreSo IsThoroughAt script (judged_first script) notes
