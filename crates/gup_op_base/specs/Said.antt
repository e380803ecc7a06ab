-- What a turn says, and the notes that say it.
use Rattle.std.specs.Prelude.{◌≡◌, ℕ, ◌+◌, ◌≤◌, Bool, if◌then◌else◌, List, [], ◌∷◌, ◌++◌, length, Option, Some, None, is_some}
use Rattle.gup_plain.specs.Note.{JournalValue}
use Rattle.gup_plain.specs.declared.answer.Answer.{Answer}
use Rattle.gup_plain.specs.declared.answer.Answer.TheVariants as answers
use Rattle.gup_plain.specs.declared.event.PlainEvent.{PlainEvent}
use Rattle.gup_plain.specs.declared.event.PlainEvent.TheVariants as events
use Rattle.gup_plain.specs.declared.note.What.{What}
use Rattle.gup_plain.specs.declared.note.What.TheVariants.{Silent, Event, Done}
use Rattle.gup_spec_journal.specs.Follows.{notes_of_turn}
use Rattle.gup_op_base.specs.declared.said.Head.{Head}

-- What a turn of an operation says: the event that stands at it, if one does, a second one after that, and the answer, if the
-- turn ends the operation.
pub record Said : Type 0 where
  pub event : Option PlainEvent
  pub next : Option PlainEvent
  pub answer : Option Answer

-- a turn without an event that answers nothing is silent; a pin is made at an event of its own, after that of its page
abbrev pub answer_what : Option Answer → List What
answer_what None = []
answer_what (Some answer) = Done answer ∷ []

abbrev pub event_what : Option PlainEvent → List What → List What
event_what None whats = whats
event_what (Some event) whats = Event event ∷ whats

abbrev pub whats_by : (event next : Option PlainEvent) → Option Answer → List What
whats_by None None None = Silent ∷ []
whats_by event next answer = event_what event (event_what next (answer_what answer))

abbrev pub whats_of : Said → List What
whats_of said = whats_by said.event said.next said.answer

abbrev pub silent_said : Said
silent_said = record { event = None; next = None; answer = None }

abbrev pub happened_said : PlainEvent → Said
happened_said event = record { event = Some event; next = None; answer = None }

abbrev pub done_said : PlainEvent → Answer → Said
done_said event answer = record { event = Some event; next = None; answer = Some answer }

abbrev pub answered_said : Answer → Said
answered_said answer = record { event = None; next = None; answer = Some answer }

-- what the turn of one of several pages says: its event where it was mapped, and the answer at the last page
abbrev pub passed_said : (mapped : Bool) → PlainEvent → (last : Bool) → Said
passed_said mapped event last =
    record { event = if mapped then Some event else None; next = None; answer = if last then Some answers.Plain else None }

-- what a load says that reads this value, and what a store says
abbrev pub loaded_said : (a p page word value : ℕ) → Said
loaded_said a p page word value =
    record { event = Some (events.Load a p page word value); next = None; answer = Some (answers.Value value) }

abbrev pub stored_said : (a p page word value : ℕ) → Said
stored_said a p page word value =
    record { event = Some (events.Store a p page word value); next = None; answer = Some answers.Plain }

-- The notes that say this are put on at the journal's end, and what room there was is left or used by them.
pub record Tells (head : Head) (was now : JournalValue) (said : Said) : Type 0 where
  pub notes : now.notes ≡ was.notes ++ notes_of_turn head.turn head.actor head.op (whats_of said)
  pub kept : length was.notes + was.room ≤ length now.notes + now.room

-- Notes are put on that say what a turn does of which this is so; the turn ends its operation, or doesn't.
pub record TellsTurn (head : Head) (was now : JournalValue) (ended : Bool) (IsSo : Said → Type 0) : Type 0 where
  pub said : Said
  pub tells : Tells head was now said
  pub ends : ended ≡ is_some said.answer
  pub is_so : IsSo said
