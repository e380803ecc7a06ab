-- What a turn is: core events and notes, and what turns of several operations have in common.
use Rattle.std.specs.Prelude.{if◌then◌else◌, ℕ, ◌+◌, ◌==◌, Bool, false, List, [], ◌∷◌, Option, Some, None, Ok, Err}
use Rattle.gup_base.specs.declared.entry.Allowed.{Allowed}
use Rattle.gup_base.specs.declared.entry.Allowed.TheVariants.{Any, Only}
use Rattle.gup_base.specs.declared.entry.Entry.{Entry}
use Rattle.gup_base.specs.declared.entry.Want.{Want}
use Rattle.gup_base.specs.declared.entry.Zone.TheVariants.{Movable, Normal}
use Rattle.gup_plain.specs.Put.{lowest}
use Rattle.gup_plain.specs.declared.answer.Answer.{Answer}
use Rattle.gup_plain.specs.declared.answer.Answer.TheVariants as answers
use Rattle.gup_plain.specs.declared.note.What.{What}
use Rattle.gup_plain.specs.declared.note.What.TheVariants.{Silent, Done, Event}
use Rattle.gup_spec_events.specs.State.{CoreState}
use Rattle.gup_spec_events.specs.Event.{CoreEvent, has_tables}
use Rattle.gup_plain.specs.declared.event.PlainEvent.{PlainEvent}
use Rattle.gup_spec_events.specs.Fault.{Fault}

-- a turn: its core events in order, and its notes
pub record CoreTurn : Type 0 where
  pub events : List CoreEvent
  pub whats : List What

-- a turn that changes nothing and ends the operation
abbrev pub answers_with : Answer → CoreTurn
answers_with answer = record { events = []; whats = Done answer ∷ [] }

-- these events, the last of which is this plain event, end the operation with this answer
abbrev pub ends_with : List CoreEvent → PlainEvent → Answer → CoreTurn
ends_with events event answer = record { events = events; whats = Event event ∷ Done answer ∷ [] }

-- the turn, or what denies the operation
abbrev pub denied_or : (denied : Option Answer) → CoreTurn → CoreTurn
denied_or (Some denied) turn = answers_with denied
denied_or None turn = turn

-- the turn after the events of a fault, or what the fault is refused with
abbrev pub after_fault : Fault → (List CoreEvent → CoreTurn) → CoreTurn
after_fault (Err answer) turn = answers_with answer
after_fault (Ok before) turn = turn before

-- the lowest free frame of n from the first on
abbrev pub free_from : CoreState → (first n : ℕ) → Option ℕ
free_from s first n = lowest first n (λ f. s.count f == 0)

-- The frame that a turn takes from these zones: the lowest free one of the movable zone, else the lowest free one of the
-- normal zone. The movable frames have the lower numbers.
abbrev pub free_in : CoreState → Allowed → Option ℕ
free_in s Any = free_from s 0 (s.movable + s.normal)
free_in s (Only Movable) = free_from s 0 s.movable
free_in s (Only Normal) = free_from s s.movable s.normal

-- the frame that it takes for a page: none where the page lacks a table
abbrev pub frame_for : CoreState → (p page : ℕ) → Allowed → Option ℕ
frame_for s p page allowed = if has_tables s p page then free_in s allowed else None

-- the zones from which the pages of a pin take frames: a pin that is kept for long has none of the movable zone
abbrev pub zones_of : Want → Allowed
zones_of want = if want.long then Only Normal else Any

-- the frame of an entry
abbrev pub frame_in : Option Entry → ℕ
frame_in None = 0
frame_in (Some e) = e.frame

-- does the entry allow a store?
abbrev pub allows_store : Option Entry → Bool
allows_store None = false
allows_store (Some e) = e.writable

-- the last page's turn has the answer too
abbrev pub done_if : (last : Bool) → List What
done_if last = if last then Done answers.Plain ∷ [] else []

abbrev pub silent_or_done : (last : Bool) → List What
silent_or_done last = if last then Done answers.Plain ∷ [] else Silent ∷ []

abbrev pub entry_in : Option Entry → Entry
entry_in None = record { frame = 0; writable = false }
entry_in (Some e) = e
