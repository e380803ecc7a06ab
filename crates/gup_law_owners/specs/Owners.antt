-- The events of a journal, and that in them each process owns its bytes.
use Rattle.std.specs.Prelude.{◌≡◌, ℕ, Bool, List, [], ◌∷◌, ◌++◌, Some}
use Rattle.gup_plain.specs.Note.{NoteValue}
use Rattle.gup_plain.specs.State.{plain_start}
use Rattle.gup_plain.specs.declared.event.PlainEvent.{PlainEvent}
use Rattle.gup_plain.specs.declared.note.What.{What}
use Rattle.gup_plain.specs.declared.note.What.TheVariants.{Event}
use Rattle.gup_exec_plain.specs.LastWrite.{after, written_by, last_written, Reads, Names, IsByOwner}

-- the event that a note tells, if it tells one, as a list
abbrev pub event_in : What → List PlainEvent
event_in (Event e) = e ∷ []
event_in what = []

-- the events of a journal, in its order
abbrev pub journal_events : List NoteValue → List PlainEvent
journal_events [] = []
journal_events (note ∷ notes) = event_in note.what ++ journal_events notes

-- In these events each process owns its bytes. The events start where some processes are born and all words are 0.
pub record OwnsBytes (is_born : ℕ → Bool) (events : List PlainEvent) : Type 0 where
  -- what an event reads of a word of an object was last written to that word by the events before it, or is 0
  pub reads : (front : List PlainEvent) (e : PlainEvent) (later : List PlainEvent) (o w value : ℕ) → events ≡ front ++ e ∷ later → Reads (after (plain_start is_born) front) e o w value → value ≡ last_written (plain_start is_born) front o w 0
  -- where an event writes to an object that a page of a process names then, or after any events later, it is the page's
  -- owner's: a store of the process to the page, a device's write through a pin of the object, or the fork of the process
  pub writes : (front : List PlainEvent) (e : PlainEvent) (middle later : List PlainEvent) (p page o w value : ℕ) → events ≡ front ++ e ∷ middle ++ later → written_by (after (plain_start is_born) front) e o w ≡ Some value → Names (after (plain_start is_born) (front ++ e ∷ middle)) p page o → IsByOwner (after (plain_start is_born) front) p page o e
