-- What stores are to a state of the core machine, and what a turn of an operation on a pin or a reference that is there is
-- over.
use Rattle.std.specs.Prelude.{◌≡◌, ℕ, ◌<◌, List, length, slice_index, Option, Some, None}
use Rattle.gup_plain.specs.Event.{words}
use Rattle.gup_plain.specs.Put.{put}
use Rattle.gup_plain.specs.declared.answer.Answer.{Answer}
use Rattle.gup_plain.specs.declared.answer.Answer.TheVariants as answers
use Rattle.gup_plain.specs.declared.event.PlainEvent.{PlainEvent}
use Rattle.gup_plain.specs.declared.event.PlainEvent.TheVariants as events
use Rattle.gup_frames.specs.Frames.{FramesValue, FrameLists, frames_of, without_references}
use Rattle.gup_space.specs.Shows.{ShowsFrames}
use Rattle.gup_handles.specs.Handles.{HandleValue, HandlesValue, handles_of, gone, without_last, HasLast}
use Rattle.gup_spec_events.specs.State.{CoreState}
use Rattle.gup_spec_events.specs.Event.{bias}
use Rattle.gup_op_base.specs.Said.{Said, silent_said, done_said, answered_said}
use Rattle.gup_handles.specs.Shows.{ShowsHandles}

-- the actor has these words, if it has a store
abbrev pub ShowsStore : (a : ℕ) → Option (List ℕ) → CoreState → Type 0
ShowsStore a None s = Unit {0}
ShowsStore a (Some words) s = (slot : ℕ) → slot < length words → s.store a slot ≡ slice_index words slot

abbrev pub slots_in : Option (List ℕ) → ℕ
slots_in None = 0
slots_in (Some words) = length words

-- frames, pins, and the store of an actor
pub record HeldView : Type 0 where
  pub frames : FramesValue
  pub pins : HandlesValue
  pub store : Option (List ℕ)

abbrev pub held_view : FrameLists → List HandleValue → (store : Option (List ℕ)) → HeldView
held_view frames pins store = record { frames = frames_of frames; pins = handles_of pins; store = store }

-- the state has all that, of actor a
pub record ShowsHeld (a : ℕ) (view : HeldView) (s : CoreState) : Type 0 where
  pub frames : ShowsFrames view.frames s
  pub pins : ShowsHandles view.pins s
  pub store : ShowsStore a view.store s

-- ---- what such a turn changes, whatever state has all that, and whatever the other handles are

-- nothing changes, and this is answered
pub record IsRefused (old new : HeldView) (answer : Answer) (said : Said) : Type 0 where
  pub frames : new.frames ≡ old.frames
  pub pins : new.pins ≡ old.pins
  pub store : new.store ≡ old.store
  pub says : said ≡ answered_said answer

-- an unpin says nothing while the pin has pages, and ends where it is gone
abbrev pub unpin_said : HandleValue → (a handle : ℕ) → Said
unpin_said gone a handle = done_said (events.Unpin a handle) answers.Plain
unpin_said pin a handle = silent_said

-- The pin loses its last page, whose frame loses the weight of a pin; with the last of all it is gone.
pub record IsUnpin (old new : HeldView) (a handle : ℕ) (said : Said) : Type 0 where
  pub pins : new.pins ≡ put handle (without_last (old.pins handle)) old.pins
  pub frames : (frame : ℕ) × HasLast (old.pins handle) frame × (new.frames ≡ without_references frame bias old.frames)
  pub says : said ≡ unpin_said (new.pins handle) a handle

-- The handle becomes this one, no other does, and this event is said.
pub record IsDone (old new : HandlesValue) (handle : ℕ) (value : HandleValue) (event : PlainEvent) (said : Said) : Type 0 where
  pub pins : new ≡ put handle value old
  pub says : said ≡ done_said event answers.Plain
