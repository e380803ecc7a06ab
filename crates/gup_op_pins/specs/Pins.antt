-- What handles are of frames, and what a turn of a pin or of a get is over.
use Rattle.std.specs.Prelude.{◌≡◌, ℕ, ◌+◌, ◌<◌, ◌≤◌, Bool, true, false, List, [], ◌∷◌, ◌++◌, slice_get, length, Option, Some, None, IsSome, IfSome, zero, suc}
use Rattle.gup_base.specs.declared.entry.Allowed.{Allowed}
use Rattle.gup_base.specs.declared.entry.Entry.{Entry}
use Rattle.gup_base.specs.declared.entry.Want.{Want}
use Rattle.gup_plain.specs.Put.{put}
use Rattle.gup_plain.specs.declared.answer.Answer.{Answer}
use Rattle.gup_plain.specs.declared.answer.Answer.TheVariants as answers
use Rattle.gup_plain.specs.declared.event.PlainEvent.TheVariants as events
use Rattle.gup_plain.specs.declared.note.What.{What}
use Rattle.gup_plain.specs.declared.note.What.TheVariants.{Event, Done}
use Rattle.gup_frames.specs.Frames.{FramesValue, FrameLists, frames_of, IsFrame, with_references}
use Rattle.gup_space.specs.Space.{SpaceValue, SpaceParts, space_of, lacking, tables_in}
use Rattle.gup_spec_tables.specs.Paths.{KeepsPath}
use Rattle.gup_space.specs.Found.{found_for}
use Rattle.gup_space.specs.Shows.{ShowsFrames, ShowsSpace}
use Rattle.gup_handles.specs.Handles.{HandleValue, HandlesValue, handles_of, unmade, held, given, got, gone}
use Rattle.gup_handles.specs.Shows.{ShowsHandles}
use Rattle.gup_spec_events.specs.State.{CoreState, Taken, WalkStep, read, grabbed, rechecked}
use Rattle.gup_spec_events.specs.Event.{bias, taken_frames as frames_taken}
use Rattle.gup_spec_events.specs.Fault.{Fault, write_fault, unshare_fault}
use Rattle.gup_spec_events.specs.Invariant.{frame_of}
use Rattle.gup_spec_turns.specs.JobPlace.{JobPlace, place_in, unbegun, moving_page, in_walk}
use Rattle.gup_spec_turns.specs.PinPlace.{StandsPin, IsAtStep}
use Rattle.gup_op_base.specs.Turns.{IsTurnOf}
use Rattle.gup_op_base.specs.Jobs.{place_of}
use Rattle.gup_op_base.specs.declared.jobs.JobPlace.{JobPlace as KeptPlace}
use Rattle.gup_op_base.specs.declared.jobs.JobPlace.TheVariants.{Walking}
use Rattle.gup_op_base.specs.declared.jobs.WalkPlace.TheVariants.{Dropping}
use Rattle.gup_fast.specs.Walks.{at, dropped_at, last_of}
use Rattle.gup_op_pins.specs.declared.pins.PinCall.{PinCall}
use Rattle.gup_spec_turns.specs.PinTurns.{pinned_if, cause_of, pin_turn}

-- the frames of the pages that a pin still has
abbrev pub frames_in : HandleValue → List ℕ
frames_in (held by frames write) = frames
frames_in (given to frames write) = frames
frames_in unmade = []
frames_in (got by frame) = []
frames_in gone = []

-- each of them is there, and has the weight of a pin in its count
abbrev pub IsWeighed : FramesValue → HandleValue → Type 0
IsWeighed frames handle =
    (k f : ℕ) → slice_get (frames_in handle) k ≡ Some f → IsFrame frames f × (bias ≤ frames.count f)

-- the frame of a got reference is there, and has one
abbrev pub IsReferred : FramesValue → HandleValue → Type 0
IsReferred frames (got by frame) = IsFrame frames frame × (1 ≤ frames.count frame)
IsReferred frames handle = Unit {0}

-- has-pinned is set before the first page of a pin is tried; one that walks has set it before its walk
abbrev pub raised : (many : ℕ) → (fast : Bool) → SpaceValue → SpaceValue
raised zero false space = record space { has_pinned = true }
raised many fast space = space

-- the fault of a page of a pin, by what it finds of frames and the process
abbrev pub fault_to_pin : FramesValue → SpaceValue → (a p page : ℕ) → (write : Bool) → Allowed → Fault
fault_to_pin frames space a p page true allowed =
    write_fault a p page (space.right page) (space.entry page) frames.mark frames.count (found_for frames space page allowed)
fault_to_pin frames space a p page false allowed =
    unshare_fault a p page (space.right page) (space.entry page) frames.mark frames.count (found_for frames space page allowed)

-- what a pin of this kind asks for, that isn't long-term
abbrev pub want_of : (write : Bool) → Want
want_of write = record { write = write; long = false }

-- the last of the pages that a walk has left to drop
abbrev pub last_page : KeptPlace → Option ℕ
last_page (Walking Dropping page sequence) = Some page
last_page place = None

-- the pages taken are those up to this one, if they end at one
abbrev pub EndAt : Option ℕ → List Taken → Type 0
EndAt None taken = Unit {0}
EndAt (Some last) taken =
    (k : ℕ) (t : Taken) → slice_get taken k ≡ Some t → t.page + length taken ≡ last + 1 + k

-- frames, a process, pins, what an actor's running pin has taken, where that stands, and the last page that it has left to drop
pub record PinningView : Type 0 where
  pub frames : FramesValue
  pub space : SpaceValue
  pub pins : HandlesValue
  pub taken : List ℕ
  pub place : JobPlace
  pub last : Option ℕ

abbrev pub pinning_view : FrameLists → SpaceParts → List HandleValue → (taken : List ℕ) → KeptPlace → PinningView
pinning_view frames space pins taken place =
    record {
      frames = frames_of frames;
      space = space_of space;
      pins = handles_of pins;
      taken = taken;
      place = place_of place;
      last = last_page place;
    }

-- the state has all that, of actor a and process p
pub record ShowsPinning (a p : ℕ) (view : PinningView) (s : CoreState) : Type 0 where
  pub frames : ShowsFrames view.frames s
  pub space : ShowsSpace p view.space s
  pub pins : ShowsHandles view.pins s
  pub taken : frames_taken (s.taken a) ≡ view.taken
  pub place : place_in s a ≡ view.place
  pub last : EndAt view.last (s.taken a)

-- What a pin finds where it stands at this page. One that has cleared its entry is for long, and the process has pinned; the page is
-- mapped, has no entry and lacks none of its page tables, and the frame of the one that was cleared is there, not free, marked, and
-- right for the pin.
pub record IsCleared (frames : FramesValue) (page : ℕ) (want : Want) (e : Entry) (space : SpaceValue) : Type 0 where
  pub long : want.long ≡ true
  pub pinned : space.has_pinned ≡ true
  pub mapped : IsSome (space.right page)
  pub absent : space.entry page ≡ None
  pub path : lacking space page ≡ 0
  pub there : IsFrame frames e.frame
  pub held : frames.count e.frame ≡ 0 → ⊥
  pub marked : frames.mark e.frame ≡ true
  pub may : want.write ≡ true → e.writable ≡ true

-- the frame is there, and has the weight of a pin in its count
abbrev pub IsPinnedFrame : FramesValue → (frame : ℕ) → Type 0
IsPinnedFrame frames f = IsFrame frames f × (bias ≤ frames.count f)

-- What the next step of a walk, which has taken these frames, finds of frames and the process: the frame of an entry that was
-- read is there, and one that is to be dropped has the weight of a pin. The tables of a path that is read again stand where they
-- stood, or were taken out.
abbrev pub IsReadyToWalk : FramesValue → SpaceValue → (taken : List ℕ) → WalkStep → Type 0
IsReadyToWalk frames space taken (read g path e) = IsFrame frames e.frame
IsReadyToWalk frames space taken (grabbed g path e) = KeepsPath (tables_in space) path g
IsReadyToWalk frames space taken (rechecked g e) = IsFrame frames e.frame × (last_of taken ≡ Some e.frame)
IsReadyToWalk frames space taken step = IfSome (dropped_at (at step) taken) (IsPinnedFrame frames)

-- Of a pin of n pages, which has taken these frames, the next one after which is this page. Nobody holds the table lock where a
-- page is to be made ready; a turn that begins a walk needs none.
abbrev pub IsReadyToPin : FramesValue → (taken : List ℕ) → (page n : ℕ) → Want → (begins : Bool) → JobPlace → SpaceValue → Type 0
IsReadyToPin frames taken page n want begins unbegun space = begins ≡ false → space.table ≡ None
IsReadyToPin frames taken page n want begins (moving_page g e count) space =
    (g ≡ page) × IsCleared frames page want e space
IsReadyToPin frames taken page n want begins (in_walk sequence step) space =
    IsAtStep page n (length taken) step × IsReadyToWalk frames space taken step
IsReadyToPin frames taken page n want begins place space = ⊥

-- a pin that walks is counted among the walks of its process
abbrev pub IsCountedWalk : JobPlace → SpaceValue → Type 0
IsCountedWalk (in_walk sequence step) space = 0 < space.walks
IsCountedWalk place space = Unit {0}

-- all pages of a pin are taken in a walk alone
abbrev pub IsWithinPin : (n many : ℕ) → JobPlace → Type 0
IsWithinPin n many (in_walk sequence step) = many ≤ n
IsWithinPin n many place = many < n

-- what a page that is taken makes of pins and of what was taken: the last one's is the handle's
abbrev pub IsMade : (last : Bool) → (old_pins new_pins : HandlesValue) → (old_taken new_taken : List ℕ) → (a handle frame : ℕ) → (write : Bool) → Type 0
IsMade true old_pins new_pins old_taken new_taken a handle frame write =
    (old_pins handle ≡ unmade) × (new_pins ≡ put handle (held a (old_taken ++ frame ∷ []) write) old_pins) × (new_taken ≡ [])
IsMade false old_pins new_pins old_taken new_taken a handle frame write =
    (new_pins ≡ old_pins) × (new_taken ≡ old_taken ++ frame ∷ [])

-- and one that is refused: a pin that has pages has those
abbrev pub IsEnded : (far : ℕ) → (old_pins new_pins : HandlesValue) → (old_taken new_taken : List ℕ) → (a handle : ℕ) → (write : Bool) → Type 0
IsEnded zero old_pins new_pins old_taken new_taken a handle write = (new_pins ≡ old_pins) × (new_taken ≡ old_taken)
IsEnded (suc far) old_pins new_pins old_taken new_taken a handle write =
    (old_pins handle ≡ unmade) × (new_pins ≡ put handle (held a old_taken write) old_pins) × (new_taken ≡ [])

-- what the turn of such a page says
abbrev pub tried_whats : (last : Bool) → (a p handle page n : ℕ) → (write : Bool) → List What
tried_whats last a p handle page n write = Event (events.PinTry a p page write) ∷ pinned_if last a handle n

abbrev pub ended_whats : (a handle n far : ℕ) → Answer → List What
ended_whats a handle n zero answer = Done answer ∷ []
ended_whats a handle n (suc far) answer =
    Event (events.PinOk a handle) ∷ Done (answers.Short (suc far) n (cause_of answer)) ∷ []

-- the frame of a page that a pin takes
pub record IsTaken (frames new_frames : FramesValue) (space new_space : SpaceValue) (page frame : ℕ) : Type 0 where
  pub frame_is : frame_of (space.entry page) ≡ Some frame
  pub frames_are : new_frames ≡ with_references frame 1024 frames
  pub space_is : new_space ≡ record space { has_pinned = true }

-- The pin, of which so many turns are over, has got so many pages and stands at the next one. After its first turn the process
-- has pinned.
pub record StandsAtPage (a p handle page n : ℕ) (want : Want) (fast : Bool) (many far : ℕ) (s : CoreState) : Type 0 where
  pub at : StandsPin s a p handle page n want fast many
  pub flagged : 0 < many + far → s.has_pinned p ≡ true

-- what a turn of this pin makes of all that
abbrev pub IsPinTurn : (a : ℕ) → PinCall → (many far : ℕ) → (old new : PinningView) → List What → Type 0
IsPinTurn a call many far old new whats =
    IsTurnOf (ShowsPinning a call.proc) (StandsAtPage a call.proc call.handle call.page call.n call.want call.fast many far)
    old new (λ s. pin_turn s a call.proc call.handle call.page call.n call.want call.fast far) whats
