-- What handles are to a state of the core machine, and which events their changes are.
use Rattle.std.specs.Prelude.{◌≡◌, ℕ, List, Option, Some, None}
use Rattle.gup_plain.specs.State as plain
use Rattle.gup_spec_events.specs.State.{CoreState}
use Rattle.gup_spec_events.specs.Event.{CoreEvent, happens, unpin_page, put_reference}
use Rattle.gup_handles.specs.Handles.{HandleValue, HandlesValue, unmade, held, given, got, gone, but_last}

-- What a state has of a handle: the plain handle, the frames of its pages, and the holder and frame of a reference. A pin
-- is of some objects. A reference that was put back is as one that was never got.
abbrev pub IsShown : HandleValue → plain.Handle → (pinned : List ℕ) → (reference : Option (ℕ × ℕ)) → Type 0
IsShown unmade handle pinned reference = (handle ≡ plain.unmade) × (reference ≡ None)
IsShown (held by frames write) handle pinned reference =
    ((objects : List ℕ) × (handle ≡ plain.held by objects write)) × (pinned ≡ frames) × (reference ≡ None)
IsShown (given to frames write) handle pinned reference =
    ((objects : List ℕ) × (handle ≡ plain.given to objects write)) × (pinned ≡ frames) × (reference ≡ None)
IsShown (got by frame) handle pinned reference = (handle ≡ plain.unmade) × (reference ≡ Some (by, frame))
IsShown gone handle pinned reference = (handle ≡ plain.gone) × (reference ≡ None)

-- the state has these handles
abbrev pub ShowsHandles : HandlesValue → CoreState → Type 0
ShowsHandles handles s = (h : ℕ) → IsShown (handles h) (s.handle h) (s.pinned h) (s.got h)

-- in whatever state they stand, the event leads from what was to what is
abbrev pub IsEvent : (old new : HandlesValue) → CoreEvent → Type 0
IsEvent old new e = (s : CoreState) → ShowsHandles old s → ShowsHandles new (happens s e)

-- the actor gives back the frame of the last page of its pin, or that of its reference
abbrev pub drops : (actor h frame : ℕ) → HandleValue → CoreEvent
drops actor h frame (held by frames write) = unpin_page actor h frame (but_last frames)
drops actor h frame handle = put_reference actor frame h
