-- What mirror slots are to a state of the core machine, and what the calls make of it.
use Rattle.std.specs.Prelude.{◌≡◌, ℕ, if◌then◌else◌, Option, Some, None}
use Rattle.gup_plain.specs.State.{Noted}
use Rattle.gup_spec_events.specs.State.{CoreState}
use Rattle.gup_spec_events.specs.Event.{CoreEvent, happens}
use Rattle.gup_notify.specs.Mirrors.{Filled, MirrorsValue, is_of}

-- What a state has of a slot: the frame of a filled one, and what it was filled with last, which an empty one keeps. The
-- object noted there is a ghost: no slot has it.
abbrev pub IsMirror : Option Filled → (frame : Option ℕ) → Option Noted → Type 0
IsMirror None frame noted = frame ≡ None
IsMirror (Some filled) frame noted =
    (frame ≡ Some filled.frame)
    × ((it : Noted) × (noted ≡ Some it) × (it.proc ≡ filled.proc) × (it.page ≡ filled.page))

-- the state has these slots
abbrev pub ShowsMirrors : MirrorsValue → CoreState → Type 0
ShowsMirrors mirrors s = (m : ℕ) → IsMirror (mirrors m) (s.mirrored m) (s.slot m)

-- in whatever state they stand, the event leads from what was to what is
abbrev pub IsEvent : (old new : MirrorsValue) → CoreEvent → Type 0
IsEvent old new e = (s : CoreState) → ShowsMirrors old s → ShowsMirrors new (happens s e)

-- the state in which the slots with these pages are empty
abbrev pub invalidated : (p page n : ℕ) → MirrorsValue → CoreState → CoreState
invalidated p page n mirrors s =
    record s { mirrored = λ m. if is_of p page n (mirrors m) then None else s.mirrored m }

-- in whatever state they stand, emptying these leads from what was to what is
abbrev pub IsInvalidation : (p page n : ℕ) → (old new : MirrorsValue) → Type 0
IsInvalidation p page n old new = (s : CoreState) → ShowsMirrors old s → ShowsMirrors new (invalidated p page n old s)
