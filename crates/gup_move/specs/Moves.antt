-- What a step of a move does to frames and to the process whose page is moved.
use Rattle.std.specs.Prelude.{◌≡◌, ℕ, List, [], ◌∷◌, Option, Some, None}
use Rattle.gup_base.specs.declared.entry.Allowed.{Allowed}
use Rattle.gup_base.specs.declared.entry.Allowed.TheVariants.{Any, Only}
use Rattle.gup_base.specs.declared.entry.Entry.{Entry}
use Rattle.gup_frames.specs.Frames.{FramesValue, zone_of, taken, copied, with_mark, without_references}
use Rattle.gup_space.specs.Shows.{Change, ShowsFrames, ShowsSpace}
use Rattle.gup_spec_events.specs.State.{CoreState, one}
use Rattle.gup_spec_events.specs.Event.{CoreEvent, take_frame, place_frame, put_entry, restore_entry, run}

-- the same change, where the process's table lock is held so after it
abbrev pub with_table : Option ℕ → Change → Change
with_table holder k = record k { new_space = record k.new_space { table = holder } }

-- In whatever state the frames and the process stand: these events lead from what was to what is.
abbrev pub AreMoveEvents : Change → (events : (p : ℕ) → List CoreEvent) → Type 0
AreMoveEvents k events =
    (s : CoreState) (p : ℕ) → ShowsFrames k.old_frames s → ShowsSpace p k.old_space s
    → ShowsFrames k.new_frames (run s (events p)) × ShowsSpace p k.new_space (run s (events p))

-- Frame f, which was free, has one reference, the mark and the words of the old frame. That one has a reference less,
-- and at its last one no mark.
abbrev pub moved : (old f : ℕ) → FramesValue → FramesValue
moved old f frames = without_references old 1 (copied old f (with_mark f (frames.mark old) (taken f frames)))

-- the frame is of the zones allowed
abbrev pub IsOfZones : FramesValue → Allowed → (f : ℕ) → Type 0
IsOfZones frames Any f = Unit {0}
IsOfZones frames (Only zone) f = zone_of frames f ≡ zone

-- The events of a page whose frame had the count 1: it is moved to a free frame, or its entry is put back.
abbrev pub places : (a p page : ℕ) → Entry → Allowed → (free : Option ℕ) → List CoreEvent
places a p page e allowed None = restore_entry a p page e allowed one ∷ []
places a p page e allowed (Some f) = take_frame a f ∷ place_frame a p page f e allowed ∷ put_entry a e.frame ∷ []
