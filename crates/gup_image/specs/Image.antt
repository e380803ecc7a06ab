-- The image of a machine: the facts of its parts.
use Rattle.std.specs.Prelude.{◌≡◌, ℕ, ◌<◌, ◌≤◌, Bool, true, false, List, [], ◌∷◌, ◌++◌, Option, Some, None, slice_get, zero, suc}
use Rattle.arrayvec.specs.ArrayVec.{ArrayVec}
use Rattle.gup_base.specs.declared.entry.Entry.{Entry}
use Rattle.gup_base.specs.declared.entry.Rights.{Rights}
use Rattle.gup_plain.specs.Event.{words, page_numbers}
use Rattle.gup_script.specs.Limits.{most_handles, most_mirrors}
use Rattle.gup_frames.specs.Frames.{FramesValue, frames_of, frames_in, IsFrame}
use Rattle.gup_space.specs.Space.{SpaceValue, SpaceParts, space_of}
use Rattle.gup_spec_tables.specs.declared.place.Place.{Place}
use Rattle.gup_tables.specs.Pool.{PoolValue}
use Rattle.gup_handles.specs.Handles.{HandleValue, unmade, held, given, got, gone, handles_of}
use Rattle.gup_notify.specs.Mirrors.{Filled as FilledSlot, mirrors_of}
use Rattle.gup_op_base.specs.declared.jobs.WalkPlace.{WalkPlace}
use Rattle.gup_op_base.specs.declared.jobs.WalkPlace.TheVariants.{Read, Grabbed, Rechecked, Dropping}
use Rattle.gup_op_base.specs.declared.jobs.JobPlace.{JobPlace}
use Rattle.gup_op_base.specs.declared.jobs.JobPlace.TheVariants.{Walking}
use Rattle.gup_op_waits.specs.declared.births.Birth.{Birth}
use Rattle.gup_op_waits.specs.declared.parts.Parts.{Parts}
use Rattle.gup_op_waits.specs.declared.seats.Seat.{Seat}
use Rattle.gup_image.specs.declared.fact.Fact.{Fact}
use Rattle.gup_image.specs.declared.fact.Fact.TheVariants.{Zones, Frame, Word, Process, Page, Used, Table, Retired, Pin, Pinned, Got, Gone, Taken, Stored, Filled, Stands}
use Rattle.gup_image.specs.Gathered.{gathered, along}

-- ---- frames: of a free one that nothing marks nothing is said, and of a word that is 0

abbrev pub frame_fact : (f count : ℕ) → (mark : Bool) → List Fact
frame_fact f zero false = []
frame_fact f zero true = Frame true f 0 ∷ []
frame_fact f (suc n) mark = Frame mark f (suc n) ∷ []

abbrev pub word_fact : (f w value : ℕ) → List Fact
word_fact f w zero = []
word_fact f w (suc n) = Word f w (suc n) ∷ []

abbrev pub words_of_frame : FramesValue → (f w : ℕ) → List Fact
words_of_frame s f w = word_fact f w (s.word f w)

abbrev pub frame_facts : FramesValue → (f : ℕ) → List Fact
frame_facts s f = frame_fact f (s.count f) (s.mark f) ++ gathered (words_of_frame s f) words

-- ---- page tables: those that are not free, and of a process where those of its tree stand, and those that it has taken out

abbrev pub used_fact : (free : Bool) → (table : ℕ) → List Fact
used_fact true table = []
used_fact false table = Used table ∷ []

abbrev pub used : PoolValue → (table : ℕ) → List Fact
used pool table = used_fact (pool.free table) table

abbrev pub place_fact : (p table : ℕ) → Option Place → List Fact
place_fact p table None = []
place_fact p table (Some place) = Table p place.level place.span table ∷ []

abbrev pub places : (p : ℕ) → SpaceValue → (table : ℕ) → List Fact
places p s table = place_fact p table (s.place table)

abbrev pub retired_fact : (p k table : ℕ) → List Fact
retired_fact p k table = Retired p k table ∷ []

-- ---- a process, its mapped pages, and its page tables, whose numbers are below a bound

abbrev pub page_fact : (p page : ℕ) → Option Rights → Option Entry → List Fact
page_fact p page None entry = []
page_fact p page (Some rights) entry = Page p rights entry page ∷ []

abbrev pub pages : (p : ℕ) → SpaceValue → (page : ℕ) → List Fact
pages p s page = page_fact p page (s.right page) (s.entry page)

abbrev pub process_facts : (tables p : ℕ) → Birth → SpaceValue → List Fact
process_facts tables p birth s =
    Process p birth s.has_pinned s.structure s.table s.pages s.sequence s.walks
    ∷ (gathered (pages p s) page_numbers ++ gathered (places p s) tables ++ along (retired_fact p) s.retired)

abbrev pub born_facts : (tables p : ℕ) → Option Birth → SpaceParts → List Fact
born_facts tables p None space = []
born_facts tables p (Some birth) space = process_facts tables p birth (space_of space)

-- ---- handles

abbrev pub handle_facts : (h : ℕ) → HandleValue → List Fact
handle_facts h unmade = []
handle_facts h (held by frames write) = Pin by false write h ∷ along (λ k frame. Pinned k frame h ∷ []) frames
handle_facts h (given to frames write) = Pin to true write h ∷ along (λ k frame. Pinned k frame h ∷ []) frames
handle_facts h (got by frame) = Got by frame h ∷ []
handle_facts h gone = Gone h ∷ []

-- ---- mirror slots

abbrev pub slot_fact : (m : ℕ) → Option FilledSlot → List Fact
slot_fact m None = []
slot_fact m (Some filled) = Filled m filled.proc filled.frame filled.page ∷ []

-- ---- actors: what their running pins have taken, their words, and where they stand

abbrev pub stored_fact : (a slot value : ℕ) → List Fact
stored_fact a slot zero = []
stored_fact a slot (suc n) = Stored a slot (suc n) ∷ []

abbrev pub store_facts : (a : ℕ) → Option (List ℕ) → List Fact
store_facts a None = []
store_facts a (Some items) = along (stored_fact a) items

-- the page of a walk, where its next turn rests on it, and else 0
abbrev pub read_page : WalkPlace → (page : ℕ) → ℕ
read_page (Read path entry) page = page
read_page (Grabbed path entry) page = page
read_page (Rechecked entry) page = page
read_page Dropping page = page
read_page place page = 0

abbrev pub read_job : JobPlace → JobPlace
read_job (Walking place page sequence) = Walking place (read_page place page) sequence
read_job job = job

abbrev pub seat_fact : (a : ℕ) → Seat → List Fact
seat_fact a seat = Stands a seat.far seat.answered (read_job seat.job) ∷ []

-- ---- all of them

abbrev pub zones_fact : FramesValue → List Fact
zones_fact s = Zones s.movable s.normal ∷ []

abbrev pub image_of : Parts → List (Option FilledSlot) → List Seat → PoolValue → List Fact
image_of parts mirrors seats pool =
    zones_fact (frames_of parts.frames)
    ++ gathered (frame_facts (frames_of parts.frames)) (frames_in (frames_of parts.frames))
    ++ along (λ p space. born_facts pool.tables p (slice_get parts.births.items p) space) parts.spaces.items
    ++ gathered (used pool) pool.tables
    ++ gathered (λ h. handle_facts h (handles_of parts.handles h)) most_handles
    ++ gathered (λ m. slot_fact m (mirrors_of mirrors m)) most_mirrors
    ++ along (λ a (pages : ArrayVec ℕ). along (λ k frame. Taken a k frame ∷ []) pages.items) parts.taken.items
    ++ along store_facts parts.stores.items
    ++ along seat_fact seats

-- Nothing is past what an image goes over: there are no other frames, words of a frame, handles and slots, and no other page table is free.
pub record HasNoMore (parts : Parts) (mirrors : List (Option FilledSlot)) (pool : PoolValue) : Type 0 where
  pub counted : (f : ℕ) → ((frames_of parts.frames).count f ≡ 0 → ⊥) → IsFrame (frames_of parts.frames) f
  pub marked : (f : ℕ) → (frames_of parts.frames).mark f ≡ true → IsFrame (frames_of parts.frames) f
  pub written : (f w : ℕ) → ((frames_of parts.frames).word f w ≡ 0 → ⊥) → IsFrame (frames_of parts.frames) f × (w < words)
  pub handles : (h : ℕ) → most_handles ≤ h → handles_of parts.handles h ≡ unmade
  pub slots : (m : ℕ) → most_mirrors ≤ m → mirrors_of mirrors m ≡ None
  pub free : (table : ℕ) → pool.tables ≤ table → pool.free table ≡ false
