-- The facts of each kind: what is true of all of them, and what of one that is there.
use Rattle.std.specs.Prelude.{slice_index}
use Rattle.std.proofs.Common.{◌≡◌, ℕ, zero, suc, Bool, true, false, List, [], ◌∷◌, slice_get, Option, Some, None, All, refl, sym, ap, ◌∙◌, subst, ◌⊎◌, inl, inr}
use Rattle.std.proofs.lemmas.List.Elements.{All-nil, All-cons, All-head, All-tail}
use Rattle.std.proofs.lemmas.Option.{none-some, same_Some}
use Rattle.gup_base.specs.declared.entry.Entry.{Entry}
use Rattle.gup_base.specs.declared.entry.Rights.{Rights}
use Rattle.arrayvec.specs.ArrayVec.{ArrayVec}
use Rattle.gup_frames.specs.Frames.{frames_of}
use Rattle.gup_space.specs.Space.{SpaceValue, SpaceParts, space_of}
use Rattle.gup_spec_tables.specs.declared.place.Place.{Place}
use Rattle.gup_tables.specs.Pool.{pool_of}
use Rattle.gup_handles.specs.Handles.{HandleValue, unmade, held, given, got, gone, handles_of}
use Rattle.gup_notify.specs.Mirrors.{Filled as FilledSlot, mirrors_of}
use Rattle.gup_op_base.specs.declared.jobs.JobPlace.{JobPlace}
use Rattle.gup_op_waits.specs.declared.seats.Seat.{Seat}
use Rattle.gup_op_pins.specs.Pins.{frames_in}
use Rattle.gup_image.specs.declared.fact.Fact.{Fact}
use Rattle.gup_image.specs.declared.fact.Fact.TheVariants.{Zones, Frame, Word, Process, Page, Used, Table, Retired, Pin, Pinned, Got, Gone, Taken, Stored, Filled, Stands}
use Rattle.gup_image.specs.Gathered.{along}
use Rattle.gup_image.specs.Image.{frame_fact, word_fact, page_fact, used_fact, place_fact, handle_facts, slot_fact, stored_fact, read_job}
use Rattle.gup_image.specs.Alike.{Imaged}
use Rattle.gup_image.proofs.GatheredFacts.{all_along, along_at}

-- a pin without its frames, and each other handle as it is
abbrev pub bare : HandleValue → HandleValue
bare unmade = unmade
bare (held by frames write) = held by [] write
bare (given to frames write) = given to [] write
bare (got by frame) = got by frame
bare gone = gone

-- and with these frames
abbrev pub with_frames : HandleValue → List ℕ → HandleValue
with_frames unmade pages = unmade
with_frames (held by frames write) pages = held by pages write
with_frames (given to frames write) pages = given to pages write
with_frames (got by frame) pages = got by frame
with_frames gone pages = gone

pub frames_back : (v : HandleValue) → v ≡ with_frames (bare v) (frames_in v)
frames_back unmade = refl
frames_back (held by frames write) = refl
frames_back (given to frames write) = refl
frames_back (got by frame) = refl
frames_back gone = refl

pub same_handle : (v w : HandleValue) → bare v ≡ bare w → frames_in v ≡ frames_in w → v ≡ w
same_handle v w same frames = frames_back v ∙ ap (λ (x : HandleValue). with_frames x (frames_in v)) same ∙ ap (with_frames (bare w)) frames ∙ sym (frames_back w)

-- a handle is unmade, or is not
pub unmade_or_not : (v : HandleValue) → (bare v ≡ unmade) ⊎ (bare v ≡ unmade → ⊥)
unmade_or_not unmade = inl refl
unmade_or_not (held by frames write) = inr (λ is. cc)
unmade_or_not (given to frames write) = inr (λ is. cc)
unmade_or_not (got by frame) = inr (λ is. cc)
unmade_or_not gone = inr (λ is. cc)

-- ---- what a fact says of a machine

-- whether the process has ever pinned, who holds its locks, how many of its pages are mapped, its sequence, and how many walks run
pub record IsProcess (space : SpaceValue) (pinned : Bool) (by table_by : Option ℕ) (many at running : ℕ) : Type 0 where
  pub has_pinned : space.has_pinned ≡ pinned
  pub structure : space.structure ≡ by
  pub table : space.table ≡ table_by
  pub pages : space.pages ≡ many
  pub sequence : space.sequence ≡ at
  pub walks : space.walks ≡ running

pub record IsPage (space : SpaceValue) (rights : Rights) (e : Option Entry) (page : ℕ) : Type 0 where
  pub right : space.right page ≡ Some rights
  pub entry : space.entry page ≡ e

pub record IsSeat (seat : Seat) (many ops : ℕ) (place : JobPlace) : Type 0 where
  pub far : seat.far ≡ many
  pub answered : seat.answered ≡ ops
  pub job : read_job seat.job ≡ place

abbrev pub IsTrueOf : Imaged → Fact → Type 0
IsTrueOf m (Zones movable normal) = ((frames_of m.parts.frames).movable ≡ movable) × ((frames_of m.parts.frames).normal ≡ normal)
IsTrueOf m (Frame mark f count) = ((frames_of m.parts.frames).count f ≡ count) × ((frames_of m.parts.frames).mark f ≡ mark)
IsTrueOf m (Word f w value) = (frames_of m.parts.frames).word f w ≡ value
IsTrueOf m (Process p birth has_pinned structure table pages sequence walks) =
    (slice_get m.parts.births.items p ≡ Some birth)
    × ((space : SpaceParts) → slice_get m.parts.spaces.items p ≡ Some space → IsProcess (space_of space) has_pinned structure table pages sequence walks)
IsTrueOf m (Page p rights entry page) = (space : SpaceParts) → slice_get m.parts.spaces.items p ≡ Some space → IsPage (space_of space) rights entry page
IsTrueOf m (Used table) = (pool_of m.pool).free table ≡ false
IsTrueOf m (Table p level span table) = (space : SpaceParts) → slice_get m.parts.spaces.items p ≡ Some space → (space_of space).place table ≡ Some (record { level = level; span = span })
IsTrueOf m (Retired p k table) = (space : SpaceParts) → slice_get m.parts.spaces.items p ≡ Some space → slice_get (space_of space).retired k ≡ Some table
IsTrueOf m (Pin by false write h) = bare (handles_of m.parts.handles h) ≡ held by [] write
IsTrueOf m (Pin to true write h) = bare (handles_of m.parts.handles h) ≡ given to [] write
IsTrueOf m (Pinned k frame h) = slice_get (frames_in (handles_of m.parts.handles h)) k ≡ Some frame
IsTrueOf m (Got by frame h) = bare (handles_of m.parts.handles h) ≡ got by frame
IsTrueOf m (Gone h) = bare (handles_of m.parts.handles h) ≡ gone
IsTrueOf m (Taken a k frame) = (pages : ArrayVec ℕ) → slice_get m.parts.taken.items a ≡ Some pages → slice_get pages.items k ≡ Some frame
IsTrueOf m (Stored a slot value) = (items : List ℕ) → slice_get m.parts.stores.items a ≡ Some (Some items) → slice_index items slot ≡ value
IsTrueOf m (Filled k proc frame page) = mirrors_of m.mirrors k ≡ Some (record { proc = proc; page = page; frame = frame })
IsTrueOf m (Stands a far answered job) = (seat : Seat) → slice_get m.seats a ≡ Some seat → IsSeat seat far answered job

-- ---- of each kind: the facts of what there is are true

module _ (P : Fact → Type 0) where
  pub alone : (x : Fact) → P x → All P (x ∷ [])
  alone x p = All-cons P x [] p (All-nil P)

  pub all_frame : (f count : ℕ) (mark : Bool) → P (Frame mark f count) → All P (frame_fact f count mark)
  all_frame f zero false p = All-nil P
  all_frame f zero true p = alone (Frame true f 0) p
  all_frame f (suc n) mark p = alone (Frame mark f (suc n)) p

  pub frame_there : (f count : ℕ) (mark : Bool) → ((count ≡ 0) × (mark ≡ false) → ⊥) → All P (frame_fact f count mark) → P (Frame mark f count)
  frame_there f zero false some all = absurd (some (refl, refl))
  frame_there f zero true some all = All-head P (Frame true f 0) [] all
  frame_there f (suc n) mark some all = All-head P (Frame mark f (suc n)) [] all

  pub all_word : (f w value : ℕ) → P (Word f w value) → All P (word_fact f w value)
  all_word f w zero p = All-nil P
  all_word f w (suc n) p = alone (Word f w (suc n)) p

  pub word_there : (f w value : ℕ) → (value ≡ 0 → ⊥) → All P (word_fact f w value) → P (Word f w value)
  word_there f w zero some all = absurd (some refl)
  word_there f w (suc n) some all = All-head P (Word f w (suc n)) [] all

  pub all_page : (p page : ℕ) (right : Option Rights) (entry : Option Entry) → ((rights : Rights) → right ≡ Some rights → P (Page p rights entry page)) → All P (page_fact p page right entry)
  all_page p page None entry each = All-nil P
  all_page p page (Some rights) entry each = alone (Page p rights entry page) (each rights refl)

  pub page_there : (p page : ℕ) (right : Option Rights) (entry : Option Entry) (rights : Rights) → right ≡ Some rights → All P (page_fact p page right entry) → P (Page p rights entry page)
  page_there p page None entry rights is all = absurd (none-some rights is)
  page_there p page (Some other) entry rights is all =
      subst (λ (r : Rights). P (Page p r entry page)) (same_Some other rights is) (All-head P (Page p other entry page) [] all)

  pub all_used : (table : ℕ) (free : Bool) → (free ≡ false → P (Used table)) → All P (used_fact free table)
  all_used table true used = All-nil P
  all_used table false used = alone (Used table) (used refl)

  pub used_there : (table : ℕ) (free : Bool) → free ≡ false → All P (used_fact free table) → P (Used table)
  used_there table true is all = absurd (cc)
  used_there table false is all = All-head P (Used table) [] all

  pub all_place : (p table : ℕ) (place : Option Place) → ((it : Place) → place ≡ Some it → P (Table p it.level it.span table)) → All P (place_fact p table place)
  all_place p table None each = All-nil P
  all_place p table (Some it) each = alone (Table p it.level it.span table) (each it refl)

  pub place_there : (p table : ℕ) (place : Option Place) (it : Place) → place ≡ Some it → All P (place_fact p table place) → P (Table p it.level it.span table)
  place_there p table None it is all = absurd (none-some it is)
  place_there p table (Some other) it is all =
      subst (λ (x : Place). P (Table p x.level x.span table)) (same_Some other it is) (All-head P (Table p other.level other.span table) [] all)

  pub all_slot : (k : ℕ) (slot : Option FilledSlot) → ((it : FilledSlot) → slot ≡ Some it → P (Filled k it.proc it.frame it.page)) → All P (slot_fact k slot)
  all_slot k None each = All-nil P
  all_slot k (Some it) each = alone (Filled k it.proc it.frame it.page) (each it refl)

  pub slot_there : (k : ℕ) (slot : Option FilledSlot) (it : FilledSlot) → slot ≡ Some it → All P (slot_fact k slot) → P (Filled k it.proc it.frame it.page)
  slot_there k None it is all = absurd (none-some it is)
  slot_there k (Some other) it is all =
      subst (λ (x : FilledSlot). P (Filled k x.proc x.frame x.page)) (same_Some other it is) (All-head P (Filled k other.proc other.frame other.page) [] all)

  pub all_stored : (a slot value : ℕ) → P (Stored a slot value) → All P (stored_fact a slot value)
  all_stored a slot zero p = All-nil P
  all_stored a slot (suc n) p = alone (Stored a slot (suc n)) p

  pub stored_there : (a slot value : ℕ) → (value ≡ 0 → ⊥) → All P (stored_fact a slot value) → P (Stored a slot value)
  stored_there a slot zero some all = absurd (some refl)
  stored_there a slot (suc n) some all = All-head P (Stored a slot (suc n)) [] all

-- ---- handles

-- the frames of a pin, one after another
abbrev pub pinned_facts : (h : ℕ) → List ℕ → List Fact
pinned_facts h frames = along (λ k frame. Pinned k frame h ∷ []) frames

frames_true : (m : Imaged) (h : ℕ) (frames : List ℕ) → frames_in (handles_of m.parts.handles h) ≡ frames → All (IsTrueOf m) (pinned_facts h frames)
frames_true m h frames is =
    all_along (IsTrueOf m) (λ k frame. Pinned k frame h ∷ []) frames
    (λ k frame here. alone (IsTrueOf m) (Pinned k frame h) (ap (λ (x : List ℕ). slice_get x k) is ∙ here))

pub handle_true : (m : Imaged) (h : ℕ) (v : HandleValue) → handles_of m.parts.handles h ≡ v → All (IsTrueOf m) (handle_facts h v)
handle_true m h unmade is = All-nil (IsTrueOf m)
handle_true m h (held by frames write) is =
    All-cons (IsTrueOf m) (Pin by false write h) (pinned_facts h frames) (ap bare is) (frames_true m h frames (ap frames_in is))
handle_true m h (given to frames write) is =
    All-cons (IsTrueOf m) (Pin to true write h) (pinned_facts h frames) (ap bare is) (frames_true m h frames (ap frames_in is))
handle_true m h (got by frame) is = alone (IsTrueOf m) (Got by frame h) (ap bare is)
handle_true m h gone is = alone (IsTrueOf m) (Gone h) (ap bare is)

-- a handle is as the facts of one that is made say
pub bare_told : (n : Imaged) (h : ℕ) (v : HandleValue) → (v ≡ unmade → ⊥) → All (IsTrueOf n) (handle_facts h v) → bare (handles_of n.parts.handles h) ≡ bare v
bare_told n h unmade made all = absurd (made refl)
bare_told n h (held by frames write) made all = All-head (IsTrueOf n) (Pin by false write h) (pinned_facts h frames) all
bare_told n h (given to frames write) made all = All-head (IsTrueOf n) (Pin to true write h) (pinned_facts h frames) all
bare_told n h (got by frame) made all = All-head (IsTrueOf n) (Got by frame h) [] all
bare_told n h gone made all = All-head (IsTrueOf n) (Gone h) [] all

-- and has its frames
pinned_told : (n : Imaged) (h : ℕ) (frames : List ℕ) (k f : ℕ) → slice_get frames k ≡ Some f → All (IsTrueOf n) (pinned_facts h frames) → slice_get (frames_in (handles_of n.parts.handles h)) k ≡ Some f
pinned_told n h frames k f here all =
    All-head (IsTrueOf n) (Pinned k f h) [] (along_at (IsTrueOf n) (λ j frame. Pinned j frame h ∷ []) frames k f here all)

pub frames_told : (n : Imaged) (h : ℕ) (v : HandleValue) (k f : ℕ) → slice_get (frames_in v) k ≡ Some f → All (IsTrueOf n) (handle_facts h v) → slice_get (frames_in (handles_of n.parts.handles h)) k ≡ Some f
frames_told n h unmade k f here all = absurd (none-some f here)
frames_told n h (held by frames write) k f here all =
    pinned_told n h frames k f here (All-tail (IsTrueOf n) (Pin by false write h) (pinned_facts h frames) all)
frames_told n h (given to frames write) k f here all =
    pinned_told n h frames k f here (All-tail (IsTrueOf n) (Pin to true write h) (pinned_facts h frames) all)
frames_told n h (got by frame) k f here all = absurd (none-some f here)
frames_told n h gone k f here all = absurd (none-some f here)
