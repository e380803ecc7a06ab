-- What an image tells of another machine, of which each of its facts is true, too.
use Rattle.std.specs.Prelude.{slice_index}
use Rattle.std.proofs.Common.{◌≡◌, ℕ, ◌<◌, ◌||◌, Bool, true, false, is_some, List, [], ◌∷◌, ◌++◌, slice_get, Option, Some, All, refl, sym, ap, ◌∙◌, subst}
use Rattle.std.proofs.lemmas.List.Elements.{All-head, All-tail}
use Rattle.std.proofs.lemmas.Option.{none-some}
use Rattle.arrayvec.specs.ArrayVec.{ArrayVec}
use Rattle.gup_base.specs.declared.entry.Rights.{Rights}
use Rattle.gup_plain.specs.Event.{words, page_numbers}
use Rattle.gup_script.specs.Limits.{most_handles, most_mirrors}
use Rattle.gup_frames.specs.Frames.{FramesValue, frames_of, frames_in, IsFrame}
use Rattle.gup_space.specs.Space.{SpaceValue, SpaceParts, space_of}
use Rattle.gup_spec_tables.specs.Tables.{is_among}
use Rattle.gup_spec_tables.specs.declared.place.Place.{Place}
use Rattle.gup_tables.specs.Pool.{pool_of}
use Rattle.gup_handles.specs.Handles.{HandleValue, unmade, handles_of}
use Rattle.gup_notify.specs.Mirrors.{Filled as FilledSlot, mirrors_of}
use Rattle.gup_op_pins.specs.Pins.{frames_in as pages_in}
use Rattle.gup_op_waits.specs.declared.births.Birth.{Birth}
use Rattle.gup_op_waits.specs.declared.seats.Seat.{Seat}
use Rattle.gup_image.specs.declared.fact.Fact.TheVariants.{Zones, Process, Retired, Taken, Stands}
use Rattle.gup_image.specs.Gathered.{gathered, along}
use Rattle.gup_image.specs.Image.{frame_fact, word_fact, frame_facts, page_fact, process_facts, born_facts, used, places, retired_fact, handle_facts, slot_fact, stored_fact, store_facts, read_job, seat_fact}
use Rattle.gup_image.specs.Alike.{Imaged, IsWhole}
use Rattle.gup_image.proofs.GatheredFacts.{all_left, all_right, gathered_at, along_at, inside_or_past, read_here}
use Rattle.gup_image.proofs.Facts.{IsTrueOf, IsProcess, IsPage, IsSeat, bare, frame_there, word_there, page_there, used_there, place_there, slot_there, stored_there, bare_told, frames_told}
use Rattle.gup_image.proofs.Whole.{AreSaid, space_facts, taken_facts}

-- a mark that is not missing is there
marked_true : (b : Bool) → (b ≡ false → ⊥) → b ≡ true
marked_true true marked = refl
marked_true false marked = absurd (marked refl)

-- an unmade handle has no frames
unpaged : (v : HandleValue) (k f : ℕ) → v ≡ unmade → slice_get (pages_in v) k ≡ Some f → ⊥
unpaged v k f is here = none-some f (ap (λ (x : HandleValue). slice_get (pages_in x) k) (sym is) ∙ here)

-- each fact of m is true of n
module _ (n m : Imaged) (whole : IsWhole m) (said : AreSaid (IsTrueOf n) m) where
  -- ---- frames

  pub zones_told : ((frames_of n.parts.frames).movable ≡ (frames_of m.parts.frames).movable) × ((frames_of n.parts.frames).normal ≡ (frames_of m.parts.frames).normal)
  zones_told = All-head (IsTrueOf n) (Zones (frames_of m.parts.frames).movable (frames_of m.parts.frames).normal) [] said.zones

  frame_said : (f : ℕ) → IsFrame (frames_of m.parts.frames) f → All (IsTrueOf n) (frame_facts (frames_of m.parts.frames) f)
  frame_said f within = gathered_at (IsTrueOf n) (frame_facts (frames_of m.parts.frames)) (frames_in (frames_of m.parts.frames)) f within said.frames

  held_told : (f : ℕ) → IsFrame (frames_of m.parts.frames) f → (((frames_of m.parts.frames).count f ≡ 0) × ((frames_of m.parts.frames).mark f ≡ false) → ⊥)
      → ((frames_of n.parts.frames).count f ≡ (frames_of m.parts.frames).count f) × ((frames_of n.parts.frames).mark f ≡ (frames_of m.parts.frames).mark f)
  held_told f within some =
      let F : FramesValue = frames_of m.parts.frames in
      frame_there (IsTrueOf n) f (F.count f) (F.mark f) some
      (all_left (IsTrueOf n) (frame_fact f (F.count f) (F.mark f)) (gathered (λ w. word_fact f w (F.word f w)) words) (frame_said f within))

  pub count_told : (f : ℕ) → ((frames_of m.parts.frames).count f ≡ 0 → ⊥) → (frames_of n.parts.frames).count f ≡ (frames_of m.parts.frames).count f
  count_told f some = (held_told f (whole.more.counted f some) (λ none. some none.0)).0

  pub mark_told : (f : ℕ) → ((frames_of m.parts.frames).mark f ≡ false → ⊥) → (frames_of n.parts.frames).mark f ≡ (frames_of m.parts.frames).mark f
  mark_told f some = (held_told f (whole.more.marked f (marked_true ((frames_of m.parts.frames).mark f) some)) (λ none. some none.1)).1

  pub word_told : (f w : ℕ) → ((frames_of m.parts.frames).word f w ≡ 0 → ⊥) → (frames_of n.parts.frames).word f w ≡ (frames_of m.parts.frames).word f w
  word_told f w some =
      let F : FramesValue = frames_of m.parts.frames in
      let within : IsFrame F f × (w < words) = whole.more.written f w some in
      word_there (IsTrueOf n) f w (F.word f w) some
      (gathered_at (IsTrueOf n) (λ v. word_fact f v (F.word f v)) words w within.1
      (all_right (IsTrueOf n) (frame_fact f (F.count f) (F.mark f)) (gathered (λ v. word_fact f v (F.word f v)) words) (frame_said f within.0)))

  -- ---- processes

  process_said : (p : ℕ) (space : SpaceParts) (birth : Birth) → slice_get m.parts.spaces.items p ≡ Some space → slice_get m.parts.births.items p ≡ Some birth → All (IsTrueOf n) (process_facts (pool_of m.pool).tables p birth (space_of space))
  process_said p space birth here is =
      subst (λ (o : Option Birth). All (IsTrueOf n) (born_facts (pool_of m.pool).tables p o space)) is
      (along_at (IsTrueOf n) (λ q it. born_facts (pool_of m.pool).tables q (slice_get m.parts.births.items q) it) m.parts.spaces.items p space here said.processes)

  pub process_told : (p : ℕ) (space : SpaceParts) (birth : Birth) → slice_get m.parts.spaces.items p ≡ Some space → slice_get m.parts.births.items p ≡ Some birth
      → (slice_get n.parts.births.items p ≡ Some birth)
      × ((other : SpaceParts) → slice_get n.parts.spaces.items p ≡ Some other → IsProcess (space_of other) (space_of space).has_pinned (space_of space).structure (space_of space).table (space_of space).pages (space_of space).sequence (space_of space).walks)
  process_told p space birth here is =
      let s : SpaceValue = space_of space in
      All-head (IsTrueOf n) (Process p birth s.has_pinned s.structure s.table s.pages s.sequence s.walks) (space_facts (pool_of m.pool).tables p s) (process_said p space birth here is)

  -- and so are those behind its first
  space_said : (p : ℕ) (space : SpaceParts) (birth : Birth) → slice_get m.parts.spaces.items p ≡ Some space → slice_get m.parts.births.items p ≡ Some birth → All (IsTrueOf n) (space_facts (pool_of m.pool).tables p (space_of space))
  space_said p space birth here is =
      let s : SpaceValue = space_of space in
      All-tail (IsTrueOf n) (Process p birth s.has_pinned s.structure s.table s.pages s.sequence s.walks) (space_facts (pool_of m.pool).tables p s) (process_said p space birth here is)

  module _ (p : ℕ) (space other : SpaceParts) (birth : Birth) (here : slice_get m.parts.spaces.items p ≡ Some space) (is : slice_get m.parts.births.items p ≡ Some birth) (there : slice_get n.parts.spaces.items p ≡ Some other) where
    mapped_said : All (IsTrueOf n) (gathered (λ g. page_fact p g ((space_of space).right g) ((space_of space).entry g)) page_numbers ++ gathered (places p (space_of space)) (pool_of m.pool).tables)
    mapped_said =
        let s : SpaceValue = space_of space in
        all_left (IsTrueOf n) (gathered (λ g. page_fact p g (s.right g) (s.entry g)) page_numbers ++ gathered (places p s) (pool_of m.pool).tables) (along (retired_fact p) s.retired) (space_said p space birth here is)

    pub page_told : (page : ℕ) (rights : Rights) → (space_of space).right page ≡ Some rights → IsPage (space_of other) rights ((space_of space).entry page) page
    page_told page rights mapped =
        let s : SpaceValue = space_of space in
        page_there (IsTrueOf n) p page (s.right page) (s.entry page) rights mapped
        (gathered_at (IsTrueOf n) (λ g. page_fact p g (s.right g) (s.entry g)) page_numbers page (whole.numbered p space here page rights mapped)
        (all_left (IsTrueOf n) (gathered (λ g. page_fact p g (s.right g) (s.entry g)) page_numbers) (gathered (places p s) (pool_of m.pool).tables) mapped_said))
        other there

    -- a table that stands somewhere is the pool's
    table_within : (table : ℕ) (it : Place) → (space_of space).place table ≡ Some it → table < (pool_of m.pool).tables
    table_within table it at = whole.tables p space here table (ap (λ (o : Option Place). is_some o || is_among (space_of space).retired table) at)

    pub place_told : (table : ℕ) (it : Place) → (space_of space).place table ≡ Some it → (space_of other).place table ≡ Some it
    place_told table it at =
        let s : SpaceValue = space_of space in
        place_there (IsTrueOf n) p table (s.place table) it at
        (gathered_at (IsTrueOf n) (places p s) (pool_of m.pool).tables table (table_within table it at)
        (all_right (IsTrueOf n) (gathered (λ g. page_fact p g (s.right g) (s.entry g)) page_numbers) (gathered (places p s) (pool_of m.pool).tables) mapped_said))
        other there

    pub retired_told : (k table : ℕ) → slice_get (space_of space).retired k ≡ Some table → slice_get (space_of other).retired k ≡ Some table
    retired_told k table waits =
        let s : SpaceValue = space_of space in
        All-head (IsTrueOf n) (Retired p k table) []
        (along_at (IsTrueOf n) (retired_fact p) s.retired k table waits
        (all_right (IsTrueOf n) (gathered (λ g. page_fact p g (s.right g) (s.entry g)) page_numbers ++ gathered (places p s) (pool_of m.pool).tables) (along (retired_fact p) s.retired) (space_said p space birth here is)))
        other there

  -- ---- page tables

  pub used_told : (table : ℕ) → table < (pool_of m.pool).tables → (pool_of m.pool).free table ≡ false → (pool_of n.pool).free table ≡ false
  used_told table within is =
      used_there (IsTrueOf n) table ((pool_of m.pool).free table) is
      (gathered_at (IsTrueOf n) (used (pool_of m.pool)) (pool_of m.pool).tables table within said.used)

  -- ---- handles

  handle_said : (h : ℕ) → (handles_of m.parts.handles h ≡ unmade → ⊥) → All (IsTrueOf n) (handle_facts h (handles_of m.parts.handles h))
  handle_said h made =
      gathered_at (IsTrueOf n) (λ k. handle_facts k (handles_of m.parts.handles k)) most_handles h (inside_or_past most_handles h (λ past. made (whole.more.handles h past))) said.handles

  pub handle_told : (h : ℕ) → (bare (handles_of m.parts.handles h) ≡ unmade → ⊥) → bare (handles_of n.parts.handles h) ≡ bare (handles_of m.parts.handles h)
  handle_told h some =
      let made : handles_of m.parts.handles h ≡ unmade → ⊥ = λ is. some (ap bare is) in
      bare_told n h (handles_of m.parts.handles h) made (handle_said h made)

  pub pinned_told : (h k f : ℕ) → slice_get (pages_in (handles_of m.parts.handles h)) k ≡ Some f → slice_get (pages_in (handles_of n.parts.handles h)) k ≡ Some f
  pinned_told h k f here = frames_told n h (handles_of m.parts.handles h) k f here (handle_said h (λ is. unpaged (handles_of m.parts.handles h) k f is here))

  -- ---- mirror slots

  pub slot_told : (k : ℕ) (it : FilledSlot) → mirrors_of m.mirrors k ≡ Some it → mirrors_of n.mirrors k ≡ Some it
  slot_told k it is =
      slot_there (IsTrueOf n) k (mirrors_of m.mirrors k) it is
      (gathered_at (IsTrueOf n) (λ j. slot_fact j (mirrors_of m.mirrors j)) most_mirrors k
      (inside_or_past most_mirrors k (λ past. none-some it (sym (whole.more.slots k past) ∙ is))) said.slots)

  -- ---- actors

  pub taken_told : (a : ℕ) (pages others : ArrayVec ℕ) → slice_get m.parts.taken.items a ≡ Some pages → slice_get n.parts.taken.items a ≡ Some others
      → (k f : ℕ) → slice_get pages.items k ≡ Some f → slice_get others.items k ≡ Some f
  taken_told a pages others here there k f is =
      All-head (IsTrueOf n) (Taken a k f) []
      (along_at (IsTrueOf n) (λ j frame. Taken a j frame ∷ []) pages.items k f is (along_at (IsTrueOf n) taken_facts m.parts.taken.items a pages here said.taken))
      others there

  pub stored_told : (a : ℕ) (items others : List ℕ) → slice_get m.parts.stores.items a ≡ Some (Some items) → slice_get n.parts.stores.items a ≡ Some (Some others)
      → (slot : ℕ) → (slice_index items slot ≡ 0 → ⊥) → slice_index others slot ≡ slice_index items slot
  stored_told a items others here there slot some =
      stored_there (IsTrueOf n) a slot (slice_index items slot) some
      (along_at (IsTrueOf n) (stored_fact a) items slot (slice_index items slot) (read_here items slot some)
      (along_at (IsTrueOf n) store_facts m.parts.stores.items a (Some items) here said.stores))
      others there

  pub seat_told : (a : ℕ) (seat other : Seat) → slice_get m.seats a ≡ Some seat → slice_get n.seats a ≡ Some other → IsSeat other seat.far seat.answered (read_job seat.job)
  seat_told a seat other here there =
      All-head (IsTrueOf n) (Stands a seat.far seat.answered (read_job seat.job)) [] (along_at (IsTrueOf n) seat_fact m.seats a seat here said.seats) other there
