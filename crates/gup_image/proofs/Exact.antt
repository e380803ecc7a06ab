-- Machines with the same image are the same in all that a state has of them.
use Rattle.std.specs.Prelude.{slice_index}
use Rattle.std.proofs.Common.{◌≡◌, ℕ, ◌<◌, ◌≤◌, Bool, true, false, List, slice_get, length, Option, Some, None, IsSome, All, refl, sym, ◌∙◌, subst, ◌⊎◌, inl, inr}
use Rattle.std.proofs.lemmas.Bool.{cases_lt}
use Rattle.gup_base.specs.declared.entry.Entry.{Entry}
use Rattle.gup_base.specs.declared.entry.Rights.{Rights}
use Rattle.gup_frames.specs.Frames.{frames_of}
use Rattle.gup_space.specs.Space.{SpaceValue, SpaceParts, space_of, AreMapped}
use Rattle.gup_space.specs.Shows.{ShowsSpace, ShowsPool}
use Rattle.gup_spec_tables.specs.declared.place.Place.{Place}
use Rattle.gup_tables.specs.Pool.{pool_of}
use Rattle.gup_handles.specs.Handles.{HandleValue, unmade, handles_of}
use Rattle.gup_handles.specs.Shows.{IsShown}
use Rattle.gup_notify.specs.Mirrors.{Filled as FilledSlot, mirrors_of}
use Rattle.gup_notify.specs.Shows.{IsMirror, ShowsMirrors}
use Rattle.gup_spec_events.specs.State.{CoreState}
use Rattle.gup_op_pins.specs.Held.{ShowsStore, slots_in}
use Rattle.gup_op_pins.specs.Pins.{frames_in}
use Rattle.gup_op_waits.specs.Parts.{ShowsParts}
use Rattle.gup_op_waits.specs.declared.births.Birth.{Birth}
use Rattle.gup_image.specs.Image.{read_job}
use Rattle.gup_image.specs.Alike.{Imaged, AreOfOne, AreSameSeats, image_in}
use Rattle.gup_image.proofs.GatheredFacts.{partner, same_items, same_option, none_within, same_told, zero_or_more, none_or_some, some_there}
use Rattle.gup_image.proofs.Facts.{IsTrueOf, IsProcess, IsPage, IsSeat, bare, same_handle, unmade_or_not}
use Rattle.gup_image.proofs.Jobs.{same_place, same_last}
use Rattle.gup_image.proofs.Whole.{AreSaid, parts_said, image_true}
use Rattle.gup_image.proofs.Told.{zones_told, count_told, mark_told, word_told, process_told, page_told, place_told, retired_told, used_told, handle_told, pinned_told, slot_told, taken_told, stored_told, seat_told}

-- a mark is missing, or is not
false_or_true : (b : Bool) → (b ≡ false) ⊎ (b ≡ false → ⊥)
false_or_true false = inl refl
false_or_true true = inr (λ is. cc)

-- a table is free, or is not
true_or_false : (b : Bool) → (b ≡ true) ⊎ (b ≡ true → ⊥)
true_or_false true = inl refl
true_or_false false = inr (λ is. cc)

used_false : (b : Bool) → (b ≡ true → ⊥) → b ≡ false
used_false false used = refl
used_false true used = absurd (used refl)

-- a page that is not mapped has no entry
unmapped : (space : SpaceValue) → AreMapped space → (page : ℕ) (entry : Option Entry) → space.entry page ≡ entry → space.right page ≡ None → space.entry page ≡ None
unmapped space mapped page None is none = is
unmapped space mapped page (Some e) is none = absurd (let some : IsSome (space.right page) = mapped page e is in cc)

-- each image's facts are true of the other machine
module _ (m n : Imaged) (both : AreOfOne m n) (to : AreSaid (IsTrueOf n) m) (back : AreSaid (IsTrueOf m) n) where
  -- ---- frames

  same_count : (f : ℕ) → (frames_of m.parts.frames).count f ≡ (frames_of n.parts.frames).count f
  same_count f =
      same_told 0 ((frames_of m.parts.frames).count f) ((frames_of n.parts.frames).count f) (zero_or_more ((frames_of m.parts.frames).count f)) (zero_or_more ((frames_of n.parts.frames).count f))
      (count_told n m both.one to f) (count_told m n both.other back f)

  same_mark : (f : ℕ) → (frames_of m.parts.frames).mark f ≡ (frames_of n.parts.frames).mark f
  same_mark f =
      same_told false ((frames_of m.parts.frames).mark f) ((frames_of n.parts.frames).mark f) (false_or_true ((frames_of m.parts.frames).mark f)) (false_or_true ((frames_of n.parts.frames).mark f))
      (mark_told n m both.one to f) (mark_told m n both.other back f)

  same_word : (f w : ℕ) → (frames_of m.parts.frames).word f w ≡ (frames_of n.parts.frames).word f w
  same_word f w =
      same_told 0 ((frames_of m.parts.frames).word f w) ((frames_of n.parts.frames).word f w) (zero_or_more ((frames_of m.parts.frames).word f w)) (zero_or_more ((frames_of n.parts.frames).word f w))
      (word_told n m both.one to f w) (word_told m n both.other back f w)

  -- ---- a process, and its pages

  module _ (p : ℕ) (x y : SpaceParts) (birth : Birth) (here : slice_get m.parts.spaces.items p ≡ Some x) (there : slice_get n.parts.spaces.items p ≡ Some y)
      (born : slice_get m.parts.births.items p ≡ Some birth) (also_born : slice_get n.parts.births.items p ≡ Some birth) where
    process_same : IsProcess (space_of y) (space_of x).has_pinned (space_of x).structure (space_of x).table (space_of x).pages (space_of x).sequence (space_of x).walks
    process_same = (process_told n m both.one to p x birth here born).1 y there

    page_to : (page : ℕ) (rights : Rights) → (space_of x).right page ≡ Some rights → IsPage (space_of y) rights ((space_of x).entry page) page
    page_to page rights mapped = page_told n m both.one to p x y birth here born there page rights mapped

    page_back : (page : ℕ) (rights : Rights) → (space_of y).right page ≡ Some rights → IsPage (space_of x) rights ((space_of y).entry page) page
    page_back page rights mapped = page_told m n both.other back p y x birth there also_born here page rights mapped

    right_to : (page : ℕ) → ((space_of x).right page ≡ None → ⊥) → (space_of y).right page ≡ (space_of x).right page
    right_to page some = let it = some_there ((space_of x).right page) some in (page_to page it.0 it.1).right ∙ sym it.1

    right_back : (page : ℕ) → ((space_of y).right page ≡ None → ⊥) → (space_of x).right page ≡ (space_of y).right page
    right_back page some = let it = some_there ((space_of y).right page) some in (page_back page it.0 it.1).right ∙ sym it.1

    same_right : (page : ℕ) → (space_of x).right page ≡ (space_of y).right page
    same_right page =
        same_told None ((space_of x).right page) ((space_of y).right page) (none_or_some ((space_of x).right page)) (none_or_some ((space_of y).right page)) (right_to page) (right_back page)

    entry_by : (page : ℕ) (right : Option Rights) → (space_of x).right page ≡ right → (space_of x).entry page ≡ (space_of y).entry page
    entry_by page None is =
        unmapped (space_of x) (both.one.mapped p x here) page ((space_of x).entry page) refl is
        ∙ sym (unmapped (space_of y) (both.other.mapped p y there) page ((space_of y).entry page) refl (sym (same_right page) ∙ is))
    entry_by page (Some rights) is = sym (page_to page rights is).entry

    place_to : (table : ℕ) (it : Place) → (space_of x).place table ≡ Some it → (space_of y).place table ≡ Some it
    place_to table it at = place_told n m both.one to p x y birth here born there table it at

    place_back : (table : ℕ) (it : Place) → (space_of y).place table ≡ Some it → (space_of x).place table ≡ Some it
    place_back table it at = place_told m n both.other back p y x birth there also_born here table it at

    same_places : (space_of x).place ≡ (space_of y).place
    same_places = λ i table. same_option ((space_of x).place table) ((space_of y).place table) (place_to table) (place_back table) i

    same_retired : (space_of x).retired ≡ (space_of y).retired
    same_retired =
        same_items (space_of x).retired (space_of y).retired
        (λ k table waits. retired_told n m both.one to p x y birth here born there k table waits)
        (λ k table waits. retired_told m n both.other back p y x birth there also_born here k table waits)

    space_shown : (s : CoreState) → ShowsSpace p (space_of y) s → ShowsSpace p (space_of x) s
    space_shown s shows =
        record {
          right = λ page. shows.right page ∙ sym (same_right page);
          pages = shows.pages ∙ process_same.pages;
          entry = λ page. shows.entry page ∙ sym (entry_by page ((space_of x).right page) refl);
          sequence = shows.sequence ∙ process_same.sequence;
          has_pinned = shows.has_pinned ∙ process_same.has_pinned;
          structure = shows.structure ∙ process_same.structure;
          table = shows.table ∙ process_same.table;
          walks = shows.walks ∙ process_same.walks;
          place = shows.place ∙ sym same_places;
          retired = shows.retired ∙ sym same_retired;
        }

  -- ---- page tables

  used_to : (table : ℕ) → table < (pool_of m.pool).tables → ((pool_of m.pool).free table ≡ true → ⊥) → (pool_of n.pool).free table ≡ (pool_of m.pool).free table
  used_to table within used =
      let is : (pool_of m.pool).free table ≡ false = used_false ((pool_of m.pool).free table) used in used_told n m both.one to table within is ∙ sym is

  used_back : (table : ℕ) → table < (pool_of n.pool).tables → ((pool_of n.pool).free table ≡ true → ⊥) → (pool_of m.pool).free table ≡ (pool_of n.pool).free table
  used_back table within used =
      let is : (pool_of n.pool).free table ≡ false = used_false ((pool_of n.pool).free table) used in used_told m n both.other back table within is ∙ sym is

  free_by : (table : ℕ) → (table < (pool_of m.pool).tables) ⊎ ((pool_of m.pool).tables ≤ table) → (pool_of m.pool).free table ≡ (pool_of n.pool).free table
  free_by table (inl within) =
      same_told true ((pool_of m.pool).free table) ((pool_of n.pool).free table) (true_or_false ((pool_of m.pool).free table)) (true_or_false ((pool_of n.pool).free table))
      (used_to table within) (used_back table (subst (λ (k : ℕ). table < k) both.tables within))
  free_by table (inr past) = both.one.more.free table past ∙ sym (both.other.more.free table (subst (λ (k : ℕ). k ≤ table) both.tables past))

  same_free : (pool_of m.pool).free ≡ (pool_of n.pool).free
  same_free = λ i table. free_by table (cases_lt table (pool_of m.pool).tables) i

  pool_shown : (s : CoreState) → ShowsPool (pool_of n.pool) s → ShowsPool (pool_of m.pool) s
  pool_shown s shows = shows ∙ sym same_free

  -- ---- handles, mirror slots

  same_bare : (h : ℕ) → bare (handles_of m.parts.handles h) ≡ bare (handles_of n.parts.handles h)
  same_bare h =
      same_told unmade (bare (handles_of m.parts.handles h)) (bare (handles_of n.parts.handles h)) (unmade_or_not (handles_of m.parts.handles h)) (unmade_or_not (handles_of n.parts.handles h))
      (handle_told n m both.one to h) (handle_told m n both.other back h)

  same_pages : (h : ℕ) → frames_in (handles_of m.parts.handles h) ≡ frames_in (handles_of n.parts.handles h)
  same_pages h =
      same_items (frames_in (handles_of m.parts.handles h)) (frames_in (handles_of n.parts.handles h)) (pinned_told n m both.one to h) (pinned_told m n both.other back h)

  handles_same : (h : ℕ) → handles_of m.parts.handles h ≡ handles_of n.parts.handles h
  handles_same h = same_handle (handles_of m.parts.handles h) (handles_of n.parts.handles h) (same_bare h) (same_pages h)

  slots_same : (k : ℕ) → mirrors_of m.mirrors k ≡ mirrors_of n.mirrors k
  slots_same k = same_option (mirrors_of m.mirrors k) (mirrors_of n.mirrors k) (slot_told n m both.one to k) (slot_told m n both.other back k)

  -- ---- actors

  stored_same : (a : ℕ) (items others : List ℕ) → slice_get m.parts.stores.items a ≡ Some (Some items) → slice_get n.parts.stores.items a ≡ Some (Some others) → (slot : ℕ) → slice_index items slot ≡ slice_index others slot
  stored_same a items others here there slot =
      same_told 0 (slice_index items slot) (slice_index others slot) (zero_or_more (slice_index items slot)) (zero_or_more (slice_index others slot))
      (stored_told n m both.one to a items others here there slot) (stored_told m n both.other back a others items there here slot)

  store_shown : (a : ℕ) (x y : Option (List ℕ)) → slice_get m.parts.stores.items a ≡ Some x → slice_get n.parts.stores.items a ≡ Some y → slots_in x ≡ slots_in y → (s : CoreState) → ShowsStore a y s → ShowsStore a x s
  store_shown a None y here there many s shows = tt
  store_shown a (Some items) None here there many s shows = λ slot within. absurd (none_within slot (length items) many within)
  store_shown a (Some items) (Some others) here there many s shows =
      λ slot within. shows slot (subst (λ (k : ℕ). slot < k) many within) ∙ sym (stored_same a items others here there slot)

  -- ---- all

  parts_shown : (s : CoreState) → ShowsParts n.parts s → ShowsParts m.parts s
  parts_shown s shows =
      record {
        frames = record {
          movable = shows.frames.movable ∙ (zones_told n m both.one to).0;
          normal = shows.frames.normal ∙ (zones_told n m both.one to).1;
          count = λ f. shows.frames.count f ∙ sym (same_count f);
          mark = λ f. shows.frames.mark f ∙ sym (same_mark f);
          word = λ f w. shows.frames.word f w ∙ sym (same_word f w);
          needs_tables = shows.frames.needs_tables;
        };
        spaces = λ p x here.
            let y = partner m.parts.spaces.items n.parts.spaces.items p x both.spaces here in
            let birth = partner m.parts.spaces.items m.parts.births.items p x (sym both.one.births) here in
            space_shown p x y.0 birth.0 here y.1 birth.1 (process_told n m both.one to p x birth.0 here birth.1).0 s (shows.spaces p y.0 y.1);
        births = λ p birth here.
            let x = partner m.parts.births.items m.parts.spaces.items p birth both.one.births here in
            shows.births p birth (process_told n m both.one to p x.0 birth x.1 here).0;
        pins = λ h. subst (λ (v : HandleValue). IsShown v (s.handle h) (s.pinned h) (s.got h)) (sym (handles_same h)) (shows.pins h);
        taken = λ a pages here.
            let others = partner m.parts.taken.items n.parts.taken.items a pages both.taken here in
            shows.taken a others.0 others.1
            ∙ sym (same_items pages.items others.0.items (taken_told n m both.one to a pages others.0 here others.1) (taken_told m n both.other back a others.0 pages others.1 here));
        stores = λ a x here.
            let y = partner m.parts.stores.items n.parts.stores.items a x both.stores here in
            store_shown a x y.0 here y.1 (both.slots a x y.0 here y.1) s (shows.stores a y.0 y.1);
      }

  mirrors_shown : (s : CoreState) → ShowsMirrors (mirrors_of n.mirrors) s → ShowsMirrors (mirrors_of m.mirrors) s
  mirrors_shown s shows k = subst (λ (o : Option FilledSlot). IsMirror o (s.mirrored k) (s.slot k)) (sym (slots_same k)) (shows k)

  seats_same : AreSameSeats m.seats n.seats
  seats_same a x y here there =
      let seat : IsSeat y x.far x.answered (read_job x.job) = seat_told n m both.one to a x y here there in
      record {
        answered = sym seat.answered;
        far = sym seat.far;
        place = same_place x.job y.job (sym seat.job);
        last = same_last x.job y.job (sym seat.job);
      }

-- ---- from the images

module _ (m n : Imaged) (both : AreOfOne m n) (same : image_in m ≡ image_in n) where
  to_other : AreSaid (IsTrueOf n) m
  to_other = parts_said (IsTrueOf n) m (subst (All (IsTrueOf n)) (sym same) (image_true n))

  from_other : AreSaid (IsTrueOf m) n
  from_other = parts_said (IsTrueOf m) n (subst (All (IsTrueOf m)) same (image_true m))

  pub exact_parts : (s : CoreState) → ShowsParts n.parts s → ShowsParts m.parts s
  exact_parts = parts_shown m n both to_other from_other

  pub exact_mirrors : (s : CoreState) → ShowsMirrors (mirrors_of n.mirrors) s → ShowsMirrors (mirrors_of m.mirrors) s
  exact_mirrors = mirrors_shown m n both to_other from_other

  pub exact_pool : (s : CoreState) → ShowsPool (pool_of n.pool) s → ShowsPool (pool_of m.pool) s
  exact_pool = pool_shown m n both to_other from_other

  pub exact_seats : AreSameSeats m.seats n.seats
  exact_seats = seats_same m n both to_other from_other
