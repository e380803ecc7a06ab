-- An image by its parts, and that each of its facts is true of its machine.
use Rattle.std.specs.Prelude.{slice_index}
use Rattle.std.proofs.Common.{◌≡◌, ℕ, List, [], ◌∷◌, ◌++◌, slice_get, Option, Some, None, All, refl, ap, ◌∙◌, subst}
use Rattle.std.proofs.lemmas.List.Elements.{All-nil, All-cons, All-append}
use Rattle.std.proofs.lemmas.Option.{get_or_from_slice_get, same_Some}
use Rattle.arrayvec.specs.ArrayVec.{ArrayVec}
use Rattle.gup_base.specs.declared.entry.Rights.{Rights}
use Rattle.gup_plain.specs.Event.{words, page_numbers}
use Rattle.gup_script.specs.Limits.{most_handles, most_mirrors}
use Rattle.gup_frames.specs.Frames.{FramesValue, frames_of, frames_in}
use Rattle.gup_space.specs.Space.{SpaceValue, SpaceParts, space_of}
use Rattle.gup_tables.specs.Pool.{pool_of}
use Rattle.gup_handles.specs.Handles.{handles_of}
use Rattle.gup_notify.specs.Mirrors.{mirrors_of}
use Rattle.gup_op_waits.specs.declared.births.Birth.{Birth}
use Rattle.gup_op_waits.specs.declared.seats.Seat.{Seat}
use Rattle.gup_image.specs.declared.fact.Fact.{Fact}
use Rattle.gup_image.specs.declared.fact.Fact.TheVariants.{Process, Retired, Taken, Stands}
use Rattle.gup_image.specs.Gathered.{gathered, along}
use Rattle.gup_image.specs.Image.{frame_fact, word_fact, frame_facts, page_fact, born_facts, used, places, retired_fact, handle_facts, slot_fact, stored_fact, store_facts, read_job, seat_fact, zones_fact}
use Rattle.gup_image.specs.Alike.{Imaged, image_in}
use Rattle.gup_image.proofs.GatheredFacts.{all_left, all_right, all_gathered, all_along, one_item}
use Rattle.gup_image.proofs.Facts.{IsTrueOf, IsProcess, IsPage, IsSeat, alone, all_frame, all_word, all_page, all_used, all_place, all_slot, all_stored, handle_true}

-- ---- the parts of an image

abbrev pub frames_said : Imaged → List Fact
frames_said m = gathered (frame_facts (frames_of m.parts.frames)) (frames_in (frames_of m.parts.frames))

-- what an image says of a process behind its first fact
abbrev pub space_facts : (tables p : ℕ) → SpaceValue → List Fact
space_facts tables p s =
    gathered (λ page. page_fact p page (s.right page) (s.entry page)) page_numbers ++ gathered (places p s) tables ++ along (retired_fact p) s.retired

abbrev pub processes_said : Imaged → List Fact
processes_said m = along (λ p space. born_facts (pool_of m.pool).tables p (slice_get m.parts.births.items p) space) m.parts.spaces.items

abbrev pub used_said : Imaged → List Fact
used_said m = gathered (used (pool_of m.pool)) (pool_of m.pool).tables

abbrev pub handles_said : Imaged → List Fact
handles_said m = gathered (λ h. handle_facts h (handles_of m.parts.handles h)) most_handles

abbrev pub slots_said : Imaged → List Fact
slots_said m = gathered (λ k. slot_fact k (mirrors_of m.mirrors k)) most_mirrors

-- what an actor has taken
abbrev pub taken_facts : (a : ℕ) → ArrayVec ℕ → List Fact
taken_facts a pages = along (λ k frame. Taken a k frame ∷ []) pages.items

abbrev pub taken_said : Imaged → List Fact
taken_said m = along taken_facts m.parts.taken.items

abbrev pub stores_said : Imaged → List Fact
stores_said m = along store_facts m.parts.stores.items

abbrev pub seats_said : Imaged → List Fact
seats_said m = along seat_fact m.seats

-- this holds of each fact of the image
pub record AreSaid (P : Fact → Type 0) (m : Imaged) : Type 0 where
  pub zones : All P (zones_fact (frames_of m.parts.frames))
  pub frames : All P (frames_said m)
  pub processes : All P (processes_said m)
  pub used : All P (used_said m)
  pub handles : All P (handles_said m)
  pub slots : All P (slots_said m)
  pub taken : All P (taken_said m)
  pub stores : All P (stores_said m)
  pub seats : All P (seats_said m)

-- nine lists in a row
nine_apart : {X : Type 0} (P : X → Type 0) (a b c d e f g h i : List X) → All P (a ++ b ++ c ++ d ++ e ++ f ++ g ++ h ++ i) → All P a × All P b × All P c × All P d × All P e × All P f × All P g × All P h × All P i
nine_apart P a b c d e f g h i all =
    let to_h : All P (a ++ b ++ c ++ d ++ e ++ f ++ g ++ h) = all_left P (a ++ b ++ c ++ d ++ e ++ f ++ g ++ h) i all in
    let to_g : All P (a ++ b ++ c ++ d ++ e ++ f ++ g) = all_left P (a ++ b ++ c ++ d ++ e ++ f ++ g) h to_h in
    let to_f : All P (a ++ b ++ c ++ d ++ e ++ f) = all_left P (a ++ b ++ c ++ d ++ e ++ f) g to_g in
    let to_e : All P (a ++ b ++ c ++ d ++ e) = all_left P (a ++ b ++ c ++ d ++ e) f to_f in
    let to_d : All P (a ++ b ++ c ++ d) = all_left P (a ++ b ++ c ++ d) e to_e in
    let to_c : All P (a ++ b ++ c) = all_left P (a ++ b ++ c) d to_d in
    let to_b : All P (a ++ b) = all_left P (a ++ b) c to_c in (
      all_left P a b to_b,
      all_right P a b to_b,
      all_right P (a ++ b) c to_c,
      all_right P (a ++ b ++ c) d to_d,
      all_right P (a ++ b ++ c ++ d) e to_e,
      all_right P (a ++ b ++ c ++ d ++ e) f to_f,
      all_right P (a ++ b ++ c ++ d ++ e ++ f) g to_g,
      all_right P (a ++ b ++ c ++ d ++ e ++ f ++ g) h to_h,
      all_right P (a ++ b ++ c ++ d ++ e ++ f ++ g ++ h) i all,
    )

nine_together : {X : Type 0} (P : X → Type 0) (a b c d e f g h i : List X) → All P a → All P b → All P c → All P d → All P e → All P f → All P g → All P h → All P i → All P (a ++ b ++ c ++ d ++ e ++ f ++ g ++ h ++ i)
nine_together P a b c d e f g h i of_a of_b of_c of_d of_e of_f of_g of_h of_i =
    let to_b : All P (a ++ b) = All-append P a b of_a of_b in
    let to_c : All P (a ++ b ++ c) = All-append P (a ++ b) c to_b of_c in
    let to_d : All P (a ++ b ++ c ++ d) = All-append P (a ++ b ++ c) d to_c of_d in
    let to_e : All P (a ++ b ++ c ++ d ++ e) = All-append P (a ++ b ++ c ++ d) e to_d of_e in
    let to_f : All P (a ++ b ++ c ++ d ++ e ++ f) = All-append P (a ++ b ++ c ++ d ++ e) f to_e of_f in
    let to_g : All P (a ++ b ++ c ++ d ++ e ++ f ++ g) = All-append P (a ++ b ++ c ++ d ++ e ++ f) g to_f of_g in
    let to_h : All P (a ++ b ++ c ++ d ++ e ++ f ++ g ++ h) = All-append P (a ++ b ++ c ++ d ++ e ++ f ++ g) h to_g of_h in
    All-append P (a ++ b ++ c ++ d ++ e ++ f ++ g ++ h) i to_h of_i

pub parts_said : (P : Fact → Type 0) (m : Imaged) → All P (image_in m) → AreSaid P m
parts_said P m all =
    let parts = nine_apart P (zones_fact (frames_of m.parts.frames)) (frames_said m) (processes_said m) (used_said m) (handles_said m) (slots_said m) (taken_said m) (stores_said m) (seats_said m) all in
    record {
      zones = parts.0;
      frames = parts.1;
      processes = parts.2;
      used = parts.3;
      handles = parts.4;
      slots = parts.5;
      taken = parts.6;
      stores = parts.7;
      seats = parts.8;
    }

all_said : (P : Fact → Type 0) (m : Imaged) → AreSaid P m → All P (image_in m)
all_said P m said =
    nine_together P (zones_fact (frames_of m.parts.frames)) (frames_said m) (processes_said m) (used_said m) (handles_said m) (slots_said m) (taken_said m) (stores_said m) (seats_said m)
    said.zones said.frames said.processes said.used said.handles said.slots said.taken said.stores said.seats

-- ---- each fact is true

module _ (m : Imaged) where
  frame_true : (f : ℕ) → All (IsTrueOf m) (frame_facts (frames_of m.parts.frames) f)
  frame_true f =
      let F : FramesValue = frames_of m.parts.frames in
      All-append (IsTrueOf m) (frame_fact f (F.count f) (F.mark f)) (gathered (λ w. word_fact f w (F.word f w)) words)
      (all_frame (IsTrueOf m) f (F.count f) (F.mark f) (refl, refl))
      (all_gathered (IsTrueOf m) (λ w. word_fact f w (F.word f w)) words (λ w within. all_word (IsTrueOf m) f w (F.word f w) refl))

  process_is : (x y : SpaceParts) → x ≡ y → IsProcess (space_of y) (space_of x).has_pinned (space_of x).structure (space_of x).table (space_of x).pages (space_of x).sequence (space_of x).walks
  process_is x y same =
      subst (λ (s : SpaceParts). IsProcess (space_of s) (space_of x).has_pinned (space_of x).structure (space_of x).table (space_of x).pages (space_of x).sequence (space_of x).walks) same
      (record { has_pinned = refl; structure = refl; table = refl; pages = refl; sequence = refl; walks = refl })

  page_is : (x y : SpaceParts) → x ≡ y → (page : ℕ) (rights : Rights) → (space_of x).right page ≡ Some rights → IsPage (space_of y) rights ((space_of x).entry page) page
  page_is x y same page rights is =
      subst (λ (s : SpaceParts). IsPage (space_of s) rights ((space_of x).entry page) page) same (record { right = is; entry = refl })

  pages_true : (p : ℕ) (space : SpaceParts) → slice_get m.parts.spaces.items p ≡ Some space → All (IsTrueOf m) (gathered (λ page. page_fact p page ((space_of space).right page) ((space_of space).entry page)) page_numbers)
  pages_true p space here =
      let s : SpaceValue = space_of space in
      all_gathered (IsTrueOf m) (λ page. page_fact p page (s.right page) (s.entry page)) page_numbers
      (λ page within. all_page (IsTrueOf m) p page (s.right page) (s.entry page)
      (λ rights mapped other there. page_is space other (one_item m.parts.spaces.items p space other here there) page rights mapped))

  places_true : (p : ℕ) (space : SpaceParts) → slice_get m.parts.spaces.items p ≡ Some space → All (IsTrueOf m) (gathered (places p (space_of space)) (pool_of m.pool).tables)
  places_true p space here =
      let s : SpaceValue = space_of space in
      all_gathered (IsTrueOf m) (places p s) (pool_of m.pool).tables
      (λ table within. all_place (IsTrueOf m) p table (s.place table)
      (λ it is other there. ap (λ (x : SpaceParts). (space_of x).place table) (one_item m.parts.spaces.items p other space there here) ∙ is))

  retired_true : (p : ℕ) (space : SpaceParts) → slice_get m.parts.spaces.items p ≡ Some space → All (IsTrueOf m) (along (retired_fact p) (space_of space).retired)
  retired_true p space here =
      all_along (IsTrueOf m) (retired_fact p) (space_of space).retired
      (λ k table waits. alone (IsTrueOf m) (Retired p k table)
      (λ other there. ap (λ (x : SpaceParts). slice_get (space_of x).retired k) (one_item m.parts.spaces.items p other space there here) ∙ waits))

  born_true : (p : ℕ) (space : SpaceParts) (birth : Option Birth) → slice_get m.parts.spaces.items p ≡ Some space → slice_get m.parts.births.items p ≡ birth → All (IsTrueOf m) (born_facts (pool_of m.pool).tables p birth space)
  born_true p space None here is = All-nil (IsTrueOf m)
  born_true p space (Some birth) here is =
      let s : SpaceValue = space_of space in
      All-cons (IsTrueOf m) (Process p birth s.has_pinned s.structure s.table s.pages s.sequence s.walks) (space_facts (pool_of m.pool).tables p s)
      (is, λ other there. process_is space other (one_item m.parts.spaces.items p space other here there))
      (All-append (IsTrueOf m) (gathered (λ page. page_fact p page (s.right page) (s.entry page)) page_numbers ++ gathered (places p s) (pool_of m.pool).tables) (along (retired_fact p) s.retired)
      (All-append (IsTrueOf m) (gathered (λ page. page_fact p page (s.right page) (s.entry page)) page_numbers) (gathered (places p s) (pool_of m.pool).tables)
      (pages_true p space here) (places_true p space here))
      (retired_true p space here))

  taken_true : (a : ℕ) (pages : ArrayVec ℕ) → slice_get m.parts.taken.items a ≡ Some pages → All (IsTrueOf m) (taken_facts a pages)
  taken_true a pages here =
      all_along (IsTrueOf m) (λ k frame. Taken a k frame ∷ []) pages.items
      (λ k frame there. alone (IsTrueOf m) (Taken a k frame)
      (λ others also. ap (λ (x : ArrayVec ℕ). slice_get x.items k) (one_item m.parts.taken.items a others pages also here) ∙ there))

  store_true : (a : ℕ) (store : Option (List ℕ)) → slice_get m.parts.stores.items a ≡ Some store → All (IsTrueOf m) (store_facts a store)
  store_true a None here = All-nil (IsTrueOf m)
  store_true a (Some items) here =
      all_along (IsTrueOf m) (stored_fact a) items
      (λ slot value there. all_stored (IsTrueOf m) a slot value
      (λ others also.
      ap (λ (x : List ℕ). slice_index x slot) (same_Some others items (one_item m.parts.stores.items a (Some others) (Some items) also here))
      ∙ get_or_from_slice_get items slot value 0 there))

  seat_true : (a : ℕ) (seat : Seat) → slice_get m.seats a ≡ Some seat → All (IsTrueOf m) (seat_fact a seat)
  seat_true a seat here =
      alone (IsTrueOf m) (Stands a seat.far seat.answered (read_job seat.job))
      (λ other there.
      subst (λ (x : Seat). IsSeat x seat.far seat.answered (read_job seat.job)) (one_item m.seats a seat other here there)
      (record { far = refl; answered = refl; job = refl }))

  pub image_true : All (IsTrueOf m) (image_in m)
  image_true =
      all_said (IsTrueOf m) m
      (record {
        zones = alone (IsTrueOf m) _ (refl, refl);
        frames = all_gathered (IsTrueOf m) (frame_facts (frames_of m.parts.frames)) (frames_in (frames_of m.parts.frames)) (λ f within. frame_true f);
        processes = all_along (IsTrueOf m) (λ p space. born_facts (pool_of m.pool).tables p (slice_get m.parts.births.items p) space) m.parts.spaces.items (λ p space here. born_true p space (slice_get m.parts.births.items p) here refl);
        used = all_gathered (IsTrueOf m) (used (pool_of m.pool)) (pool_of m.pool).tables (λ table within. all_used (IsTrueOf m) table ((pool_of m.pool).free table) (λ is. is));
        handles = all_gathered (IsTrueOf m) (λ h. handle_facts h (handles_of m.parts.handles h)) most_handles (λ h within. handle_true m h (handles_of m.parts.handles h) refl);
        slots = all_gathered (IsTrueOf m) (λ k. slot_fact k (mirrors_of m.mirrors k)) most_mirrors (λ k within. all_slot (IsTrueOf m) k (mirrors_of m.mirrors k) (λ it is. is));
        taken = all_along (IsTrueOf m) taken_facts m.parts.taken.items taken_true;
        stores = all_along (IsTrueOf m) store_facts m.parts.stores.items store_true;
        seats = all_along (IsTrueOf m) seat_fact m.seats seat_true;
      })
