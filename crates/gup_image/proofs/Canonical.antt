-- Machines that show the same state have the same image.
use Rattle.std.specs.Prelude.{slice_index}
use Rattle.std.proofs.Common.{◌≡◌, ℕ, ◌+◌, ◌<◌, Bool, List, [], ◌∷◌, ◌++◌, slice_get, length, Option, Some, None, refl, sym, ap, ◌∙◌, subst}
use Rattle.std.proofs.lemmas.Option.{get_or_from_slice_get, slice_get_within}
use Rattle.gup_base.specs.declared.entry.Rights.{Rights}
use Rattle.gup_plain.specs.State as plain
use Rattle.gup_plain.specs.Event.{words, page_numbers}
use Rattle.gup_script.specs.Limits.{most_handles, most_mirrors}
use Rattle.gup_frames.specs.Frames.{FramesValue, frames_of, frames_in}
use Rattle.gup_space.specs.Space.{SpaceValue, SpaceParts, space_of}
use Rattle.gup_space.specs.Shows.{ShowsSpace, ShowsPool}
use Rattle.gup_spec_tables.specs.declared.place.Place.{Place}
use Rattle.gup_tables.specs.Pool.{pool_of}
use Rattle.gup_handles.specs.Handles.{HandleValue, unmade, held, given, got, gone, handles_of}
use Rattle.gup_handles.specs.Shows.{IsShown}
use Rattle.gup_notify.specs.Mirrors.{Filled as FilledSlot, mirrors_of}
use Rattle.gup_notify.specs.Shows.{IsMirror, ShowsMirrors}
use Rattle.gup_spec_events.specs.State.{CoreState}
use Rattle.gup_op_pins.specs.Held.{ShowsStore, slots_in}
use Rattle.gup_op_waits.specs.Parts.{IsBirth, ShowsParts}
use Rattle.gup_op_waits.specs.declared.births.Birth.{Birth}
use Rattle.gup_op_waits.specs.declared.births.Birth.TheVariants.{Unborn, Growing, Born, Failed}
use Rattle.gup_op_waits.specs.declared.seats.Seat.{Seat}
use Rattle.gup_image.specs.declared.fact.Fact.{Fact}
use Rattle.gup_image.specs.declared.fact.Fact.TheVariants.{Process, Taken, Stands}
use Rattle.gup_image.specs.Gathered.{gathered, along}
use Rattle.gup_image.specs.Image.{frame_fact, word_fact, frame_facts, page_fact, process_facts, born_facts, used_fact, used, place_fact, places, retired_fact, handle_facts, slot_fact, stored_fact, store_facts, read_job, seat_fact, zones_fact}
use Rattle.gup_image.specs.Alike.{Imaged, AreOfOne, IsSameSeat, AreSameSeats, image_in}
use Rattle.gup_image.proofs.GatheredFacts.{gathered_same, along_same, nothing_along, partner}
use Rattle.gup_image.proofs.Jobs.{same_read}
use Rattle.gup_image.proofs.Whole.{frames_said, space_facts, processes_said, used_said, handles_said, slots_said, taken_said, stores_said, seats_said, taken_facts}

-- ---- what a machine keeps of a birth, a handle and a slot is what the state has of it

abbrev pub kept_birth : plain.Birth → Birth
kept_birth plain.unborn = Unborn
kept_birth (plain.growing parent) = Growing
kept_birth plain.born = Born
kept_birth plain.failed = Failed

birth_kept : (birth : Birth) (b : plain.Birth) → IsBirth birth b → birth ≡ kept_birth b
birth_kept Unborn b is = sym (ap kept_birth is)
birth_kept Growing b is = sym (ap kept_birth is.1)
birth_kept Born b is = sym (ap kept_birth is)
birth_kept Failed b is = sym (ap kept_birth is)

abbrev pub kept_handle : plain.Handle → (pinned : List ℕ) → (reference : Option (ℕ × ℕ)) → HandleValue
kept_handle plain.unmade pinned None = unmade
kept_handle plain.unmade pinned (Some reference) = got reference.0 reference.1
kept_handle (plain.held by objects write) pinned reference = held by pinned write
kept_handle (plain.given to objects write) pinned reference = given to pinned write
kept_handle plain.gone pinned reference = gone

handle_kept : (v : HandleValue) (handle : plain.Handle) (pinned : List ℕ) (reference : Option (ℕ × ℕ)) → IsShown v handle pinned reference → v ≡ kept_handle handle pinned reference
handle_kept unmade handle pinned reference is =
    sym (ap (λ (x : plain.Handle). kept_handle x pinned reference) is.0 ∙ ap (kept_handle plain.unmade pinned) is.1)
handle_kept (held by frames write) handle pinned reference is =
    sym (ap (λ (x : plain.Handle). kept_handle x pinned reference) is.0.1 ∙ ap (λ (x : List ℕ). held by x write) is.1)
handle_kept (given to frames write) handle pinned reference is =
    sym (ap (λ (x : plain.Handle). kept_handle x pinned reference) is.0.1 ∙ ap (λ (x : List ℕ). given to x write) is.1)
handle_kept (got by frame) handle pinned reference is =
    sym (ap (λ (x : plain.Handle). kept_handle x pinned reference) is.0 ∙ ap (kept_handle plain.unmade pinned) is.1)
handle_kept gone handle pinned reference is =
    sym (ap (λ (x : plain.Handle). kept_handle x pinned reference) is.0)

abbrev pub kept_slot : (frame : Option ℕ) → Option plain.Noted → Option FilledSlot
kept_slot None noted = None
kept_slot (Some frame) None = None
kept_slot (Some frame) (Some it) = Some (record { proc = it.proc; page = it.page; frame = frame })

slot_kept : (slot : Option FilledSlot) (frame : Option ℕ) (noted : Option plain.Noted) → IsMirror slot frame noted → slot ≡ kept_slot frame noted
slot_kept None frame noted is = sym (ap (λ (x : Option ℕ). kept_slot x noted) is)
slot_kept (Some filled) frame noted is =
    let it : plain.Noted = is.1.0 in
    let made : ℕ → ℕ → Option FilledSlot = λ proc page. Some (record { proc = proc; page = page; frame = filled.frame }) in
    sym (ap (λ (x : Option ℕ). kept_slot x noted) is.0 ∙ ap (kept_slot (Some filled.frame)) is.1.1 ∙ ap (λ x. made x it.page) is.1.2 ∙ ap (made filled.proc) is.1.3)

-- three lists in a row
three_same : {X : Type 0} (a b c p q r : List X) → a ≡ p → b ≡ q → c ≡ r → a ++ b ++ c ≡ p ++ q ++ r
three_same a b c p q r is_a is_b is_c = cc

-- ---- equal facts of equal values

frame_facts_same : (F G : FramesValue) (f : ℕ) → F.count f ≡ G.count f → F.mark f ≡ G.mark f → ((w : ℕ) → F.word f w ≡ G.word f w) → frame_facts F f ≡ frame_facts G f
frame_facts_same F G f count mark word =
    let first : frame_fact f (F.count f) (F.mark f) ≡ frame_fact f (G.count f) (G.mark f) =
    ap (λ (x : ℕ). frame_fact f x (F.mark f)) count ∙ ap (frame_fact f (G.count f)) mark in
    let rest : gathered (λ w. word_fact f w (F.word f w)) words ≡ gathered (λ w. word_fact f w (G.word f w)) words =
    gathered_same (λ w. word_fact f w (F.word f w)) (λ w. word_fact f w (G.word f w)) words (λ w within. ap (word_fact f w) (word w)) in
    ap (λ (x : List Fact). x ++ gathered (λ w. word_fact f w (F.word f w)) words) first ∙ ap (λ (x : List Fact). frame_fact f (G.count f) (G.mark f) ++ x) rest

head_same : (p : ℕ) (birth : Birth) (s t : SpaceValue) → s.has_pinned ≡ t.has_pinned → s.structure ≡ t.structure → s.table ≡ t.table → s.pages ≡ t.pages → s.sequence ≡ t.sequence → s.walks ≡ t.walks
    → Process p birth s.has_pinned s.structure s.table s.pages s.sequence s.walks ≡ Process p birth t.has_pinned t.structure t.table t.pages t.sequence t.walks
head_same p birth s t has_pinned structure table pages sequence walks = cc

-- of what is equal, all that an image says of a process behind its first fact is
space_facts_same : (tables p : ℕ) (x y : SpaceValue) (s : CoreState) → ShowsSpace p x s → ShowsSpace p y s → space_facts tables p x ≡ space_facts tables p y
space_facts_same tables p x y s one other =
    let pages : gathered (λ page. page_fact p page (x.right page) (x.entry page)) page_numbers ≡ gathered (λ page. page_fact p page (y.right page) (y.entry page)) page_numbers =
    gathered_same (λ page. page_fact p page (x.right page) (x.entry page)) (λ page. page_fact p page (y.right page) (y.entry page)) page_numbers
    (λ page within.
    ap (λ (r : Option Rights). page_fact p page r (x.entry page)) (sym (one.right page) ∙ other.right page)
    ∙ ap (page_fact p page (y.right page)) (sym (one.entry page) ∙ other.entry page)) in
    let stand : gathered (places p x) tables ≡ gathered (places p y) tables =
    ap (λ (place : ℕ → Option Place). gathered (λ table. place_fact p table (place table)) tables) (sym one.place ∙ other.place) in
    let wait : along (retired_fact p) x.retired ≡ along (retired_fact p) y.retired = ap (along (retired_fact p)) (sym one.retired ∙ other.retired) in
    three_same (gathered (λ page. page_fact p page (x.right page) (x.entry page)) page_numbers) (gathered (places p x) tables) (along (retired_fact p) x.retired)
    (gathered (λ page. page_fact p page (y.right page) (y.entry page)) page_numbers) (gathered (places p y) tables) (along (retired_fact p) y.retired)
    pages stand wait

process_facts_same : (tables p : ℕ) (birth : Birth) (x y : SpaceValue) (s : CoreState) → ShowsSpace p x s → ShowsSpace p y s → process_facts tables p birth x ≡ process_facts tables p birth y
process_facts_same tables p birth x y s one other =
    let first : Process p birth x.has_pinned x.structure x.table x.pages x.sequence x.walks ≡ Process p birth y.has_pinned y.structure y.table y.pages y.sequence y.walks =
    head_same p birth x y (sym one.has_pinned ∙ other.has_pinned) (sym one.structure ∙ other.structure) (sym one.table ∙ other.table) (sym one.pages ∙ other.pages) (sym one.sequence ∙ other.sequence) (sym one.walks ∙ other.walks) in
    ap (λ (fact : Fact). fact ∷ space_facts tables p x) first
    ∙ ap (λ (facts : List Fact). Process p birth y.has_pinned y.structure y.table y.pages y.sequence y.walks ∷ facts) (space_facts_same tables p x y s one other)

born_facts_same : (tables p : ℕ) (birth : Option Birth) (x y : SpaceParts) (s : CoreState) → ShowsSpace p (space_of x) s → ShowsSpace p (space_of y) s → born_facts tables p birth x ≡ born_facts tables p birth y
born_facts_same tables p None x y s one other = refl
born_facts_same tables p (Some birth) x y s one other = process_facts_same tables p birth (space_of x) (space_of y) s one other

seat_facts_same : (a : ℕ) (x y : Seat) → IsSameSeat x y → seat_fact a x ≡ seat_fact a y
seat_facts_same a x y same =
    ap (λ (far : ℕ). Stands a far x.answered (read_job x.job) ∷ []) same.far
    ∙ ap (λ (answered : ℕ). Stands a y.far answered (read_job x.job) ∷ []) same.answered
    ∙ ap (λ job. Stands a y.far y.answered job ∷ []) (same_read x y same)

stored_facts_same : (a : ℕ) (xs ys : List ℕ) → length xs ≡ length ys → ((slot : ℕ) → slot < length xs → slice_index xs slot ≡ slice_index ys slot) → along (stored_fact a) xs ≡ along (stored_fact a) ys
stored_facts_same a xs ys many same =
    along_same (stored_fact a) (stored_fact a) xs ys many
    (λ slot x y here there.
    ap (stored_fact a slot)
    (sym (get_or_from_slice_get xs slot x 0 here) ∙ same slot (slice_get_within xs slot x here) ∙ get_or_from_slice_get ys slot y 0 there))

store_facts_same : (a : ℕ) (x y : Option (List ℕ)) (s : CoreState) → slots_in x ≡ slots_in y → ShowsStore a x s → ShowsStore a y s → store_facts a x ≡ store_facts a y
store_facts_same a None None s many one other = refl
store_facts_same a None (Some ys) s many one other = sym (nothing_along (stored_fact a) ys (sym many))
store_facts_same a (Some xs) None s many one other = nothing_along (stored_fact a) xs many
store_facts_same a (Some xs) (Some ys) s many one other =
    stored_facts_same a xs ys many (λ slot within. sym (one slot within) ∙ other slot (subst (λ (n : ℕ). slot < n) many within))

-- ---- the parts of both images

module _ (m n : Imaged) (s : CoreState) (both : AreOfOne m n) (one : ShowsParts m.parts s) (other : ShowsParts n.parts s) where
  zones_same : zones_fact (frames_of m.parts.frames) ≡ zones_fact (frames_of n.parts.frames)
  zones_same =
      let movable : (frames_of m.parts.frames).movable ≡ (frames_of n.parts.frames).movable = sym one.frames.movable ∙ other.frames.movable in
      let normal : (frames_of m.parts.frames).normal ≡ (frames_of n.parts.frames).normal = sym one.frames.normal ∙ other.frames.normal in
      cc

  frames_same : frames_said m ≡ frames_said n
  frames_same =
      let F : FramesValue = frames_of m.parts.frames in
      let G : FramesValue = frames_of n.parts.frames in
      gathered_same (frame_facts F) (frame_facts G) (frames_in F)
      (λ f within. frame_facts_same F G f (sym (one.frames.count f) ∙ other.frames.count f) (sym (one.frames.mark f) ∙ other.frames.mark f) (λ w. sym (one.frames.word f w) ∙ other.frames.word f w))
      ∙ ap (λ (k : ℕ). gathered (frame_facts G) (k + F.normal)) (sym one.frames.movable ∙ other.frames.movable)
      ∙ ap (λ (k : ℕ). gathered (frame_facts G) (G.movable + k)) (sym one.frames.normal ∙ other.frames.normal)

  births_same : (p : ℕ) (x y : SpaceParts) → slice_get m.parts.spaces.items p ≡ Some x → slice_get n.parts.spaces.items p ≡ Some y → slice_get m.parts.births.items p ≡ slice_get n.parts.births.items p
  births_same p x y here there =
      let b = partner m.parts.spaces.items m.parts.births.items p x (sym both.one.births) here in
      let c = partner n.parts.spaces.items n.parts.births.items p y (sym both.other.births) there in
      b.1 ∙ ap Some (birth_kept b.0 (s.birth p) (one.births p b.0 b.1) ∙ sym (birth_kept c.0 (s.birth p) (other.births p c.0 c.1))) ∙ sym c.1

  processes_same : processes_said m ≡ processes_said n
  processes_same =
      along_same (λ p space. born_facts (pool_of m.pool).tables p (slice_get m.parts.births.items p) space) (λ p space. born_facts (pool_of n.pool).tables p (slice_get n.parts.births.items p) space) m.parts.spaces.items n.parts.spaces.items both.spaces
      (λ p x y here there.
      ap (λ (o : Option Birth). born_facts (pool_of m.pool).tables p o x) (births_same p x y here there)
      ∙ born_facts_same (pool_of m.pool).tables p (slice_get n.parts.births.items p) x y s (one.spaces p x here) (other.spaces p y there)
      ∙ ap (λ (tables : ℕ). born_facts tables p (slice_get n.parts.births.items p) y) both.tables)

  handles_same : handles_said m ≡ handles_said n
  handles_same =
      gathered_same (λ h. handle_facts h (handles_of m.parts.handles h)) (λ h. handle_facts h (handles_of n.parts.handles h)) most_handles
      (λ h within. ap (handle_facts h)
      (handle_kept (handles_of m.parts.handles h) (s.handle h) (s.pinned h) (s.got h) (one.pins h)
      ∙ sym (handle_kept (handles_of n.parts.handles h) (s.handle h) (s.pinned h) (s.got h) (other.pins h))))

  taken_same : taken_said m ≡ taken_said n
  taken_same =
      along_same taken_facts taken_facts m.parts.taken.items n.parts.taken.items both.taken
      (λ a x y here there. ap (λ (items : List ℕ). along (λ k frame. Taken a k frame ∷ []) items) (sym (one.taken a x here) ∙ other.taken a y there))

  stores_same : stores_said m ≡ stores_said n
  stores_same =
      along_same store_facts store_facts m.parts.stores.items n.parts.stores.items both.stores
      (λ a x y here there. store_facts_same a x y s (both.slots a x y here there) (one.stores a x here) (other.stores a y there))

slots_same : (m n : Imaged) (s : CoreState) → ShowsMirrors (mirrors_of m.mirrors) s → ShowsMirrors (mirrors_of n.mirrors) s → slots_said m ≡ slots_said n
slots_same m n s one other =
    gathered_same (λ k. slot_fact k (mirrors_of m.mirrors k)) (λ k. slot_fact k (mirrors_of n.mirrors k)) most_mirrors
    (λ k within. ap (slot_fact k)
    (slot_kept (mirrors_of m.mirrors k) (s.mirrored k) (s.slot k) (one k)
    ∙ sym (slot_kept (mirrors_of n.mirrors k) (s.mirrored k) (s.slot k) (other k))))

seats_same : (m n : Imaged) → AreOfOne m n → AreSameSeats m.seats n.seats → seats_said m ≡ seats_said n
seats_same m n both same = along_same seat_fact seat_fact m.seats n.seats both.seats (λ a x y here there. seat_facts_same a x y (same a x y here there))

used_same : (m n : Imaged) (s : CoreState) → AreOfOne m n → ShowsPool (pool_of m.pool) s → ShowsPool (pool_of n.pool) s → used_said m ≡ used_said n
used_same m n s both one other =
    ap (λ (free : ℕ → Bool). gathered (λ table. used_fact (free table) table) (pool_of m.pool).tables) (sym one ∙ other)
    ∙ ap (gathered (used (pool_of n.pool))) both.tables

-- nine lists in a row
nine_same : {X : Type 0} (a b c d e f g h i p q r s t u v w x : List X) → a ≡ p → b ≡ q → c ≡ r → d ≡ s → e ≡ t → f ≡ u → g ≡ v → h ≡ w → i ≡ x
    → a ++ b ++ c ++ d ++ e ++ f ++ g ++ h ++ i ≡ p ++ q ++ r ++ s ++ t ++ u ++ v ++ w ++ x
nine_same a b c d e f g h i p q r s t u v w x is_a is_b is_c is_d is_e is_f is_g is_h is_i = cc

pub canonical : (m n : Imaged) (s : CoreState) → AreOfOne m n → ShowsParts m.parts s → ShowsParts n.parts s → ShowsMirrors (mirrors_of m.mirrors) s → ShowsMirrors (mirrors_of n.mirrors) s
    → ShowsPool (pool_of m.pool) s → ShowsPool (pool_of n.pool) s → AreSameSeats m.seats n.seats → image_in m ≡ image_in n
canonical m n s both one other mirrors also pool others seats =
    nine_same (zones_fact (frames_of m.parts.frames)) (frames_said m) (processes_said m) (used_said m) (handles_said m) (slots_said m) (taken_said m) (stores_said m) (seats_said m)
    (zones_fact (frames_of n.parts.frames)) (frames_said n) (processes_said n) (used_said n) (handles_said n) (slots_said n) (taken_said n) (stores_said n) (seats_said n)
    (zones_same m n s both one other) (frames_same m n s both one other) (processes_same m n s both one other) (used_same m n s both pool others) (handles_same m n s both one other)
    (slots_same m n s mirrors also) (taken_same m n s both one other) (stores_same m n s both one other) (seats_same m n both seats)
