-- What turns do to mirror slots: a mirror fills its slot, a look reads through one, a refusal leaves all, and any other turn leaves
-- those of pages that it doesn't invalidate.
use Rattle.std.proofs.Common.{◌≡◌, ℕ, ◌<◌, Bool, false, List, [], ◌∷◌, length, slice_get, Option, Some, None, Ok, Err, IfSome, refl, sym, ap, ◌∙◌, subst, arith}
use Rattle.gup_plain.specs.State.{Birth as CoreBirth, born}
use Rattle.gup_plain.specs.declared.note.What.{What}
use Rattle.gup_script.specs.declared.op.Op.{Op}
use Rattle.gup_script.specs.declared.op.Op.TheVariants.{Mirror, Look}
use Rattle.gup_space.specs.Space.{SpaceValue, SpaceParts, space_of}
use Rattle.gup_space.specs.Shows.{ShowsSpace}
use Rattle.gup_space.proofs.ShowsLemmas.{leave_other}
use Rattle.gup_notify.specs.Mirrors.{Filled, MirrorsValue, mirrors_of}
use Rattle.gup_notify.specs.Shows.{ShowsMirrors}
use Rattle.gup_spec_journal.specs.Place.{Doer, birth_for}
use Rattle.gup_spec_events.specs.State.{CoreState, Taken as TakenPage, Job, forking, counted}
use Rattle.gup_spec_events.specs.Event.{CoreEvent, happens, fill_mirror, run}
use Rattle.gup_spec_events.specs.Fault.{Fault, events_of}
use Rattle.gup_spec_turns.specs.CoreTurn.{CoreTurn, after_fault, entry_in}
use Rattle.gup_spec_turns.specs.Emptying.{has_page, invalidate, left_in, emptying}
use Rattle.gup_spec_turns.specs.JobPlace.{JobPlace as Place, job_place, place_in, at_word}
use Rattle.gup_spec_turns.specs.MirrorTurns.{fills, mirror_turn, look_turn}
use Rattle.gup_spec_turns.specs.PageTurns.{load_fault}
use Rattle.gup_spec_turns.specs.Turn.{op_turn, failed_turn, turn_at, own_turn}
use Rattle.gup_spec_turns.specs.Waits.{waits_born, waiting_for}
use Rattle.gup_law_mirrors.specs.Invalidated.{shared_in, range_from}
use Rattle.gup_law_mirrors.proofs.InvalidatingTurns.{forked}
use Rattle.gup_law_turns.specs.Slots.{LeavesSlot, EmptiesSlots}
use Rattle.gup_law_turns.proofs.EmptiedSlots.{none_emptying, emptying_stale}
use Rattle.gup_law_turns.proofs.MirrorOps.{mirror_none, look_none, look_leaves}
use Rattle.gup_op_base.specs.Turns.{Leads, IsTurnOf, Anywhere}
use Rattle.gup_op_base.proofs.Leading.{leads_alike}
use Rattle.gup_op_base.specs.Jobs.{place_of}
use Rattle.gup_op_base.specs.declared.jobs.JobPlace.{JobPlace}
use Rattle.gup_op_mirrors.specs.Emptied.{LeavesSlotsOf}
use Rattle.gup_op_mirrors.proofs.EmptiedSlots.{has_entry, none_left}
use Rattle.gup_op_slots.specs.Mirroring.{ShowsMirroring, mirroring_view, ShowsLooking, looking_view}
use Rattle.gup_op_waits.specs.Births.{HasFailed}
use Rattle.gup_op_waits.specs.Doers.{IsProcessOf}
use Rattle.gup_op_waits.specs.Parts.{ShowsBirths, ShowsParts}
use Rattle.gup_op_waits.specs.declared.births.Birth.{Birth}
use Rattle.gup_op_waits.specs.declared.parts.Parts.{Parts}
use Rattle.gup_op_waits.proofs.Waits.{born_and_free}
use Rattle.gup_op_turns.specs.Copies.{IsCopyAt}
use Rattle.gup_op_turns.specs.declared.copies.WordCopy.{WordCopy}
use Rattle.gup_op_turns.specs.Goes.{ShowsAll, TakesOwnMirrors, IsNoMirror, EndsAt, all_view}
use Rattle.gup_op_turns.proofs.Owning.{AreOwn, are_of, load_fault_own, pins_of, own_leave_pins, births_stay, IsUnforked, forks_stay, Pins}
use Rattle.gup_op_turns.proofs.Refusing.{IsRefusal, nothing, fails_too, refusal, birth_failed, birth_unfailed}
use Rattle.gup_op_turns.proofs.Turning.{IsTurnWith, there, replaced, births_shown, pins_shown, taken_shown, stores_shown}
use Rattle.gup_spec_events.proofs.Runs.{run_behind}

-- ---- which turn it is

-- that of the operation, of a process that hasn't failed, or of none
pub turn_born : (births : List Birth) (proc : Option ℕ) (who : Doer) (s : CoreState) (k : ℕ) (op : Op) → (HasFailed births proc → ⊥) → IfSome proc (λ p. p < length births)
    → IsProcessOf who proc → ShowsBirths births s → waiting_for s who k op ≡ None
    → own_turn s who k op ≡ emptying s who.actor (op_turn s who.actor who.proc who.slots k op)
turn_born births proc who s k op unfailed within of_who shown free =
    let other = birth_unfailed births proc who s unfailed within of_who shown in
    let is_born : birth_for s.birth who ≡ born = (born_and_free (birth_for s.birth who) who.proc (waits_born s who.actor who.proc k op) other free).0 in
    ap (λ (b : CoreBirth). emptying s who.actor (turn_at b (failed_turn who.actor who.proc op) (op_turn s who.actor who.proc who.slots k op))) is_born

-- and the refusal of a failed one
pub turn_lost : (births : List Birth) (proc : Option ℕ) (who : Doer) (s : CoreState) (k : ℕ) (op : Op) → HasFailed births proc → IsProcessOf who proc → ShowsBirths births s
    → own_turn s who k op ≡ emptying s who.actor (failed_turn who.actor who.proc op)
turn_lost births proc who s k op has of_who shown =
    ap (λ (b : CoreBirth). emptying s who.actor (turn_at b (failed_turn who.actor who.proc op) (op_turn s who.actor who.proc who.slots k op)))
    (birth_failed births proc who s has of_who shown)

-- ---- what is left of slots

-- a refusal leaves all
refusal_none : (a p : ℕ) (op : Op) (q g : ℕ) {es : List CoreEvent} → IsRefusal a p op es → invalidate es q g ≡ false
refusal_none a p op q g nothing = refl
refusal_none a p op q g (fails_too child is) = refl

refusal_shown : (mirrors : MirrorsValue) (a p : ℕ) (op : Op) (s : CoreState) {es : List CoreEvent} → IsRefusal a p op es → ShowsMirrors mirrors s → ShowsMirrors mirrors (run s es)
refusal_shown mirrors a p op s nothing h = h
refusal_shown mirrors a p op s (fails_too child is) h = h

pub refused_mirrors : (parts : Parts) (a : ℕ) (proc : Option ℕ) (far : ℕ) (op : Op) (job : JobPlace) (mirrors : MirrorsValue) → HasFailed parts.births.items proc → TakesOwnMirrors parts a proc far op job mirrors mirrors
refused_mirrors parts a proc far op job mirrors has s who k others left own of_who far_is shown stands emptied =
    let t : CoreTurn = failed_turn who.actor who.proc op in
    let made : IsRefusal who.actor who.proc op t.events = refusal who.actor who.proc op in
    let is : own_turn s who k op ≡ t =
    turn_lost parts.births.items proc who s k op has of_who shown.parts.births ∙ none_emptying s who.actor t (λ q g. refusal_none who.actor who.proc op q g made) in
    subst (λ (u : CoreTurn). ShowsMirrors mirrors (run s u.events)) (sym is) (refusal_shown mirrors who.actor who.proc op s made stands.slots)

-- an operation that is no mirror leaves every slot to what its turn empties
no_mirror_leaves : (op : Op) (m : ℕ) → IsNoMirror op → LeavesSlot (Some op) m
no_mirror_leaves op m apart proc page is = subst (λ (o : Op). IsNoMirror o) (some_op is) apart
  where
    some_op : {o x : Op} → Some o ≡ Some x → o ≡ x
    some_op e = cc

module _ (s : CoreState) (who : Doer) (a k : ℕ) (op : Op) (own : who.actor ≡ a) (is : own_turn s who k op ≡ emptying s who.actor (op_turn s who.actor who.proc who.slots k op)) (apart : IsNoMirror op) (emptied : EmptiesSlots s (Some op) (own_turn s who k op)) where
  abbrev behind : CoreState
  behind = run s (own_turn s who k op).events

  pub slots_left : (m : ℕ) → behind.mirrored m ≡ left_in (op_turn s a who.proc who.slots k op).events (s.mirrored m) (s.slot m)
  slots_left m =
      emptied.left m (no_mirror_leaves op m apart)
      ∙ ap (λ (u : CoreTurn). left_in u.events (s.mirrored m) (s.slot m)) is
      ∙ emptying_stale s who.actor (op_turn s who.actor who.proc who.slots k op) (s.mirrored m) (s.slot m)
      ∙ ap (λ (b : ℕ). left_in (op_turn s b who.proc who.slots k op).events (s.mirrored m) (s.slot m)) own

  pub slots_noted : (m : ℕ) → behind.slot m ≡ s.slot m
  slots_noted m = emptied.notes m (no_mirror_leaves op m apart)

-- so it is where those were emptied that the turn is to empty
pub left_mirrors : (parts : Parts) (a : ℕ) (proc : Option ℕ) (far : ℕ) (op : Op) (job : JobPlace) (old new : MirrorsValue)
    → (HasFailed parts.births.items proc → ⊥) → IfSome proc (λ p. p < length parts.births.items) → IsNoMirror op
    → LeavesSlotsOf parts a proc far job op old new → TakesOwnMirrors parts a proc far op job old new
left_mirrors parts a proc far op job old new unfailed within apart leaves s who k others left own of_who far_is shown stands emptied =
    let is = turn_born parts.births.items proc who s k op unfailed within of_who shown.parts.births stands.free.free in
    leaves s (run s (own_turn s who k op).events) who who.slots k shown.parts stands.slots stands.free.sound of_who far_is shown.job stands.free.at
    (slots_left s who a k op own is apart emptied) (slots_noted s who a k op own is apart emptied)

-- a fork that copies a word invalidates no page
copying_shares_none : (s : CoreState) (child : ℕ) (job : Job) (prepared : Option ℕ) (page word to : ℕ) → job_place job prepared ≡ at_word page word to → shared_in s child job ≡ None
copying_shares_none s child (forking q c done (counted g)) prepared page word to is = absurd (cc is)
copying_shares_none s child (forking q c done step) prepared page word to is = refl
copying_shares_none s child job prepared page word to is = refl

pub copied_mirrors : (parts : Parts) (a : ℕ) (proc : Option ℕ) (far : ℕ) (op : Op) (job : JobPlace) (copy : WordCopy) (mirrors : MirrorsValue)
    → (HasFailed parts.births.items proc → ⊥) → IfSome proc (λ p. p < length parts.births.items) → IsCopyAt parts.births.items proc job op copy
    → TakesOwnMirrors parts a proc far op job mirrors mirrors
copied_mirrors parts a proc far op job copy mirrors unfailed within copies s who k others left own of_who far_is shown stands emptied =
    let is = turn_born parts.births.items proc who s k op unfailed within of_who shown.parts.births stands.free.free in
    let apart : IsNoMirror op = subst (λ (o : Op). IsNoMirror o) (sym copies.is_fork) tt in
    let at : place_in s a ≡ at_word copy.page copy.word copy.to = sym shown.job ∙ ap place_of copies.stands in
    let none : shared_in s copy.child (s.job a) ≡ None = copying_shares_none s copy.child (s.job a) (s.prepared a) copy.page copy.word copy.to at in
    none_left mirrors s (run s (own_turn s who k op).events) (op_turn s a who.proc who.slots k op).events stands.slots
    (slots_left s who a k op own is apart emptied) (slots_noted s who a k op own is apart emptied)
    (λ m filled is_filled.
    ap (λ (o : Op). invalidate (op_turn s a who.proc who.slots k o).events filled.proc filled.page) copies.is_fork
    ∙ forked s a who.proc copy.child (s.job a) filled.proc filled.page (has_entry s mirrors stands.free.sound stands.slots m filled is_filled)
    ∙ ap (λ (page : Option ℕ). has_page (range_from who.proc 1 page) filled.proc filled.page) none)

-- ---- a mirror

-- the filling of a slot leaves processes
space_filled : (q : ℕ) (space : SpaceValue) (t : CoreState) (a m p page f : ℕ) (writable : Bool) → ShowsSpace q space t → ShowsSpace q space (happens t (fill_mirror a m p page f writable))
space_filled q space t a m p page f writable x =
    record { right = x.right; pages = x.pages; entry = x.entry; sequence = x.sequence; has_pinned = x.has_pinned; structure = x.structure; table = x.table; walks = x.walks; place = x.place; retired = x.retired }

module _ (old new : Parts) (a p m page : ℕ) (op : Op) (place : JobPlace) (others : ℕ → Place) (left : ℕ → List TakenPage) (y : SpaceParts) (mirrors : List (Option Filled)) (whats : List What) (s : CoreState)
    (births : new.births ≡ old.births) (handles : new.handles ≡ old.handles) (taken : new.taken ≡ old.taken) (stores : new.stores ≡ old.stores)
    (here : slice_get new.spaces.items p ≡ Some y) (unmoved : (q : ℕ) → (q ≡ p → ⊥) → slice_get new.spaces.items q ≡ slice_get old.spaces.items q)
    (shown : ShowsAll a op (all_view old place others left) s) (unforked : IsUnforked (s.job a)) where
  abbrev IsShownBy : CoreTurn → Type 0
  IsShownBy turn =
      Leads (ShowsMirroring p) (mirroring_view new.frames y mirrors) s turn whats → Leads (ShowsAll a op) (all_view new place others left) s turn whats

  -- where all else stays
  all_shown : (turn : CoreTurn) → (run s turn.events).birth ≡ s.birth → pins_of (run s turn.events) ≡ pins_of s
      → ((q : ℕ) (space : SpaceParts) → (q ≡ p → ⊥) → ShowsSpace q (space_of space) s → ShowsSpace q (space_of space) (run s turn.events))
      → ((b : ℕ) → place_in (run s turn.events) b ≡ place_in s b) → IsShownBy turn
  all_shown turn birth stay spaces places led =
      let t : CoreState = run s turn.events in
      let parts : ShowsParts new t =
      record {
        frames = led.shown.frames;
        spaces =
            replaced (λ q space. ShowsSpace q (space_of space) t) old.spaces.items new.spaces.items p y here unmoved led.shown.space
            (λ q space apart found. spaces q space apart (shown.parts.spaces q space found));
        births = births_shown old new s t births birth shown.parts.births;
        pins = pins_shown old new s t handles stay shown.parts.pins;
        taken = taken_shown old new s t taken (ap (λ (k : Pins). k.2) stay) shown.parts.taken;
        stores = stores_shown old new s t stores (ap (λ (k : Pins). k.3) stay) shown.parts.stores;
      } in
      record {
        says = led.says;
        shown = record {
          parts = parts;
          job = shown.job ∙ sym (places a);
          ends = subst (EndsAt op place) (ap (λ (k : Pins). k.2 a) (sym stay)) shown.ends;
          others = λ b apart. places b ∙ shown.others b apart;
          left = λ b apart. ap (λ (k : Pins). k.2 b) stay ∙ shown.left b apart;
        };
      }

  shown_by : (fault : Fault) → AreOwn a p (events_of fault) → IsShownBy (after_fault fault (λ before. fills s before a p m page))
  shown_by (Err answer) own =
      all_shown (after_fault (Err answer) (λ before. fills s before a p m page)) refl refl (λ q space apart x. x) (λ b. refl)
  shown_by (Ok before) own =
      let t : CoreState = run s before in
      let e = entry_in (t.entry p page) in
      let same = run_behind s before (fill_mirror a m p page e.frame e.writable ∷ []) in
      all_shown (after_fault (Ok before) (λ es. fills s es a p m page))
      (ap (λ (u : CoreState). u.birth) same ∙ births_stay a p s before own)
      (ap pins_of same ∙ own_leave_pins a p s before own)
      (λ q space apart x.
      subst (ShowsSpace q (space_of space)) (sym same)
      (space_filled q (space_of space) t a m p page e.frame e.writable (leave_other p q (space_of space) s before (λ is. apart (sym is)) (are_of a p before own) x)))
      (λ b. ap (λ (u : CoreState). place_in u b) same ∙ forks_stay a p b s before own unforked)

-- what is shown of the turn of a mirror: it leaves all else, and the state after it has its slot
pub record IsFilledBy (old new : Parts) (a p m page : ℕ) (was now : List (Option Filled)) (whats : List What) : Type 0 where
  pub there : p < length old.spaces.items
  pub many : length new.spaces.items ≡ length old.spaces.items
  pub births : new.births ≡ old.births
  pub handles : new.handles ≡ old.handles
  pub taken : new.taken ≡ old.taken
  pub stores : new.stores ≡ old.stores
  pub unmoved : (q : ℕ) → (q ≡ p → ⊥) → slice_get new.spaces.items q ≡ slice_get old.spaces.items q
  pub turn : (x y : SpaceParts) → slice_get old.spaces.items p ≡ Some x → slice_get new.spaces.items p ≡ Some y → IsTurnOf (ShowsMirroring p) Anywhere (mirroring_view old.frames x was) (mirroring_view new.frames y now) (λ s. mirror_turn s a p m page (s.entry p page)) whats

module _ (old new : Parts) (a : ℕ) (proc : Option ℕ) (p m q page far : ℕ) (place : JobPlace) (was now : List (Option Filled)) (whats : List What)
    (unfailed : HasFailed old.births.items proc → ⊥) (within : IfSome proc (λ p. p < length old.births.items)) (some : proc ≡ Some p) (by : IsFilledBy old new a p m page was now whats) where
  abbrev op : Op
  op = Mirror m q page

  of_p : (who : Doer) → IsProcessOf who proc → who.proc ≡ p
  of_p who of_who = (subst (λ (o : Option ℕ). IsProcessOf who o) some of_who).1

  turn_is : (s : CoreState) (who : Doer) (k : ℕ) → who.actor ≡ a → IsProcessOf who proc → ShowsBirths old.births.items s → waiting_for s who k op ≡ None → own_turn s who k op ≡ mirror_turn s a p m page (s.entry p page)
  turn_is s who k own of_who shown free =
      let bare : CoreTurn = mirror_turn s who.actor who.proc m page (s.entry who.proc page) in
      turn_born old.births.items proc who s k op unfailed within of_who shown free
      ∙ none_emptying s who.actor bare (λ r g. mirror_none s who.actor who.proc m page r g (s.entry who.proc page))
      ∙ ap (λ (b : ℕ). mirror_turn s b who.proc m page (s.entry who.proc page)) own
      ∙ ap (λ (r : ℕ). mirror_turn s a r m page (s.entry r page)) (of_p who of_who)

  leads : (s : CoreState) (others : ℕ → Place) (left : ℕ → List TakenPage) → ShowsAll a op (all_view old place others left) s → ShowsMirrors (mirrors_of was) s
      → (y : SpaceParts) → slice_get new.spaces.items p ≡ Some y → Leads (ShowsMirroring p) (mirroring_view new.frames y now) s (mirror_turn s a p m page (s.entry p page)) whats
  leads s others left shown slots y here =
      let x = there old.spaces.items p by.there in
      by.turn x.0 y x.1 here s (record { frames = shown.parts.frames; space = shown.parts.spaces p x.0 x.1; mirrors = slots }) tt

  new_space : (y : SpaceParts) × (slice_get new.spaces.items p ≡ Some y)
  new_space = let within_new = by.there in there new.spaces.items p (omega (arith, within_new, by.many))

  pub filled : IsTurnWith (mirrors_of was) old new a proc far op place whats place
  filled who k others left own of_who slots far_is s shown stands =
      let y = new_space in
      let none : IsUnforked (s.job a) = λ f. ap (λ job. job_place job f) (stands.free.at.idle_job tt) in
      leads_alike (turn_is s who k own of_who shown.parts.births stands.free.free)
      (shown_by old new a p m page op place others left y.0 now whats s by.births by.handles by.taken by.stores y.1 by.unmoved shown none
      (load_fault s a p page (s.entry p page)) (load_fault_own s a p page (s.entry p page)) (leads s others left shown stands.slots y.0 y.1))

  pub filled_mirrors : TakesOwnMirrors old a proc far op place (mirrors_of was) (mirrors_of now)
  filled_mirrors s who k others left own of_who far_is shown stands emptied =
      let y = new_space in
      subst (λ (u : CoreTurn). ShowsMirrors (mirrors_of now) (run s u.events)) (sym (turn_is s who k own of_who shown.parts.births stands.free.free))
      (leads s others left shown stands.slots y.0 y.1).shown.mirrors

-- ---- a look

module _ (parts : Parts) (a : ℕ) (proc : Option ℕ) (m word far : ℕ) (place : JobPlace) (mirrors : List (Option Filled)) (whats : List What)
    (unfailed : HasFailed parts.births.items proc → ⊥) (within : IfSome proc (λ p. p < length parts.births.items))
    (turn : IsTurnOf ShowsLooking Anywhere (looking_view parts.frames mirrors) (looking_view parts.frames mirrors) (λ s. look_turn s a m word (s.mirrored m)) whats) where
  look_is : (s : CoreState) (who : Doer) (k : ℕ) → who.actor ≡ a → IsProcessOf who proc → ShowsBirths parts.births.items s → waiting_for s who k (Look m word) ≡ None → own_turn s who k (Look m word) ≡ look_turn s a m word (s.mirrored m)
  look_is s who k own of_who shown free =
      turn_born parts.births.items proc who s k (Look m word) unfailed within of_who shown free
      ∙ none_emptying s who.actor (look_turn s who.actor m word (s.mirrored m)) (λ q g. look_none s who.actor m word q g (s.mirrored m))
      ∙ ap (λ (b : ℕ). look_turn s b m word (s.mirrored m)) own

  pub looked : IsTurnWith (mirrors_of mirrors) parts parts a proc far (Look m word) place whats place
  looked who k others left own of_who slots far_is s shown stands =
      let led = turn s (record { frames = shown.parts.frames; mirrors = stands.slots }) tt in
      leads_alike (look_is s who k own of_who shown.parts.births stands.free.free)
      (record { says = led.says; shown = subst (ShowsAll a (Look m word) (all_view parts place others left)) (sym (look_leaves s a m word (s.mirrored m))) shown })

  pub looked_mirrors : TakesOwnMirrors parts a proc far (Look m word) place (mirrors_of mirrors) (mirrors_of mirrors)
  looked_mirrors s who k others left own of_who far_is shown stands emptied =
      subst (λ (u : CoreTurn). ShowsMirrors (mirrors_of mirrors) (run s u.events)) (sym (look_is s who k own of_who shown.parts.births stands.free.free))
      (subst (ShowsMirrors (mirrors_of mirrors)) (sym (look_leaves s a m word (s.mirrored m))) stands.slots)
