-- The turns of a pin: its walk, and then the slow ones.
use Rattle.std.proofs.Common.{◌≡◌, ℕ, ◌+◌, ◌<◌, ◌≤◌, ◌==◌, Bool, true, false, ◌&&◌, ◌||◌, nat_lt, not, [], ◌∷◌, length, None, refl, ap, sym, subst, ◌∙◌, inl, arith, eqb-true}
use Rattle.std.proofs.lemmas.Bool.Decides.{nat_tests}
use Rattle.gup_base.specs.declared.entry.Allowed.{Allowed}
use Rattle.gup_base.specs.declared.entry.Entry.{Entry}
use Rattle.gup_base.specs.declared.entry.Want.{Want}
use Rattle.gup_plain.specs.declared.note.What.TheVariants.{Silent}
use Rattle.gup_script.specs.Limits.{most_pinned}
use Rattle.gup_script.specs.Valid.{IsOp}
use Rattle.gup_script.specs.declared.op.Op.{Op}
use Rattle.gup_script.specs.declared.op.Op.TheVariants.{Pin}
use Rattle.gup_spec_tables.specs.Paths.{entry_at, leads_still}
use Rattle.gup_spec_events.specs.State.{CoreState, Job, idle, moving, walking, Counted, unread, WalkStep, entered, ready, reading, read, grabbed, rechecked, differed, refused, stopped, dropping, over, plain_of}
use Rattle.gup_spec_events.specs.Event.{is_odd, run, tree_in}
use Rattle.gup_spec_journal.specs.Place.{Place, Doer}
use Rattle.gup_spec_turns.specs.CoreTurn.{zones_of}
use Rattle.gup_spec_turns.specs.JobPlace.{JobPlace, job_place, place_in, KeepsFrame, unbegun}
use Rattle.gup_spec_turns.specs.PinPlace.{HasPages, IsWithin, IsWalkingPin, StandsAtPage, turns_over, most_over}
use Rattle.gup_spec_turns.specs.PinTurns.{pin_turn_in, pin_turn, begins_or_pins}
use Rattle.gup_spec_turns.specs.Waits.{waits_for_locks, locks_needed, pin_locks, both_if}
use Rattle.gup_spec_turns.specs.WalkTurns.{begin_turn, is_same, is_none_left, ready_turn, walk_turn}
use Rattle.gup_law_turns.proofs.CalmStates.{raising, entering}
use Rattle.gup_law_turns.proofs.TurnShapes.{references_of, FitsOp, FitsPin, IsSlowTurn, TurnOf, began_walk, at_rest}
use Rattle.gup_law_turns.proofs.ShownTurns.{IsOpen, IsTurned, idle_place}
use Rattle.gup_law_turns.proofs.PinOps.{none_taken, pin_by, moved_by}
use Rattle.gup_law_turns.proofs.Puts.{put_same}
use Rattle.gup_law_turns.proofs.WalkSteps.{reads_sequence}
use Rattle.gup_law_turns.proofs.WalkPages.{reads_entry, grabs, rechecks, marks, drops_grab, drops_page}
use Rattle.gup_law_turns.proofs.WalkEnds.{reads_stopped, reads_all, drops_next}

-- one that doesn't begin its walk is slow
slow_by : (fast : Bool) (far : ℕ) → (fast && far == 0) ≡ false → IsSlowTurn fast far
slow_by true far is = grind (arith, nat_tests)
slow_by false far is = tt

slow_begun : (fast : Bool) (far : ℕ) → 0 < far → IsSlowTurn fast far
slow_begun true far begun = begun
slow_begun false far begun = tt

-- one in the middle of a page has begun
begun_page : (q g got far : ℕ) (e : Entry) (allowed : Allowed) (count : Counted) → got + turns_over (moving q g e allowed count) ≤ far → 0 < far
begun_page q g got far e allowed unread least = omega (arith, least)
begun_page q g got far e allowed count least = omega (arith, least)

-- one that begins its walk walks, and stands at its first turn
begins_by : (fast : Bool) (far : ℕ) → (fast && far == 0) ≡ true → (fast ≡ true) × (far ≡ 0)
begins_by true far is = (refl, eqb-true far 0 is)
begins_by false far is = absurd (cc is)

-- the first turn of a pin that walks
begun_walk : (s : CoreState) (who : Doer) (place : Place) → IsOpen s who.actor who.proc → (handle page n : ℕ) (want : Want) → 1 ≤ n → FitsPin s who.actor who.proc handle page n want true place (s.taken who.actor) idle → s.job who.actor ≡ idle → place.far ≡ 0 → place.had ≡ false → IsTurned s who place (Pin handle page n want true) (begin_turn who.actor who.proc want)
begun_walk s who place h handle page n want some fits job first silent =
    let a : ℕ = who.actor in
    let p : ℕ = who.proc in
    let next : Job = walking p want.write want.long 0 entered in
    let t : CoreState = run s (begin_turn a p want).events in
    let least = fits.least in
    let none : length (s.taken a) ≡ 0 = omega (arith, least, first) in
    let untaken : s.taken a ≡ [] = none_taken (s.taken a) none in
    let none_prepared : s.prepared a ≡ None = subst (λ (j : Job). KeepsFrame j (s.prepared a)) job h.rest.prepared in
    let is : t.job a ≡ next = put_same a next s.job in
    let flag : t.has_pinned p ≡ true = put_same p true s.has_pinned in
    record {
      done = record {
        kinds = (raising handle refl, (entering handle refl want.write want.long, tt));
        can = (h.birth, ((h.birth, (job, none_prepared), untaken, put_same p true s.has_pinned), tt));
        rest = at_rest t a none_prepared h.rest.owed;
        told = refl;
      };
      shape = subst (λ (x : JobPlace). TurnOf (plain_of s) (references_of s) who place (Pin handle page n want true) x (Silent ∷ []) (place_in t a)) (sym (idle_place s a job))
          (subst (λ (y : JobPlace). TurnOf (plain_of s) (references_of s) who place (Pin handle page n want true) unbegun (Silent ∷ []) y) (sym (ap (λ (j : Job). job_place j (t.prepared a)) is))
          (began_walk handle page n want (first, silent) (omega (arith, some))));
      next = subst (λ (j : Job). FitsPin t a p handle page n want true (record place { far = place.far + 1 }) (s.taken a) j) (sym is)
          (record {
            had_none = λ never none. absurd (cc never);
            had_some = fits.had_some;
            least = omega (arith, none);
            most = omega (arith, first);
            within = omega (arith, none);
            yet = fits.yet;
            has = fits.has;
            flag = λ walks some. flag;
            at = record { walks = refl; of = refl; writes = refl; keeps = refl; flag = flag; unread = λ same. refl; here = none; there = tt };
          });
      pin = inl (refl, refl);
    }

-- its next turns, step by step
walk_turned : (s : CoreState) (who : Doer) (place : Place) → IsOpen s who.actor who.proc → (handle page n : ℕ) (want : Want) → 1 ≤ n → n ≤ most_pinned → (sequence : ℕ) (step : WalkStep) → s.job who.actor ≡ walking who.proc want.write want.long sequence step → FitsPin s who.actor who.proc handle page n want true place (s.taken who.actor) (walking who.proc want.write want.long sequence step) → IsTurned s who place (Pin handle page n want true) (walk_turn s who.actor who.proc handle page n want sequence step)
walk_turned s who place h handle page n want some few sequence entered job fits =
    reads_sequence s who place h handle page n want some few sequence entered job fits refl (is_odd (s.sequence who.proc)) refl
walk_turned s who place h handle page n want some few sequence ready job fits = by_more (nat_lt (length (s.taken who.actor)) n) refl
  where
    by_more : (more : Bool) → nat_lt (length (s.taken who.actor)) n ≡ more → IsTurned s who place (Pin handle page n want true) (ready_turn s who.actor who.proc handle (page + length (s.taken who.actor)) n want sequence more)
    by_more true more = reads_entry s who place h handle page n want some few sequence job fits (grind (arith, nat_tests))
    by_more false none = let within = fits.within in reads_all s who place h handle page n want some few sequence job fits (grind (arith, nat_tests, within)) (s.sequence who.proc == sequence) refl
walk_turned s who place h handle page n want some few sequence (reading g path) job fits = absurd fits.at.here
walk_turned s who place h handle page n want some few sequence (read g path e) job fits = grabs s who place h handle page n want some few sequence g path e job fits (s.count e.frame) refl
walk_turned s who place h handle page n want some few sequence (grabbed g path e) job fits =
    rechecks s who place h handle page n want some few sequence g path e job fits (leads_still (tree_in s who.proc) path g) (is_same e (entry_at (tree_in s who.proc) path g)) refl refl
walk_turned s who place h handle page n want some few sequence (rechecked g e) job fits =
    marks s who place h handle page n want some few sequence g e job fits (e.writable || s.mark e.frame) refl
walk_turned s who place h handle page n want some few sequence (differed f) job fits = drops_grab s who place h handle page n want some few sequence f job fits
walk_turned s who place h handle page n want some few sequence refused job fits = drops_page s who place h handle page n want some few sequence job fits
walk_turned s who place h handle page n want some few sequence stopped job fits =
    reads_stopped s who place h handle page n want some few sequence job fits (s.sequence who.proc == sequence) (is_none_left (s.taken who.actor)) refl refl
walk_turned s who place h handle page n want some few sequence dropping job fits = drops_next s who place h handle page n want some few sequence job fits (s.taken who.actor) refl
walk_turned s who place h handle page n want some few sequence over job fits = absurd fits.at.here

module _ (s : CoreState) (who : Doer) (place : Place) (h : IsOpen s who.actor who.proc) (handle page n : ℕ) (want : Want) (fast : Bool) (range : IsOp (Pin handle page n want fast)) (fresh : place.far ≡ 0 → place.had ≡ false) (fits : FitsOp s who (Pin handle page n want fast) place) where
  abbrev a : ℕ
  a = who.actor

  abbrev p : ℕ
  p = who.proc

  abbrev op : Op
  op = Pin handle page n want fast

  abbrev got : ℕ
  got = length (s.taken a)

  -- its walk begins

  begins_walk : (fast && place.far == 0) ≡ true → s.job a ≡ idle → IsTurned s who place op (begin_turn a p want)
  begins_walk begins job =
      let both = begins_by fast place.far begins in
      subst (λ (b : Bool). IsTurned s who place (Pin handle page n want b) (begin_turn a p want)) (sym both.0)
      (begun_walk s who place h handle page n want range.0 (subst (λ (b : Bool). FitsPin s a p handle page n want b place (s.taken a) idle) both.0 (subst (λ (j : Job). FitsPin s a p handle page n want fast place (s.taken a) j) job fits)) job both.1 (fresh both.1))

  -- and goes on

  walks : (q : ℕ) (write long : Bool) (sequence : ℕ) (step : WalkStep) → s.job a ≡ walking q write long sequence step → IsWalkingPin s p (page + got) n got want fast q write long sequence step → IsTurned s who place op (walk_turn s a p handle page n want sequence step)
  walks q write long sequence step job at =
      let same : walking q write long sequence step ≡ walking p want.write want.long sequence step =
      ap (λ (k : ℕ). walking k write long sequence step) at.of ∙ ap (λ (b : Bool). walking p b long sequence step) at.writes ∙ ap (λ (b : Bool). walking p want.write b sequence step) at.keeps in
      subst (λ (b : Bool). IsTurned s who place (Pin handle page n want b) (walk_turn s a p handle page n want sequence step)) (sym at.walks)
      (walk_turned s who place h handle page n want range.0 range.1 sequence step (job ∙ same)
      (subst (λ (b : Bool). FitsPin s a p handle page n want b place (s.taken a) (walking p want.write want.long sequence step)) at.walks
      (subst (λ (j : Job). FitsPin s a p handle page n want fast place (s.taken a) j) (job ∙ same) fits)))

  -- where it is in the middle of nothing
  idle_by : (begins : Bool) → (fast && place.far == 0) ≡ begins → s.job a ≡ idle → waits_for_locks (both_if (not begins)) a (s.structure p) (s.table p) ≡ None → IsTurned s who place op (begins_or_pins begins s a p handle page n got want fast)
  idle_by true begins is free = begins_walk begins is
  idle_by false slow is free =
      pin_by s who place h handle page n want fast range fits (subst (IsWithin n got) is fits.within) (subst (HasPages p page want got (s.taken a)) is fits.has) (slow_by fast place.far slow) is got refl free

  pin_in : (job : Job) → s.job a ≡ job → StandsAtPage s a p (page + got) n got want fast job → waits_for_locks (pin_locks fast place.far job) a (s.structure p) (s.table p) ≡ None → IsTurned s who place op (pin_turn_in s a p handle page n got want fast place.far job)
  pin_in idle is stands free =
      idle_by (fast && place.far == 0) refl is free
  pin_in (moving q g e allowed count) is stands free =
      let job : s.job a ≡ moving p (page + got) e (zones_of want) count = is ∙ ap (λ (k : ℕ). moving k g e allowed count) stands.0 ∙ ap (λ (k : ℕ). moving p k e allowed count) stands.1 ∙ ap (λ (zones : Allowed). moving p (page + got) e zones count) stands.2 in
      let least : got + turns_over (moving p (page + got) e (zones_of want) count) ≤ place.far = subst (λ (j : Job). got + turns_over j ≤ place.far) job fits.least in
      moved_by s who place h handle page n want fast range fits (subst (IsWithin n got) job fits.within) (subst (HasPages p page want got (s.taken a)) job fits.has)
      (slow_begun fast place.far (begun_page p (page + got) got place.far e (zones_of want) count least)) e (turns_over (moving p (page + got) e (zones_of want) count)) least
      (subst (λ (j : Job). place.far ≤ most_over fast want.long n got j) job fits.most)
      stands.4 count refl job
  pin_in (walking q write long sequence step) is stands free = walks q write long sequence step is stands
  pin_in job is stands free = absurd stands

pub pin_turned : (s : CoreState) (who : Doer) (place : Place) → IsOpen s who.actor who.proc → (handle page n : ℕ) (want : Want) (fast : Bool) → IsOp (Pin handle page n want fast) → (place.far ≡ 0 → place.had ≡ false) → FitsOp s who (Pin handle page n want fast) place → waits_for_locks (locks_needed s who.actor who.proc place.far (Pin handle page n want fast)) who.actor (s.structure who.proc) (s.table who.proc) ≡ None → IsTurned s who place (Pin handle page n want fast) (pin_turn s who.actor who.proc handle page n want fast place.far)
pin_turned s who place h handle page n want fast range fresh fits free =
    pin_in s who place h handle page n want fast range fresh fits (s.job who.actor) refl fits.at free
