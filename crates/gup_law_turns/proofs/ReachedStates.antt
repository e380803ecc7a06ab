-- What is known of each state that turns lead to.
use Rattle.std.proofs.Common.{◌≡◌, ℕ, ◌≤◌, ◌<◌, ◌⊎◌, inl, inr, Bool, List, [], ◌∷◌, length, slice_get, Contains, Option, Some, None, IsSome, true, false, refl, ap, sym, ◌∙◌, subst, arith, ◌+◌, zero, suc}
use Rattle.std.proofs.lemmas.List.Sums.{get_or-le-sum_by}
use Rattle.std.proofs.lemmas.Option.{slice_get_within}
use Rattle.gup_base.specs.declared.entry.Entry.{Entry}
use Rattle.gup_base.specs.declared.entry.Rights.{Rights}
use Rattle.gup_base.specs.declared.entry.Want.{Want}
use Rattle.gup_base.specs.declared.entry.Zone.{Zone}
use Rattle.gup_plain.specs.State.{PlainState, unborn, failed, Handle, unmade, held, given, objects_of}
use Rattle.gup_plain.specs.Event.{most_pages}
use Rattle.gup_plain.specs.declared.note.What.{What}
use Rattle.gup_plain.specs.declared.note.Waiting.{Waiting}
use Rattle.gup_script.specs.declared.op.Op.{Op}
use Rattle.gup_script.specs.declared.op.Op.TheVariants.{Unmap, Discard, Pin, Unpin, Transfer, Move, Fork, Exit}
use Rattle.gup_script.specs.Script.{ScriptValue}
use Rattle.gup_script.specs.Valid.{IsScript, IsOp}
use Rattle.gup_spec_events.specs.State.{CoreState, core_start, Taken, Job, idle, marking, moving, walking, forking, between, counted, copying}
use Rattle.gup_spec_events.specs.Event.{CoreEvent, Can, happens, run, bias}
use Rattle.gup_spec_events.specs.Invariant.{AllCan, Holds, entry_of_page, page_of_pin, got_as, got_frame, weight, frame_of, grabbed_frame}
use Rattle.gup_spec_events.proofs.Runs.{flag_after}
use Rattle.gup_law_base.specs.Sound.{IsSound}
use Rattle.gup_law_tables.specs.Standing.{TablesStand, EntriesStand, IsSomewhere}
use Rattle.gup_law_tables.specs.Inside.{WalksStand}
use Rattle.gup_law_tables.proofs.TableEvents.{stay}
use Rattle.gup_law_tables.proofs.Paths.{first_paths, paths_stand}
use Rattle.gup_law_tables.proofs.Nowhere.{none_made, not_made_run}
use Rattle.gup_law_base.specs.Sound as sounds
use Rattle.gup_spec_journal.specs.Denial.{References}
use Rattle.gup_spec_journal.specs.Place.{Place, Doer, place_behind, ops_of, present_op, process_of, doer_of, starts_born}
use Rattle.gup_plain.specs.Pages.{mapped_pages}
use Rattle.gup_spec_turns.specs.PinPlace.{IsNoPin, HasTaken, HasPages, IsWithin, StandsAtPage, StandsPin, most_over}
use Rattle.gup_spec_turns.specs.Cost.{pin_turns, walk_turns}
use Rattle.gup_spec_turns.specs.JobPlace.{JobPlace, StandsFork, StandsMove, KeepsNoJob}
use Rattle.gup_law_turns.specs.Standing.{StandsHandle, back_in, IsStanding}
use Rattle.gup_spec_turns.specs.Run.{turned, RunState, run_start, run_after, op_in, core_turn_in}
use Rattle.gup_law_turns.proofs.ScriptLemmas.{op_is_op, has_ops_declared}
use Rattle.gup_law_turns.proofs.SmallCounts.{HoldsNoFrame, HoldsFew, ArePinsFew, few_counts}
use Rattle.gup_law_turns.proofs.FewPages.{few_sequence}
use Rattle.gup_law_turns.proofs.WalkCounts.{few_walkers, some_walk, does_one}
use Rattle.gup_law_turns.proofs.ActorPlaces.{op_behind, answered_more}
use Rattle.gup_law_base.proofs.Lonely.{taken_counts, grabbed_counts}
use Rattle.gup_law_base.specs.Sound.{walk_frame, walking_of}
use Rattle.gup_law_turns.proofs.PreparedFrames.{ArePreparedThere, there_on, is_prepared}
use Rattle.gup_law_turns.proofs.TurnShapes.{FitsMove, FitsFork, FitsPin, FitsOp, FitsAt, TurnAt, idles, waits, goes, unborn_refused, unborn_fork, child_of, strand_of}
use Rattle.gup_law_turns.proofs.StandingTurns.{Starts, at_each, stands_on, stands_first}
use Rattle.gup_law_turns.proofs.StandingStates.{Stands}
use Rattle.gup_law_turns.proofs.TurnSteps.{taken, rests_at}
use Rattle.gup_law_turns.proofs.EventLists.{Law}
use Rattle.gup_plain.specs.Denial.{is_held_by}
use Rattle.gup_script.specs.Limits.{most_pinned}

-- an actor has answered no more operations than it has
abbrev pub HasAnswered : ScriptValue → ℕ → Place → Type 0
HasAnswered script a place = place.answered ≤ length (ops_of script a)

-- what stands between two turns, which frames are prepared, how much is answered, that entries have their tables, in which tables
-- walks stand, and which there are
pub record IsReached (script : ScriptValue) (r : RunState) : Type 0 where
  pub stands : Stands script r
  pub there : ArePreparedThere r.core
  pub answered : (a : ℕ) → HasAnswered script a (r.places a)
  pub entries : EntriesStand r.core
  pub inside : WalksStand r.core
  pub needs : r.core.needs_tables ≡ true
  pub few_tables : (table : ℕ) → IsSomewhere r.core table → table < script.frames.tables

-- entries

-- the frame of an entry has a reference
entry_counted : (s : CoreState) (p page : ℕ) (e : Entry) → IsSound s → s.entry p page ≡ Some e → s.count e.frame ≡ 0 → ⊥
unfolding sounds.held
entry_counted s p page e sound is none =
    let tally = sound.1.references e.frame in
    let at : Contains tally.0 (entry_of_page p page) = (tally.2 (entry_of_page p page)).0 (ap frame_of is) in
    let some = get_or-le-sum_by weight tally.0 at.0 (entry_of_page p page) at.1 in
    let here = ap weight at.2 in
    let sum = sound.1.count_is e.frame in
    omega (arith, some, here, sum, none, tally.3)

-- an entry is of a mapped page, since a process that has failed has none
entry_mapped : (s : CoreState) (p page : ℕ) (e : Entry) → IsSound s → (s.birth p ≡ failed → s.entry p page ≡ None) → s.entry p page ≡ Some e → (rights : Option Rights) → s.right p page ≡ rights → IsSome rights
entry_mapped s p page e sound emptied is None right =
    absurd (let gone : s.entry p page ≡ None = emptied (sound.1.entry_mapped p page e (sound.1.whole_entry p page e is) right) in cc)
entry_mapped s p page e sound emptied is (Some r) right = refl

-- and of a process that is not unborn
entry_brought : (s : CoreState) (p page : ℕ) (e : Entry) → IsSound s → (s.birth p ≡ failed → s.entry p page ≡ None) → s.entry p page ≡ Some e → s.birth p ≡ unborn → ⊥
entry_brought s p page e sound emptied is yet =
    let gone : s.entry p page ≡ None = emptied (sound.1.entry_mapped p page e (sound.1.whole_entry p page e is) (sound.1.unborn_unmapped p page yet)) in cc

-- a process has at most 1,024 mapped pages
few_mapped : (s : CoreState) (p : ℕ) → mapped_pages (s.right p) ≤ s.pages p → s.pages p ≤ most_pages → mapped_pages (s.right p) ≤ 1024
few_mapped s p within most = omega (arith, within, most)

-- jobs

fork_stands : (s : CoreState) (a p child : ℕ) (place : Place) (job : Job) (prepared : Option ℕ) → FitsFork s a p child place job prepared → StandsFork s a p child job prepared × HoldsNoFrame job
fork_stands s a p child place idle prepared fits = (fits.1, (refl, refl))
fork_stands s a p child place (forking q c done between) prepared fits = (fits.1, (refl, refl))
fork_stands s a p child place (forking q c done (counted page)) prepared fits = (fits.1, (refl, refl))
fork_stands s a p child place (forking q c done (copying page n)) prepared fits = (fits.1, (refl, refl))
fork_stands s a p child place (forking q c done step) prepared fits = absurd fits.1
fork_stands s a p child place job prepared fits = absurd fits

move_stands : (s : CoreState) (a p page : ℕ) (zone : Zone) (place : Place) (job : Job) → FitsMove s a p page zone place job → StandsMove s a p page zone job × (grabbed_frame job ≡ None)
move_stands s a p page zone place idle fits = (tt, refl)
move_stands s a p page zone place (moving q g e allowed count) fits = (fits.1, refl)
move_stands s a p page zone place job fits = absurd fits

idle_stands : (job : Job) → job ≡ idle → HoldsNoFrame job
idle_stands job is = rw is (refl, refl)

few_frame : (a : ℕ) (job : Job) → HoldsNoFrame job → HoldsFew a job
few_frame a job none = inl none

-- a short pin that doesn't walk is in the middle of nothing
short_idle : (s : CoreState) (a p page n got : ℕ) (want : Want) (fast : Bool) (job : Job) → s.job a ≡ job → want.long ≡ false → fast ≡ false → StandsAtPage s a p page n got want fast job → s.job a ≡ idle
short_idle s a p page n got want fast idle is short never at = is
short_idle s a p page n got want fast (moving q g e allowed count) is short never at = absurd (let long = at.4.long in cc)
short_idle s a p page n got want fast (walking q write long sequence step) is short never at = absurd (let walks = at.walks in cc)
short_idle s a p page n got want fast job is short never at = absurd at

no_frame : (s : CoreState) (who : Doer) (op : Option Op) (place : Place) → ((o : Op) → op ≡ Some o → who.actor < 81) → FitsAt s who op place → HoldsFew who.actor (s.job who.actor)
no_frame s who (Some (Pin handle page n want fast)) place few fits = inr (few (Pin handle page n want fast) refl)
no_frame s who (Some (Move proc page zone)) place few fits = inr (few (Move proc page zone) refl)
no_frame s who (Some (Fork child)) place few fits = few_frame who.actor (s.job who.actor) (fork_stands s who.actor who.proc child place (s.job who.actor) (s.prepared who.actor) fits.1).1
no_frame s who (Some Exit) place few fits = few_frame who.actor (s.job who.actor) (idle_stands (s.job who.actor) fits.0)
no_frame s who op place few fits = few_frame who.actor (s.job who.actor) (idle_stands (s.job who.actor) fits.0.0)

idle_job : (s : CoreState) (who : Doer) (op : Option Op) (place : Place) → KeepsNoJob op → FitsAt s who op place → s.job who.actor ≡ idle
idle_job s who (Some (Pin handle page n want fast)) place short fits = short_idle s who.actor who.proc (page + length (s.taken who.actor)) n (length (s.taken who.actor)) want fast (s.job who.actor) refl short.0 short.1 fits.at
idle_job s who (Some (Move proc page zone)) place no_fork fits = absurd no_fork
idle_job s who (Some (Fork child)) place no_fork fits = absurd no_fork
idle_job s who (Some Exit) place no_fork fits = fits.0
idle_job s who op place no_fork fits = fits.0.0

-- pins

-- no more pages are taken than the pin has
within_most : (n got : ℕ) (job : Job) → IsWithin n got job → got ≤ n
within_most n got (walking q write long sequence step) within = within
within_most n got idle within = omega (arith, within)
within_most n got (marking q g f) within = omega (arith, within)
within_most n got (moving q g e allowed count) within = omega (arith, within)
within_most n got (forking q c done step) within = omega (arith, within)

untaken : (s : CoreState) (who : Doer) (op : Option Op) (place : Place) → IsNoPin op → FitsAt s who op place → s.taken who.actor ≡ []
untaken s who (Some (Pin handle page n want fast)) place no_pin fits = absurd no_pin
untaken s who (Some (Move proc page zone)) place no_pin fits = fits.0
untaken s who (Some (Fork child)) place no_pin fits = fits.0
untaken s who (Some Exit) place no_pin fits = fits.1
untaken s who op place no_pin fits = fits.0.1

-- an operation whose actor may have taken pages is a pin
no_pin_or_pin : (op : Option Op) → IsNoPin op ⊎ ((handle page n : ℕ) × (want : Want) × (fast : Bool) × (op ≡ Some (Pin handle page n want fast)))
no_pin_or_pin (Some (Pin handle page n want fast)) = inr (handle, page, n, want, fast, refl)
no_pin_or_pin op = inl tt

-- the page of a pin that is made is one of 16
few_made : (backs : ℕ → ℕ) (pinned : List ℕ) (h : Handle) (k f : ℕ) → StandsHandle backs pinned h → slice_get pinned k ≡ Some f → (h ≡ unmade → ⊥) × (k < 16)
few_made backs pinned (held by objects write) k f stands there =
    let within = slice_get_within pinned k f there in
    let most = stands.1 in
    let all = stands.2 in
    ((λ e. cc e), omega (arith, within, most, all))
few_made backs pinned (given to objects write) k f stands there =
    let within = slice_get_within pinned k f there in
    let most = stands.1 in
    let all = stands.2 in
    ((λ e. cc e), omega (arith, within, most, all))
few_made backs pinned h k f stands there = absurd (let none : slice_get pinned k ≡ None = ap (λ (xs : List ℕ). slice_get xs k) stands in cc)

few_pins : (script : ScriptValue) → IsScript script → (r : RunState) → Stands script r → ArePinsFew r.core
few_pins script valid r h =
    let s : CoreState = r.core in
    record {
      made = λ k j f there.
          let few = few_made (back_in script r k) (s.pinned k) (s.handle k) j f (h.handles k) there in
          let below = h.made k few.0 in
          let most = valid.few_handles in
          (omega (arith, below, most), few.1);
      taken = λ a k t there. at a k t there (no_pin_or_pin (op_in script r a));
    }
  where
    at : (a k : ℕ) (t : Taken) → slice_get (r.core.taken a) k ≡ Some t → IsNoPin (op_in script r a) ⊎ ((handle page n : ℕ) × (want : Want) × (fast : Bool) × (op_in script r a ≡ Some (Pin handle page n want fast))) → (a < 81) × (k < 16)
    at a k t there (inl no_pin) =
        absurd (let none : slice_get (r.core.taken a) k ≡ None = ap (λ (xs : List Taken). slice_get xs k) (untaken r.core (doer_of script a (op_in script r a)) (op_in script r a) (r.places a) no_pin (h.fits a)) in cc)
    at a k t there (inr pin) =
        let op : Op = Pin pin.0 pin.1 pin.2 pin.3 pin.4 in
        let fits : FitsOp r.core (doer_of script a (Some op)) op (r.places a) = subst (λ (o : Option Op). FitsAt r.core (doer_of script a o) o (r.places a)) pin.5 (h.fits a) in
        let range : IsOp op = op_is_op script valid a (r.places a).answered op pin.5 in
        let within = slice_get_within (r.core.taken a) k t there in
        let one = within_most pin.2 (length (r.core.taken (doer_of script a (Some op)).actor)) (r.core.job (doer_of script a (Some op)).actor) fits.within in
        let most = range.1 in
        let declared = has_ops_declared script a (r.places a).answered op pin.5 in
        let actors = valid.few_actors in
        (omega (arith, declared, actors), omega (arith, within, one, most))

-- the page of a handle has its weight in its frame's count
pin_weighed : (s : CoreState) (h k f : ℕ) → IsSound s → slice_get (s.pinned h) k ≡ Some f → bias ≤ s.count f
unfolding sounds.held
pin_weighed s h k f sound is =
    let tally = sound.1.references f in
    let at : Contains tally.0 (page_of_pin h k) = (tally.2 (page_of_pin h k)).0 is in
    let some = get_or-le-sum_by weight tally.0 at.0 (page_of_pin h k) at.1 in
    let here = ap weight at.2 in
    let sum = sound.1.count_is f in
    omega (arith, some, here, sum, tally.3)

-- and so has that of a page that is taken, and one that a walk has grabbed

taken_weighed : (s : CoreState) (a k : ℕ) (t : Taken) → IsSound s → slice_get (s.taken a) k ≡ Some t → bias ≤ s.count t.frame
taken_weighed s a k t (v, h) is =
    let weighs = taken_counts v s h a k t is in
    let all = h.count_is t.frame in
    omega (arith, weighs, all)

walk_job : (job : Job) → walk_frame (walking_of job) ≡ grabbed_frame job
walk_job (walking p write long sequence step) = refl
walk_job job = refl

grab_weighed : (s : CoreState) (a f : ℕ) → IsSound s → grabbed_frame (s.job a) ≡ Some f → bias ≤ s.count f
grab_weighed s a f (v, h) is = grabbed_counts v s h a f (ap walk_frame (h.walks_are a) ∙ walk_job (s.job a) ∙ is)

-- the frame of a reference has one
got_counted : (s : CoreState) (h a f : ℕ) → IsSound s → s.got h ≡ Some (a, f) → s.count f ≡ 0 → ⊥
unfolding sounds.held
got_counted s h a f sound is none =
    let tally = sound.1.references f in
    let at : Contains tally.0 (got_as h) = (tally.2 (got_as h)).0 (ap got_frame is) in
    let some = get_or-le-sum_by weight tally.0 at.0 (got_as h) at.1 in
    let here = ap weight at.2 in
    let sum = sound.1.count_is f in
    omega (arith, some, here, sum, none, tally.3)

-- a pin that is in the middle of none has taken a page if any of its turns is over
taken_some : (long : Bool) (got far : ℕ) → far ≤ pin_turns long got + 0 → 0 < far → 0 < got
taken_some true got far most some = omega (arith, most, some)
taken_some false got far most some = omega (arith, most, some)

-- a pin of which a turn is over has set the flag of its process
first_taken : (xs : List Taken) → 0 < length xs → (t : Taken) × (slice_get xs 0 ≡ Some t)
first_taken [] some = absurd (omega (arith, some))
first_taken (t ∷ xs) some = (t, refl)

pin_flagged : (s : CoreState) (a p handle page n : ℕ) (want : Want) (fast : Bool) (place : Place) → IsSound s → FitsPin s a p handle page n want fast place (s.taken a) (s.job a) → (walks : Bool) → fast ≡ walks → (job : Job) → s.job a ≡ job → 0 < place.far → s.has_pinned p ≡ true
pin_flagged s a p handle page n want fast place sound fits true walks job is some = fits.flag walks some
pin_flagged s a p handle page n want fast place sound fits false never job is some = by_job job is (subst (StandsAtPage s a p (page + length (s.taken a)) n (length (s.taken a)) want fast) is fits.at)
  where
    by_pages : HasTaken p page want (length (s.taken a)) (s.taken a) → 0 < length (s.taken a) → s.has_pinned p ≡ true
    by_pages has any =
        let first = first_taken (s.taken a) any in
        let proc = (has.each 0 first.0 first.1).0 in
        ap s.has_pinned (sym proc) ∙ sound.1.taken_flag a 0 first.0 first.1

    idle_most : s.job a ≡ idle → place.far ≤ pin_turns want.long (length (s.taken a)) + 0
    idle_most same =
        let most = subst (λ (b : Bool). place.far ≤ walk_turns b n + pin_turns want.long (length (s.taken a)) + 0) never
        (subst (λ (j : Job). place.far ≤ most_over fast want.long n (length (s.taken a)) j) same fits.most) in
        omega (arith, most)

    by_job : (job : Job) → s.job a ≡ job → StandsAtPage s a p (page + length (s.taken a)) n (length (s.taken a)) want fast job → s.has_pinned p ≡ true
    by_job idle same at =
        by_pages (subst (HasPages p page want (length (s.taken a)) (s.taken a)) same fits.has) (taken_some want.long (length (s.taken a)) place.far (idle_most same) some)
    by_job (moving q g e allowed count) same at = at.4.flag
    by_job (walking q write long sequence step) same at = at.flag
    by_job job same at = absurd at

pin_stands : (s : CoreState) (a p handle page n : ℕ) (want : Want) (fast : Bool) (place : Place) → FitsPin s a p handle page n want fast place (s.taken a) (s.job a) → StandsPin s a p handle page n want fast (length (s.taken a))
pin_stands s a p handle page n want fast place fits = record { within = fits.within; yet = fits.yet; taken = fits.has; at = fits.at }

-- what is published of core states
abbrev pub Published : Type 0
Published = (s : CoreState) → IsSound s → Holds s

-- An unpin is short of the most pages that a pin may have: once it has begun its actor holds the pin, of which at least
-- one page is left.
pub unpin_short : (back : ℕ → ℕ) (pinned : List ℕ) (x : Handle) (a far : ℕ) → StandsHandle back pinned x → (0 < far → is_held_by x a ≡ true) → (is_held_by x a ≡ true → (0 < length pinned) × (length pinned + far ≡ length (objects_of x))) → far < most_pinned
unpin_short back pinned x a zero stands holds left = omega arith
unpin_short back pinned (held by objects write) a (suc far) stands holds left =
    let has = left (holds (omega arith)) in
    let few = stands.1 in
    omega (arith, has.0, has.1, few)
unpin_short back pinned x a (suc far) stands holds left = absurd (let is = holds (omega arith) in cc is)

pub is_standing : Published → (script : ScriptValue) → IsScript script → (r : RunState) → IsReached script r → IsStanding script r
is_standing published script valid r h =
    let s : CoreState = r.core in
    let k : Stands script r = h.stands in
    let at : (a : ℕ) (op : Op) → present_op script a (r.places a) ≡ Some op → FitsOp s (doer_of script a (Some op)) op (r.places a) =
    λ a op is. subst (λ (o : Option Op). FitsAt s (doer_of script a o) o (r.places a)) is (k.fits a) in
    let few : (p page : ℕ) (e : Entry) → s.entry p page ≡ Some e → p < 16 =
    λ p page e is. let below : p < length script.processes = k.declared p (entry_brought s p page e k.sound (k.emptied p page) is) in let most = valid.few_processes in omega (arith, below, most) in
    let few_actor : (a : ℕ) (op : Op) → present_op script a (r.places a) ≡ Some op → a < 81 =
    λ a op is. let declared = has_ops_declared script a (r.places a).answered op is in let actors = valid.few_actors in omega (arith, declared, actors) in
    let rests : (a : ℕ) → KeepsNoJob (present_op script a (r.places a)) → s.job a ≡ idle =
    λ a no_fork. idle_job s (doer_of script a (present_op script a (r.places a))) (present_op script a (r.places a)) (r.places a) no_fork (k.fits a) in
    record {
      sound = k.sound;
      holds = published s k.sound;
      tables = k.tables;
      entries = h.entries;
      inside = h.inside;
      needs = h.needs;
      few_tables = h.few_tables;
      copies = k.copies;
      declared = k.declared;
      mapped = λ p page e is. entry_mapped s p page e k.sound (k.emptied p page) is (s.right p page) refl;
      counted = λ p page e is none. entry_counted s p page e k.sound is none;
      few_pages = λ p. few_mapped s p (k.few.mapped p) (k.few.pages p);
      few_counts = few_counts s k.sound k.rest (λ a. no_frame s (doer_of script a (present_op script a (r.places a))) (present_op script a (r.places a)) (r.places a) (λ op is. few_actor a op is) (k.fits a)) k.emptied few (few_pins script valid r k) (λ handle got. let below = k.got handle got in let most = valid.few_handles in omega (arith, below, most));
      few_walks = λ p. few_walkers s p 81 (published s k.sound).walks (λ a busy. does_one 81 (present_op script a (r.places a)) a (s.job a) (few_actor a) (λ none. rests a (subst KeepsNoJob (sym none) tt)) busy);
      walks = λ a p sequence write long step is. some_walk s a p sequence write long step (published s k.sound).walks is;
      few_forks = few_sequence (length script.processes) valid.few_processes s k.few;
      fresh = λ a first. (rests_at s (doer_of script a (present_op script a (r.places a))) (r.places a) first (present_op script a (r.places a)) (k.fits a)).0;
      idle_jobs = rests;
      forks = λ a child is. (fork_stands s a (process_of script a) child (r.places a) (s.job a) (s.prepared a) (at a (Fork child) is).1).0;
      moves = λ a proc page zone is. (move_stands s a proc page zone (r.places a) (s.job a) (at a (Move proc page zone) is).2).0;
      prepared = λ a f is. is_prepared s k.sound h.there a f is;
      keeps = λ a. (k.rest a).prepared;
      untaken = λ a no_pin. untaken s (doer_of script a (present_op script a (r.places a))) (present_op script a (r.places a)) (r.places a) no_pin (k.fits a);
      pins = λ a handle page n want fast is. pin_stands s a (process_of script a) handle page n want fast (r.places a) (at a (Pin handle page n want fast) is);
      paced = λ a handle page n want fast is. (at a (Pin handle page n want fast) is).most;
      flagged = λ a handle page n want fast is. pin_flagged s a (process_of script a) handle page n want fast (r.places a) k.sound (at a (Pin handle page n want fast) is) fast refl (s.job a) refl;
      unpins = λ a handle is. unpin_short (back_in script r handle) (s.pinned handle) (s.handle handle) a (r.places a).far (k.handles handle) (at a (Unpin handle) is).2 (at a (Unpin handle) is).3;
      handles = k.handles;
      made = k.made;
      weighed = λ handle j f there. pin_weighed s handle j f k.sound there;
      taken_weighed = λ a j t there. taken_weighed s a j t k.sound there;
      grabbed = λ a f is. grab_weighed s a f k.sound is;
      got = k.got;
      referred = λ handle a f there none. got_counted s handle a f k.sound there none;
      yet_unmade = λ a handle op is makes. k.yet_unmade a (r.places a).answered handle (op, is, makes) (omega arith);
      unmaps = λ a page n is. (at a (Unmap page n) is).1;
      discards = λ a page n is. (at a (Discard page n) is).1;
      transfers = λ a handle outward slot parts is. (at a (Transfer handle outward slot parts) is).2;
      answered = h.answered;
    }

answered_on : (script : ScriptValue) (t : CoreState) {s : PlainState} {references : References} {who : Doer} {place : Place} {op : Option Op} {waiting : Option Waiting} {whats : List What} {from to : JobPlace} → TurnAt s references who place op waiting from whats to → present_op script who.actor place ≡ op → HasAnswered script who.actor place → HasAnswered script who.actor (place_behind place whats)
answered_on script t (idles waiting at) is within = within
answered_on script t (waits op waiting at) is within = within
answered_on script t {who = who} {place = place} (goes op whats from to birth own turn) is within =
    answered_more (op_behind t (Some op) turn) (length (ops_of script who.actor)) (slice_get_within (ops_of script who.actor) place.answered op is)
answered_on script t {who = who} {place = place} (unborn_refused op birth first refusal) is within =
    (let one = slice_get_within (ops_of script who.actor) place.answered op is in omega (arith, one))
answered_on script t {who = who} {place = place} (unborn_fork child birth own first) is within =
    (let one = slice_get_within (ops_of script who.actor) place.answered (Fork child) is in omega (arith, one))

-- entries have their tables after events as before, since each event leaves a sound state
entries_run : Law → (s : CoreState) (es : List CoreEvent) → IsSound s → TablesStand s → EntriesStand s → AllCan s es → EntriesStand (run s es)
entries_run law s [] sound tables have can = have
entries_run law s (e ∷ es) sound tables have can =
    entries_run law (happens s e) es (law s e sound can.0).sound (stay s e tables can.0) (paths_stand s e sound tables have can.0) can.1

-- what is known of the tables that walks stand in: at the start, and after each event

abbrev pub StartsInside : Type 0
StartsInside = (movable normal tables : ℕ) (needs_tables : Bool) (is_born : ℕ → Bool) → WalksStand (core_start movable normal tables needs_tables is_born)

abbrev pub StaysInside : Type 0
StaysInside = (s : CoreState) (e : CoreEvent) → IsSound s → TablesStand s → WalksStand s → Can s e → WalksStand (happens s e)

-- so walks stand in kept tables after events as before
inside_run : Law → StaysInside → (s : CoreState) (es : List CoreEvent) → IsSound s → TablesStand s → WalksStand s → AllCan s es → WalksStand (run s es)
inside_run law stays s [] sound tables stand can = stand
inside_run law stays s (e ∷ es) sound tables stand can =
    inside_run law stays (happens s e) es (law s e sound can.0).sound (stay s e tables can.0) (stays s e sound tables stand can.0) can.1

pub reached_on : Law → StaysInside → (script : ScriptValue) → IsScript script → (r : RunState) → IsReached script r → (a : ℕ) → IsReached script (run_after script r a)
reached_on law stays script valid r h a =
    let turn = taken script valid r h.stands a in
    let behind = place_behind (r.places a) (core_turn_in script r a).whats in
    let events : List CoreEvent = (core_turn_in script r a).events in
    record {
      stands = stands_on law script valid r h.stands a;
      there = there_on r.core a (doer_of script a (op_in script r a)).proc (child_of (doer_of script a (op_in script r a)).proc (op_in script r a)) (strand_of (op_in script r a)) events turn.done.kinds turn.done.can h.there;
      answered = at_each (HasAnswered script) a behind r.places (answered_on script r.core turn.shape refl (h.answered a)) h.answered;
      entries = entries_run law r.core events h.stands.sound h.stands.tables h.entries turn.done.can;
      inside = inside_run law stays r.core events h.stands.sound h.stands.tables h.inside turn.done.can;
      needs = flag_after r.core events ∙ h.needs;
      few_tables = λ table is. h.few_tables table (not_made_run r.core events table turn.done.can is);
    }

pub reaches : Law → StaysInside → Published → (script : ScriptValue) → IsScript script → (actors : List ℕ) → (r : RunState) → IsReached script r → IsStanding script (turned script r actors)
reaches law stays published script valid [] r h = is_standing published script valid r h
reaches law stays published script valid (a ∷ actors) r h =
    reaches law stays published script valid actors (run_after script r a) (reached_on law stays script valid r h a)

pub starts_reached : Starts → StartsInside → (script : ScriptValue) → IsScript script → IsReached script (run_start script)
starts_reached starts inside script valid =
    let f = script.frames in
    record {
      stands = stands_first starts script valid;
      there = λ a f is. absurd (cc is);
      answered = λ a. omega arith;
      entries = first_paths f.movable f.normal f.tables true (starts_born script);
      inside = inside f.movable f.normal f.tables true (starts_born script);
      needs = refl;
      few_tables = λ table is. none_made f.movable f.normal f.tables true (starts_born script) table is;
    }
