-- A turn with the page tables that it changes: they grow before the operation's own turn, and others go after it.
use Rattle.std.proofs.Common.{◌≡◌, ℕ, ◌+◌, ◌<◌, inl, inr, List, ◌++◌, length, Option, Some, None, IsSome, IfSome, refl, sym, subst, ap, ◌∙◌, ⊎_elim}
use Rattle.gup_plain.specs.State.{Noted, born}
use Rattle.gup_plain.specs.declared.note.What.{What}
use Rattle.gup_script.specs.declared.op.Op.{Op}
use Rattle.gup_script.specs.declared.op.Op.TheVariants.{Unmap, Fork, Exit}
use Rattle.gup_tables.specs.Pool.{PoolValue}
use Rattle.gup_spec_tables.specs.declared.place.Place.{Place as TablePlace}
use Rattle.gup_page_tables.specs.PageTables.{IsBare}
use Rattle.gup_space.specs.Shows.{ShowsPool}
use Rattle.gup_notify.specs.Mirrors.{MirrorsValue}
use Rattle.gup_notify.specs.Shows.{ShowsMirrors}
use Rattle.gup_spec_events.specs.State.{CoreState, Taken, Job, idle, forking, between, counted, copying}
use Rattle.gup_spec_events.specs.Event.{CoreEvent, run}
use Rattle.gup_spec_events.proofs.Runs.{run_behind}
use Rattle.gup_law_tables.specs.Standing.{IsButForTables}
use Rattle.gup_law_turns.specs.Slots.{EmptiesSlots}
use Rattle.gup_law_turns.proofs.TurnAsOwn.{as_own, unless_born}
use Rattle.gup_spec_journal.specs.Place.{Doer, birth_for}
use Rattle.gup_spec_turns.specs.CoreTurn.{CoreTurn}
use Rattle.gup_spec_turns.specs.Emptying.{left_in}
use Rattle.gup_spec_turns.specs.JobPlace.{JobPlace as Place, StandsFork, unbegun, job_place, place_in}
use Rattle.gup_spec_turns.specs.PageTurns.{lowest_page}
use Rattle.gup_spec_turns.specs.TableTurns.{Spot, retires_at, fork_shrinks, shrinks_by}
use Rattle.gup_spec_turns.specs.Turn.{own_turn, turn_of, unless_failed, grows_for, shrinks_for}
use Rattle.gup_spec_turns.specs.Waits.{waits_born}
use Rattle.gup_op_base.specs.declared.jobs.JobPlace.{JobPlace}
use Rattle.gup_op_base.specs.Far.{far_in}
use Rattle.gup_op_base.specs.Jobs.{place_of}
use Rattle.gup_op_waits.proofs.Waits.{born_and_free}
use Rattle.gup_op_waits.specs.Births.{HasFailed}
use Rattle.gup_op_waits.specs.Doers.{HasProcess, IsProcessOf}
use Rattle.gup_op_waits.specs.Stands.{StandsAt}
use Rattle.gup_op_waits.specs.declared.parts.Parts.{Parts}
use Rattle.gup_op_tables.specs.declared.pages.Spot.{Spot as KeptSpot}
use Rattle.gup_op_tables.specs.Alike.{ShowsEach}
use Rattle.gup_op_tables.specs.Spots.{spot_of, IsDown, retired_spot}
use Rattle.gup_op_tables.specs.Turns.{AreParted, GrowsFor, ShrinksFor, child_at, shrinks_to}
use Rattle.gup_op_tables.proofs.FreeTables.{AllTables, all_tables, own_keeps, own_keeps_free}
use Rattle.gup_op_turns.specs.Goes.{AllView, ShowsAll, ShowsWhole, StandsWith, TakesMirrors, TakesOwnMirrors, all_view, whole_view, HasSlots}
use Rattle.gup_op_turns.proofs.BareTables.{unmapping_none, exit_none}
use Rattle.gup_op_turns.proofs.Refusing.{birth_unfailed}
use Rattle.gup_op_turns.proofs.Tabled.{all_tabled, mirrors_tabled, with_tabled}
use Rattle.gup_op_turns.proofs.Turning.{IsTurnWith, IsTurnWhole}

-- ---- where no tables change

-- From each such state the turn is the operation's own.
abbrev pub IsOwnTurn : MirrorsValue → (old : Parts) → (a : ℕ) → (proc : Option ℕ) → (far : ℕ) → Op → (place : JobPlace) → Type 0
IsOwnTurn mirrors old a proc far op place =
    (s : CoreState) (who : Doer) (k : ℕ) (others : ℕ → Place) (left : ℕ → List Taken) → who.actor ≡ a → IsProcessOf who proc → far ≡ far_in (Some op) k
    → ShowsAll a op (all_view old place others left) s → StandsWith mirrors a who k op s → turn_of s who k op ≡ own_turn s who k op

pub same_whole : (mirrors : MirrorsValue) (old new : Parts) (pool : PoolValue) (a : ℕ) (proc : Option ℕ) (far : ℕ) (op : Op) (place : JobPlace) (whats : List What) (next : JobPlace)
    → IsOwnTurn mirrors old a proc far op place → IsTurnWith mirrors old new a proc far op place whats next → IsTurnWhole mirrors old new pool pool a proc far op place whats next
same_whole mirrors old new pool a proc far op place whats next same turn who k others left own of_who slots far_is s shown stands =
    let is = same s who k others left own of_who far_is shown.all stands in
    let led = turn who k others left own of_who slots far_is s shown.all stands in
    record {
      says = ap (λ (u : CoreTurn). u.whats) is ∙ led.says;
      shown =
          subst (λ (u : CoreTurn). ShowsWhole a op (whole_view (all_view new next others left) pool) (run s u.events)) (sym is)
          (record { all = led.shown; pool = own_keeps_free s who k op ∙ shown.pool });
    }

pub same_mirrors : (parts : Parts) (pool : PoolValue) (a : ℕ) (proc : Option ℕ) (far : ℕ) (op : Op) (place : JobPlace) (old new : MirrorsValue)
    → IsOwnTurn old parts a proc far op place → TakesOwnMirrors parts a proc far op place old new → TakesMirrors parts pool a proc far op place old new
same_mirrors parts pool a proc far op place old new same takes s who k others left own of_who far_is shown stands emptied =
    let is = same s who k others left own of_who far_is shown.all stands in
    subst (λ (u : CoreTurn). ShowsMirrors new (run s u.events)) (sym is)
    (takes s who k others left own of_who far_is shown.all stands (subst (λ (u : CoreTurn). EmptiesSlots s (Some op) u) is emptied))

-- ---- where tables have grown

-- a process that hasn't failed and waits for nobody is born
pub born_there : (parts : Parts) (mirrors : MirrorsValue) (a : ℕ) (proc : Option ℕ) (who : Doer) (k : ℕ) (op : Op) (job : JobPlace) (others : ℕ → Place) (left : ℕ → List Taken) (s : CoreState)
    → (HasFailed parts.births.items proc → ⊥) → IfSome proc (λ p. p < length parts.births.items) → IsProcessOf who proc → ShowsAll a op (all_view parts job others left) s → StandsWith mirrors a who k op s → birth_for s.birth who ≡ born
born_there parts mirrors a proc who k op job others left s unfailed within of_who shown stands =
    (born_and_free (birth_for s.birth who) who.proc (waits_born s who.actor who.proc k op) (birth_unfailed parts.births.items proc who s unfailed within of_who shown.parts.births) stands.free.free).0

-- what the turn is but for tables, by the state behind its growth
record AsOwnBehind (s t : CoreState) (who : Doer) (k : ℕ) (op : Op) : Type 0 where
  before : IsButForTables s t
  after : IsButForTables (run t (own_turn t who k op).events) (run s (turn_of s who k op).events)
  left : (frame : Option ℕ) (noted : Option Noted) → left_in (turn_of s who k op).events frame noted ≡ left_in (own_turn t who k op).events frame noted

own_behind : (s : CoreState) (who : Doer) (k : ℕ) (op : Op) → AsOwnBehind s (run s (grows_for s who k op)) who k op
own_behind s who k op =
    let own = as_own s who k op in
    subst (λ (t : CoreState). AsOwnBehind s t who k op) own.grown (record { before = own.before; after = own.after; left = own.left })

-- the state in which the operation's own turn is taken
pub record IsBehindGrowth (view : AllView) (pool : PoolValue) (mirrors : MirrorsValue) (a : ℕ) (who : Doer) (k : ℕ) (op : Op) (t : CoreState) : Type 0 where
  pub shown : ShowsAll a op view t
  pub free : ShowsPool pool t
  pub stands : StandsWith mirrors a who k op t
  pub birth : birth_for t.birth who ≡ born

module _ (a : ℕ) (proc : Option ℕ) (far : ℕ) (op : Op) (place : JobPlace) (mirrors : MirrorsValue) (old grown : Parts) (was now : PoolValue)
    (unfailed : HasFailed old.births.items proc → ⊥) (within : IfSome proc (λ p. p < length old.births.items))
    (rest : AreParted old grown) (grows : GrowsFor old grown was now a proc far op (place_of place)) where
  pub behind : (s : CoreState) (who : Doer) (k : ℕ) (others : ℕ → Place) (left : ℕ → List Taken) → who.actor ≡ a → IsProcessOf who proc → far ≡ far_in (Some op) k
      → ShowsWhole a op (whole_view (all_view old place others left) was) s → StandsWith mirrors a who k op s
      → IsBehindGrowth (all_view grown place others left) now mirrors a who k op (run s (grows_for s who k op))
  behind s who k others left own of_who far_is shown stands =
      let t : CoreState = run s (grows_for s who k op) in
      let same : IsButForTables s t = (own_behind s who k op).before in
      let is_born = born_there old mirrors a proc who k op place others left s unfailed within of_who shown.all stands in
      let led = grows s who k own of_who far_is shown.all.parts shown.all.job stands.free.at is_born shown.pool in
      record {
        shown = all_tabled s t same a op old grown place others left rest led.1 shown.all;
        free = led.0;
        stands = with_tabled s t same mirrors a who k op stands;
        birth = ap (λ (x : CoreState). birth_for x.birth who) same ∙ is_born;
      }

  -- the slots that the turn empties the operation's own empties
  own_empties : (s : CoreState) (who : Doer) (k : ℕ) → EmptiesSlots s (Some op) (turn_of s who k op) → EmptiesSlots (run s (grows_for s who k op)) (Some op) (own_turn (run s (grows_for s who k op)) who k op)
  own_empties s who k emptied =
      let as_it = own_behind s who k op in
      record {
        left = λ m leaves.
            sym (ap (λ (x : CoreState). x.mirrored m) as_it.after) ∙ emptied.left m leaves ∙ as_it.left (s.mirrored m) (s.slot m)
            ∙ sym (ap (λ (x : CoreState). left_in (own_turn (run s (grows_for s who k op)) who k op).events (x.mirrored m) (x.slot m)) as_it.before);
        notes = λ m leaves. sym (ap (λ (x : CoreState). x.slot m) as_it.after) ∙ emptied.notes m leaves ∙ sym (ap (λ (x : CoreState). x.slot m) as_it.before);
      }

  pub whole_mirrors : (new : MirrorsValue) → TakesOwnMirrors grown a proc far op place mirrors new → TakesMirrors old was a proc far op place mirrors new
  whole_mirrors new takes s who k others left own of_who far_is shown stands emptied =
      let t : CoreState = run s (grows_for s who k op) in
      let here = behind s who k others left own of_who far_is shown stands in
      mirrors_tabled (run t (own_turn t who k op).events) (run s (turn_of s who k op).events) (own_behind s who k op).after new
      (takes t who k others left own of_who far_is here.shown here.stands (own_empties s who k emptied))

-- ---- where tables go

-- after a fork's turn those of its child, if it has failed
fork_is : (u : CoreState) (a p child : ℕ) (proc : Option ℕ) (down : Option KeptSpot) (t : CoreState) (job : Job) (prepared : Option ℕ) → StandsFork t a p child job prepared → spot_of down ≡ None → proc ≡ Some p
    → fork_shrinks u a child (u.right p) job ≡ shrinks_to u a proc down (child_at (job_place job prepared) (Fork child))
fork_is u a p child proc down t idle prepared stands none some = sym (ap (retires_at u a) none)
fork_is u a p child proc down t (forking q c done between) prepared stands none some = sym (ap (λ (o : Option ℕ). shrinks_to u a o down (Some child)) some)
fork_is u a p child proc down t (forking q c done (counted page)) prepared stands none some = sym (ap (λ (o : Option ℕ). shrinks_to u a o down (Some child)) some)
fork_is u a p child proc down t (forking q c done (copying page word)) None stands none some = sym (ap (λ (o : Option ℕ). shrinks_to u a o down (Some child)) some)
fork_is u a p child proc down t (forking q c done (copying page word)) (Some to) stands none some = sym (ap (λ (o : Option ℕ). shrinks_to u a o down (Some child)) some)
fork_is u a p child proc down t job prepared stands none some = absurd stands

-- an operation of a process is of this one
some_proc : (who : Doer) (proc : Option ℕ) → IsSome proc → IsProcessOf who proc → proc ≡ Some who.proc
some_proc who None some of_who = absurd (cc some)
some_proc who (Some p) some of_who = ap (λ (q : ℕ). Some q) (sym of_who.1)

no_fork : (place : Place) (op : Op) → ((child : ℕ) → op ≡ Fork child → ⊥) → child_at place op ≡ None
no_fork unbegun op none = refl
no_fork place (Fork child) none = absurd (none child refl)
no_fork place op none = refl

-- a fork takes no page down
no_spot : (place : ℕ → Option TablePlace) (retired : List ℕ) (down : Option KeptSpot) → IsDown place retired (spot_of down) None → spot_of down ≡ None
no_spot place retired down is = ⊎_elim (λ none. none) (λ (bare : IsBare place retired × (spot_of down ≡ None)). bare.1) is

-- where no page's tables go, and the operation is no fork
none_to : (t u : CoreState) (a : ℕ) (proc : Option ℕ) (down : Option KeptSpot) (op : Op) → ((child : ℕ) → op ≡ Fork child → ⊥) → spot_of down ≡ None
    → run u (shrinks_to u a proc down (child_at (place_in t a) op)) ≡ u
none_to t u a proc down op other none =
    ap (λ (forks : Option ℕ). run u (shrinks_to u a proc down forks)) (no_fork (place_in t a) op other)
    ∙ ap (λ (at : Option Spot). run u (retires_at u a at)) none

-- of a process that has no table none goes
none_by : (t u : CoreState) (a p k : ℕ) (op : Op) → ((child : ℕ) → op ≡ Fork child → ⊥) → IsBare (u.place p) (u.retired p) → run u (shrinks_by t u a p k op) ≡ u
none_by t u a p k (Fork child) other bare = absurd (other child refl)
none_by t u a p k (Unmap page n) other bare = unmapping_none u a p bare (page + k) (t.right p (page + k))
none_by t u a p k Exit other bare = exit_none u a p bare (lowest_page (t.right p))
none_by t u a p k op other bare = refl

-- which tables go after a turn that leaves them all, whatever its operation is
by_op : (t u : CoreState) (a p k : ℕ) (proc : Option ℕ) (down : Option KeptSpot) (op : Op) → all_tables u ≡ all_tables t → (HasProcess op → proc ≡ Some p) → StandsAt t a p k op
    → IsDown (t.place p) (t.retired p) (spot_of down) (retired_spot (t.right p) p k op)
    → run u (shrinks_by t u a p k op) ≡ run u (shrinks_to u a proc down (child_at (place_in t a) op))
by_op t u a p k proc down (Fork child) kept some stands is =
    ap (run u) (fork_is u a p child proc down t (t.job a) (t.prepared a) (stands.fork child refl) (no_spot (t.place p) (t.retired p) down is) (some tt))
by_op t u a p k proc down op kept some stands (inl is) =
    ap (run u)
    (sym
    (ap (λ (forks : Option ℕ). shrinks_to u a proc down forks) (no_fork (place_in t a) op (λ child same. absurd (cc same)))
    ∙ ap (λ (at : Option Spot). retires_at u a at) is))
by_op t u a p k proc down op kept some stands (inr (bare, none)) =
    let other : (child : ℕ) → op ≡ Fork child → ⊥ = λ child same. absurd (cc same) in
    none_by t u a p k op other (subst (λ (tables : AllTables). IsBare (tables.place p) (tables.retired p)) (sym kept) bare)
    ∙ sym (none_to t u a proc down op other none)

module _ (a : ℕ) (proc : Option ℕ) (far : ℕ) (op : Op) (place next : JobPlace) (mirrors : MirrorsValue) (old grown own_parts new : Parts) (was now last : PoolValue) (whats : List What)
    (unfailed : HasFailed old.births.items proc → ⊥) (within : IfSome proc (λ p. p < length old.births.items))
    (rest : AreParted old grown) (grows : GrowsFor old grown was now a proc far op (place_of place))
    (turn : IsTurnWith mirrors grown own_parts a proc far op place whats next)
    (down : Option KeptSpot) (process : HasProcess op → IsSome proc)
    (spot : (s : CoreState) (k p : ℕ) → IfSome proc (λ q. q ≡ p) → ShowsEach grown.spaces.items s → far ≡ far_in (Some op) k → IsDown (s.place p) (s.retired p) (spot_of down) (retired_spot (s.right p) p k op))
    (left_over : AreParted own_parts new) (shrinks : ShrinksFor own_parts new now last proc down (child_at (place_of place) op)) where
  if_of : (who : Doer) (o : Option ℕ) → IsProcessOf who o → IfSome o (λ q. q ≡ who.proc)
  if_of who None of_who = tt
  if_of who (Some p) of_who = sym of_who.1

  -- the turn leads to the new parts and free tables
  pub whole : IsTurnWhole mirrors old new was last a proc far op place whats next
  whole who k others left own of_who slots far_is s shown stands =
      let growth : List CoreEvent = grows_for s who k op in
      let t : CoreState = run s growth in
      let here = behind a proc far op place mirrors old grown was now unfailed within rest grows s who k others left own of_who far_is shown stands in
      let grown_slots : HasSlots grown a who.slots = subst (λ (x : Parts). HasSlots x a who.slots) (sym rest) slots in
      let led = turn who k others left own of_who grown_slots far_is t here.shown here.stands in
      let events : List CoreEvent = (own_turn t who k op).events in
      let u : CoreState = run t events in
      let free : ShowsPool now u = own_keeps_free t who k op ∙ here.free in
      let shrunk = shrinks u a led.shown.parts free in
      let at : IsDown (t.place who.proc) (t.retired who.proc) (spot_of down) (retired_spot (t.right who.proc) who.proc k op) = spot t k who.proc (if_of who proc of_who) here.shown.parts.spaces far_is in
      let going : run u (shrinks_for t u who k op) ≡ run u (shrinks_to u a proc down (child_at (place_of place) op)) =
      ap (λ (es : List CoreEvent). run u es)
      (ap (unless_failed (shrinks_by t u who.actor who.proc k op)) here.birth
      ∙ unless_born (shrinks_by t u who.actor who.proc k op)
      ∙ ap (λ (b : ℕ). shrinks_by t u b who.proc k op) own)
      ∙ by_op t u a who.proc k proc down op (own_keeps t who k op) (λ has. some_proc who proc (process has) of_who) here.stands.free.at at
      ∙ ap (λ (x : Place). run u (shrinks_to u a proc down (child_at x op))) (sym here.shown.job) in
      let end : run s (turn_of s who k op).events ≡ run u (shrinks_to u a proc down (child_at (place_of place) op)) =
      run_behind s growth (events ++ shrinks_for t u who k op)
      ∙ run_behind t events (shrinks_for t u who k op)
      ∙ going in
      let each : ShowsEach new.spaces.items (run s (turn_of s who k op).events) = subst (ShowsEach new.spaces.items) (sym end) shrunk.1 in
      record {
        says = led.says;
        shown = record {
          all = all_tabled u (run s (turn_of s who k op).events) (own_behind s who k op).after a op own_parts new next others left left_over each led.shown;
          pool = subst (ShowsPool last) (sym end) shrunk.0;
        };
      }
