-- Machines with the same image, and machines that show the same state.
use Rattle.std.proofs.Common.{◌≡◌, ℕ, ◌+◌, ◌<◌, Bool, inr, true, List, [], ◌∷◌, Option, Some, None, slice_get, length, get_or, refl, sym, ap, subst, ◌∙◌, arith}
use Rattle.std.proofs.lemmas.Option.{slice_get_within, slice_get-get_or}
use Rattle.gup_base.specs.declared.entry.Want.{Want}
use Rattle.gup_script.specs.declared.op.Op.{Op}
use Rattle.gup_script.specs.declared.op.Op.TheVariants.{Pin, Fork, Move}
use Rattle.gup_script.specs.Script.{ScriptValue}
use Rattle.gup_script.specs.Valid.{IsScript}
use Rattle.gup_spec_events.specs.State.{Taken, Job, idle, marking, moving, forking, walking, between, counted, lowered, cleared, copying, failing, WalkStep, dropping}
use Rattle.gup_spec_journal.specs.Place.{doer, present_op, process_of}
use Rattle.gup_spec_turns.specs.Run.{RunState}
use Rattle.gup_spec_turns.specs.JobPlace.{job_place, place_in, in_walk, KeepsNoJob, StandsFork, StandsMove}
use Rattle.gup_spec_turns.specs.PinPlace.{IsWalkingPin, StandsAtPage}
use Rattle.gup_law_turns.specs.Standing.{IsStanding}
use Rattle.gup_notify.specs.Mirrors.{mirrors_of}
use Rattle.gup_notify.specs.Shows.{ShowsMirrors}
use Rattle.gup_tables.specs.Pool.{pool_of}
use Rattle.gup_space.specs.Shows.{ShowsPool, ShowsSpace}
use Rattle.gup_space.specs.Space.{space_of, has_table}
use Rattle.gup_law_tables.specs.Standing.{has as tables_have, has_table as has_in}
use Rattle.gup_op_base.specs.declared.jobs.JobPlace.{JobPlace as KeptPlace}
use Rattle.gup_op_base.specs.declared.jobs.JobPlace.TheVariants.{Walking}
use Rattle.gup_op_base.specs.declared.jobs.WalkPlace.TheVariants.{Dropping}
use Rattle.gup_op_base.specs.Jobs.{place_of}
use Rattle.gup_op_pins.specs.Pins.{EndAt, last_page}
use Rattle.gup_op_waits.specs.Parts.{ShowsParts, EachSpace}
use Rattle.gup_op_waits.specs.Seats.{IsSeat}
use Rattle.gup_op_waits.specs.declared.seats.Seat.{Seat}
use Rattle.gup_image.specs.declared.fact.Fact.{Fact}
use Rattle.gup_image.specs.Alike.{AreOfOne, AreSameSeats}
use Rattle.gup_core.specs.Machine.{MachineValue, Shows, IsReached, IsMachine}
use Rattle.gup_core.specs.Images.{imaged, IsImage}
use Rattle.gup_core.proofs.Resting.{Stand, standing}

-- two machines of one script are of the same size
pub of_one : (m n : MachineValue) (a b : List Fact) → m.script ≡ n.script → IsImage m a → IsImage n b → AreOfOne (imaged m) (imaged n)
of_one m n a b same i j =
    record {
      one = i.whole;
      other = j.whole;
      spaces = i.machine.parts.spaces ∙ ap (λ (s : ScriptValue). length s.processes) same ∙ sym j.machine.parts.spaces;
      taken = i.machine.parts.taken ∙ ap (λ (s : ScriptValue). length s.actors) same ∙ sym j.machine.parts.taken;
      stores = i.machine.parts.stores ∙ ap (λ (s : ScriptValue). length s.actors) same ∙ sym j.machine.parts.stores;
      slots = λ k x y here there. i.machine.parts.slots k x here ∙ ap (λ (s : ScriptValue). (doer s k).slots) same ∙ sym (j.machine.parts.slots k y there);
      seats = i.machine.seats ∙ ap (λ (s : ScriptValue). length s.actors) same ∙ sym j.machine.seats;
      tables = i.machine.tables ∙ ap (λ (s : ScriptValue). s.frames.tables) same ∙ sym j.machine.tables;
    }

-- the tables of its processes are the script's
pub tables_within : (m : MachineValue) → IsMachine m → IsScript m.script → Stand → EachSpace (λ s. (table : ℕ) → has_table s table ≡ true → table < (pool_of m.pool).tables) m.parts.spaces.items
tables_within m is valid stand p space here table has =
    let r : RunState = is.shown.0 in
    let shows : ShowsSpace p (space_of space) r.core = is.shown.1.parts.spaces p space here in
    let stands : IsStanding m.script r = standing m r stand valid is.shown.1 in
    let there : has_in r.core p table ≡ true =
    ap (λ f. tables_have f (r.core.retired p) table) shows.place ∙ ap (λ ts. tables_have (space_of space).place ts table) shows.retired ∙ has in
    subst (λ n. table < n) (sym is.tables) (stands.few_tables table (inr (p, there)))

-- ---- the same image

-- the seat of an actor in the other machine
pub seat_there : (xs ys : List Seat) (a : ℕ) (x : Seat) → length xs ≡ length ys → slice_get xs a ≡ Some x → (y : Seat) × (slice_get ys a ≡ Some y)
seat_there xs ys a x many here =
    let within = slice_get_within xs a x here in (get_or ys a x, slice_get-get_or ys a x (omega (arith, within, many)))

pub exact : (m n : MachineValue) (r : RunState) → m.script ≡ n.script → length m.seats ≡ length n.seats → AreSameSeats m.seats n.seats
    → (ShowsParts n.parts r.core → ShowsParts m.parts r.core) → (ShowsMirrors (mirrors_of n.mirrors) r.core → ShowsMirrors (mirrors_of m.mirrors) r.core)
    → (ShowsPool (pool_of n.pool) r.core → ShowsPool (pool_of m.pool) r.core)
    → Shows n r → Shows m r
exact m n r same many alike parts mirrors pool h =
    record {
      reached = subst (λ (s : ScriptValue). IsReached s r) (sym same) h.reached;
      parts = parts h.parts;
      mirrors = mirrors h.mirrors;
      pool = pool h.pool;
      seats = λ a x here.
          let y = seat_there m.seats n.seats a x many here in
          let one = alike a x y.0 here y.1 in
          let sits : IsSeat (present_op m.script a (r.places a)) (r.places a) y.0 =
          subst (λ (s : ScriptValue). IsSeat (present_op s a (r.places a)) (r.places a) y.0) (sym same) (h.seats a y.0 y.1) in
          (one.answered ∙ sits.0, one.far ∙ sits.1);
      jobs = λ a x here.
          let y = seat_there m.seats n.seats a x many here in (alike a x y.0 here y.1).place ∙ h.jobs a y.0 y.1;
      ends = λ a handle page k want fast x here is.
          let y = seat_there m.seats n.seats a x many here in
          subst (λ (o : Option ℕ). EndAt o (r.core.taken a)) (sym (alike a x y.0 here y.1).last)
          (h.ends a handle page k want fast y.0 y.1 (ap (λ (s : ScriptValue). present_op s a (r.places a)) (sym same) ∙ is));
    }

-- ---- the same state

-- who stands at a step of a walk is in the middle of one
walk_of : (job : Job) (prepared : Option ℕ) (sequence : ℕ) (step : WalkStep) → job_place job prepared ≡ in_walk sequence step
    → (p : ℕ) × (write : Bool) × (long : Bool) × (job ≡ walking p write long sequence step)
walk_of idle prepared sequence step is = absurd (cc)
walk_of (marking p page frame) prepared sequence step is = absurd (cc)
walk_of (moving p page entry allowed count) prepared sequence step is = absurd (cc)
walk_of (forking p child done between) prepared sequence step is = absurd (cc)
walk_of (forking p child done (counted page)) prepared sequence step is = absurd (cc)
walk_of (forking p child done (lowered page)) prepared sequence step is = absurd (cc)
walk_of (forking p child done (cleared page)) prepared sequence step is = absurd (cc)
walk_of (forking p child done (copying page words)) None sequence step is = absurd (cc)
walk_of (forking p child done (copying page words)) (Some to) sequence step is = absurd (cc)
walk_of (forking p child done failing) prepared sequence step is = absurd (cc)
walk_of (walking p write long s t) prepared sequence step is =
    let one : s ≡ sequence = cc in let other : t ≡ step = cc in
    (p, write, long, ap (λ k. walking p write long k t) one ∙ ap (walking p write long sequence) other)

no_walk : (p : ℕ) (write long : Bool) (sequence : ℕ) (step : WalkStep) (job : Job) → job ≡ walking p write long sequence step → job ≡ idle → ⊥
no_walk p write long sequence step job is none = let no : walking p write long sequence step ≡ idle = sym is ∙ none in absurd (cc)

-- and so it does a pin
pin_of_walk : (script : ScriptValue) (r : RunState) (a p : ℕ) (write long : Bool) (sequence : ℕ) (step : WalkStep) → IsStanding script r → r.core.job a ≡ walking p write long sequence step
    → (handle : ℕ) × (page : ℕ) × (n : ℕ) × (want : Want) × (fast : Bool) × (present_op script a (r.places a) ≡ Some (Pin handle page n want fast))
pin_of_walk script r a p write long sequence step stands is = go (present_op script a (r.places a)) refl
  where
    go : (o : Option Op) → present_op script a (r.places a) ≡ o → (handle : ℕ) × (page : ℕ) × (n : ℕ) × (want : Want) × (fast : Bool) × (present_op script a (r.places a) ≡ Some (Pin handle page n want fast))
    go (Some (Pin handle page n want fast)) now = (handle, page, n, want, fast, now)
    go (Some (Fork child)) now =
        absurd (subst (λ (j : Job). StandsFork r.core a (process_of script a) child j (r.core.prepared a)) is (stands.forks a child now))
    go (Some (Move q page zone)) now = absurd (subst (λ (j : Job). StandsMove r.core a q page zone j) is (stands.moves a q page zone now))
    go o now = absurd (no_walk p write long sequence step (r.core.job a) is (stands.idle_jobs a (subst KeepsNoJob (sym now) tt)))

-- pages that end at two pages end at one
ends_same : (last other : ℕ) (taken : List Taken) → 0 < length taken → EndAt (Some last) taken → EndAt (Some other) taken → last ≡ other
ends_same last other [] some one two = absurd (omega arith)
ends_same last other (t ∷ taken) some one two = let a = one 0 t refl in let b = two 0 t refl in omega (arith, a, b)

-- a walk that drops its pages has one left
some_left : (script : ScriptValue) (r : RunState) (a sequence : ℕ) → IsStanding script r → place_in r.core a ≡ in_walk sequence dropping
    → (handle : ℕ) × (page : ℕ) × (n : ℕ) × (want : Want) × (fast : Bool) × (present_op script a (r.places a) ≡ Some (Pin handle page n want fast)) × (0 < length (r.core.taken a))
some_left script r a sequence stands is =
    let walk = walk_of (r.core.job a) (r.core.prepared a) sequence dropping is in
    let pin = pin_of_walk script r a walk.0 walk.1 walk.2 sequence dropping stands walk.3 in
    let at = stands.pins a pin.0 pin.1 pin.2 pin.3 pin.4 pin.5 in
    let walks : IsWalkingPin r.core (process_of script a) (pin.1 + length (r.core.taken a)) pin.2 (length (r.core.taken a)) pin.3 pin.4 walk.0 walk.1 walk.2 sequence dropping =
    subst (λ (j : Job). StandsAtPage r.core a (process_of script a) (pin.1 + length (r.core.taken a)) pin.2 (length (r.core.taken a)) pin.3 pin.4 j) walk.3 at.at in
    (pin.0, pin.1, pin.2, pin.3, pin.4, pin.5, walks.here)

-- so both machines have the same last page
last_same : (script : ScriptValue) (r : RunState) (a : ℕ) → IsStanding script r → (i j : KeptPlace) → place_of i ≡ place_in r.core a → place_of j ≡ place_in r.core a
    → ((handle page n : ℕ) (want : Want) (fast : Bool) → present_op script a (r.places a) ≡ Some (Pin handle page n want fast) → EndAt (last_page i) (r.core.taken a))
    → ((handle page n : ℕ) (want : Want) (fast : Bool) → present_op script a (r.places a) ≡ Some (Pin handle page n want fast) → EndAt (last_page j) (r.core.taken a))
    → last_page i ≡ last_page j
last_same script r a stands (Walking Dropping last s) (Walking Dropping other t) at_i at_j ends_i ends_j =
    let left = some_left script r a s stands (sym at_i) in
    ap (λ k. Some k)
    (ends_same last other (r.core.taken a) left.6 (ends_i left.0 left.1 left.2 left.3 left.4 left.5) (ends_j left.0 left.1 left.2 left.3 left.4 left.5))
last_same script r a stands (Walking Dropping last s) j at_i at_j ends_i ends_j = absurd (cc)
last_same script r a stands i (Walking Dropping other t) at_i at_j ends_i ends_j = absurd (cc)
last_same script r a stands i j at_i at_j ends_i ends_j = refl

pub same_seats : (m n : MachineValue) (r : RunState) → Stand → IsScript m.script → m.script ≡ n.script → Shows m r → Shows n r → AreSameSeats m.seats n.seats
same_seats m n r stand valid same h k a x y here there =
    let now : present_op n.script a (r.places a) ≡ present_op m.script a (r.places a) = ap (λ (s : ScriptValue). present_op s a (r.places a)) (sym same) in
    let sits : IsSeat (present_op m.script a (r.places a)) (r.places a) y = subst (λ (o : Option Op). IsSeat o (r.places a) y) now (k.seats a y there) in
    let one = h.seats a x here in
    record {
      answered = one.0 ∙ sym sits.0;
      far = one.1 ∙ sym sits.1;
      place = h.jobs a x here ∙ sym (k.jobs a y there);
      last =
          last_same m.script r a (standing m r stand valid h) x.job y.job (h.jobs a x here) (k.jobs a y there)
          (λ handle page c want fast is. h.ends a handle page c want fast x here is)
          (λ handle page c want fast is. k.ends a handle page c want fast y there (now ∙ is));
    }
