-- The three kinds of turn of an actor: idle, waiting, and a turn of its operation.
use Rattle.std.proofs.Common.{◌≡◌, ◌⊎◌, inl, inr, arith, ℕ, ◌+◌, ◌==◌, Bool, true, false, cond, List, [], ◌∷◌, length, slice_get, Option, Some, None, is_some, refl, sym, ap, ◌∙◌, subst, eqb-true, arith}
use Rattle.std.proofs.lemmas.Bool.Decides.{nat_tests}
use Rattle.gup_plain.specs.Note.{NoteValue}
use Rattle.gup_plain.specs.declared.answer.Answer.{Answer}
use Rattle.gup_plain.specs.declared.event.PlainEvent.{PlainEvent}
use Rattle.gup_plain.specs.declared.note.Waiting.{Waiting}
use Rattle.gup_plain.specs.declared.note.What.{What}
use Rattle.gup_plain.specs.declared.note.What.TheVariants.{Idle, Wait}
use Rattle.gup_script.specs.declared.op.Op.{Op}
use Rattle.gup_base.specs.declared.entry.Want.{Want}
use Rattle.gup_plain.specs.Put.{put}
use Rattle.gup_script.specs.declared.op.Op.TheVariants.{Unmap, Pin}
use Rattle.gup_script.specs.Script.{ScriptValue}
use Rattle.gup_spec_journal.specs.Place.{Place, Doer, doer_of, place_behind, present_op, birth_for}
use Rattle.gup_spec_journal.specs.Follows.{notes_of_turn}
use Rattle.gup_spec_journal.specs.Order.{Turn, places_behind, pointer_after}
use Rattle.gup_spec_events.specs.State.{CoreState, Taken, Job, idle}
use Rattle.gup_spec_events.specs.Event.{run}
use Rattle.gup_spec_turns.specs.CoreTurn.{CoreTurn}
use Rattle.gup_spec_turns.specs.Turn.{turn_of}
use Rattle.gup_spec_turns.specs.Waits.{waiting_for}
use Rattle.gup_spec_turns.specs.Run.{RunState, op_in, waiting_with, waiting_in, core_turn_by, core_turn_in, run_after, run_start, turned, written_in}
use Rattle.gup_law_turns.specs.Standing.{IsStanding}
use Rattle.gup_spec_turns.specs.JobPlace.{job_place, place_in, unbegun}
use Rattle.gup_op_base.specs.declared.jobs.JobPlace.{JobPlace}
use Rattle.gup_op_base.specs.declared.jobs.JobPlace.TheVariants.{Walking}
use Rattle.gup_op_base.specs.Far.{far_in}
use Rattle.gup_op_pins.specs.Pins.{EndAt, last_page}
use Rattle.gup_op_base.specs.Jobs.{place_of}
use Rattle.gup_op_base.specs.Said.{Said, whats_by, whats_of}
use Rattle.gup_op_base.specs.Turns.{Leads}
use Rattle.gup_op_waits.specs.declared.parts.Parts.{Parts}
use Rattle.gup_op_waits.specs.declared.seats.Seat.{Seat}
use Rattle.gup_op_waits.specs.Doers.{IsProcessOf}
use Rattle.gup_op_waits.specs.Stands.{StandsAt}
use Rattle.gup_op_turns.specs.Goes.{ShowsAll, ShowsWhole, StandsWith, TakesMirrors, EndsAt, all_view, whole_view}
use Rattle.gup_tables.specs.Pool.{PoolParts, pool_of}
use Rattle.gup_space.specs.Shows.{ShowsPool}
use Rattle.gup_notify.specs.Mirrors.{Filled, mirrors_of}
use Rattle.gup_notify.specs.Shows.{ShowsMirrors}
use Rattle.gup_script.specs.Valid.{IsScript}
use Rattle.gup_law_turns.specs.Slots.{EmptiesSlots}
use Rattle.gup_core.specs.Machine.{MachineValue, machine_of, counted, Shows, TakesTurns, IsMachine, IsReached}
use Rattle.gup_op_waits.specs.Parts.{ShowsParts, AreParts}
use Rattle.gup_core.specs.Rest.{IsAtRest, op_of_seat}
use Rattle.gup_op_waits.specs.Seats.{IsSeat, far_behind, seat_behind}
use Rattle.gup_core.proofs.Notes.{NoTwo, turn_two}
use Rattle.gup_core.proofs.Resting.{Stand, standing, reached_behind, op_there, stands_at}
use Rattle.gup_op_turns.proofs.Turning.{IsTurnWhole, differ, replaced}
use Rattle.gup_law_turns.proofs.TurnAsOwn.{as_own}

-- What the machine is after a turn t of an actor shows the state after it.
shows_behind : (m : MachineValue) (parts : Parts) (mirrors : List (Option Filled)) (seats : List Seat) (pool : PoolParts) (turns : ℕ) (r : RunState) (a : ℕ) (t : CoreTurn)
    → core_turn_in m.script r a ≡ t → Shows m r → ShowsParts parts (run r.core t.events) → ShowsMirrors (mirrors_of mirrors) (run r.core t.events) → ShowsPool (pool_of pool) (run r.core t.events)
    → ((b : ℕ) (seat : Seat) → slice_get seats b ≡ Some seat → IsSeat (present_op m.script b (places_behind r.places (record { actor = a; whats = t.whats }) b)) (places_behind r.places (record { actor = a; whats = t.whats }) b) seat)
    → ((b : ℕ) (seat : Seat) → slice_get seats b ≡ Some seat → place_of seat.job ≡ place_in (run r.core t.events) b)
    → ((b handle page n : ℕ) (want : Want) (fast : Bool) (seat : Seat) → slice_get seats b ≡ Some seat → present_op m.script b (places_behind r.places (record { actor = a; whats = t.whats }) b) ≡ Some (Pin handle page n want fast) → EndAt (last_page seat.job) ((run r.core t.events).taken b))
    → Shows (machine_of m.script parts mirrors seats pool turns) (run_after m.script r a)
shows_behind m parts mirrors seats pool turns r a t is h shown slots pooled places jobs ends =
    let behind : CoreTurn → RunState =
    λ u. record {
      core = run r.core u.events;
      places = places_behind r.places (record { actor = a; whats = u.whats });
      pointer = pointer_after (length m.script.actors) r.pointer (written_in m.script r) a;
      turns = r.turns + 1;
    } in
    record {
      reached = reached_behind m.script r a h.reached;
      parts = subst (λ (u : CoreTurn). ShowsParts parts (behind u).core) (sym is) shown;
      mirrors = subst (λ (u : CoreTurn). ShowsMirrors (mirrors_of mirrors) (behind u).core) (sym is) slots;
      pool = subst (λ (u : CoreTurn). ShowsPool (pool_of pool) (behind u).core) (sym is) pooled;
      seats =
          subst (λ (u : CoreTurn). (b : ℕ) (seat : Seat) → slice_get seats b ≡ Some seat → IsSeat (present_op m.script b ((behind u).places b)) ((behind u).places b) seat) (sym is) places;
      jobs = subst (λ (u : CoreTurn). (b : ℕ) (seat : Seat) → slice_get seats b ≡ Some seat → place_of seat.job ≡ place_in (behind u).core b) (sym is) jobs;
      ends =
          subst (λ (u : CoreTurn). (b handle page n : ℕ) (want : Want) (fast : Bool) (seat : Seat) → slice_get seats b ≡ Some seat → present_op m.script b ((behind u).places b) ≡ Some (Pin handle page n want fast) → EndAt (last_page seat.job) ((behind u).core.taken b)) (sym is) ends;
    }

-- the actor's place is changed, and its seat with it
seats_behind : (script : ScriptValue) (places : ℕ → Place) (seats others : List Seat) (a : ℕ) (turn : Turn) (seat : Seat) → turn.actor ≡ a
    → ((b : ℕ) (s : Seat) → slice_get seats b ≡ Some s → IsSeat (present_op script b (places b)) (places b) s)
    → ((b : ℕ) → (b ≡ a → ⊥) → slice_get others b ≡ slice_get seats b)
    → slice_get others a ≡ Some seat
    → IsSeat (present_op script a (place_behind (places a) turn.whats)) (place_behind (places a) turn.whats) seat
    → (b : ℕ) (s : Seat) → slice_get others b ≡ Some s → IsSeat (present_op script b (places_behind places turn b)) (places_behind places turn b) s
seats_behind script places seats others a turn seat actor old same here new b s found = go (b == turn.actor) refl
  where
    at_actor : (e : b ≡ a) → IsSeat (present_op script b (place_behind (places turn.actor) turn.whats)) (place_behind (places turn.actor) turn.whats) s
    at_actor e =
        let is : Some s ≡ Some seat = sym found ∙ ap (λ k. slice_get others k) e ∙ here in
        let seats_are : seat ≡ s = cc in
        subst (λ (x : Seat). IsSeat (present_op script b (place_behind (places turn.actor) turn.whats)) (place_behind (places turn.actor) turn.whats) x) seats_are
        (subst (λ (k : ℕ). IsSeat (present_op script b (place_behind (places k) turn.whats)) (place_behind (places k) turn.whats) seat) (sym actor)
        (subst (λ (k : ℕ). IsSeat (present_op script k (place_behind (places a) turn.whats)) (place_behind (places a) turn.whats) seat) (sym e) new))

    go : (c : Bool) → (b == turn.actor) ≡ c → IsSeat (present_op script b (cond c (place_behind (places turn.actor) turn.whats) (places b))) (cond c (place_behind (places turn.actor) turn.whats) (places b)) s
    go true e = at_actor (eqb-true b turn.actor e ∙ actor)
    go false e = old b s (sym (same b (λ is. differ b turn.actor e (is ∙ sym actor))) ∙ found)

-- its fork stands where the seat says, and those of others where they stood
forks_behind : (s t : CoreState) (seats others : List Seat) (a : ℕ) (seat : Seat)
    → ((b : ℕ) (x : Seat) → slice_get seats b ≡ Some x → place_of x.job ≡ place_in s b)
    → ((b : ℕ) → (b ≡ a → ⊥) → slice_get others b ≡ slice_get seats b) → slice_get others a ≡ Some seat
    → place_of seat.job ≡ place_in t a → ((b : ℕ) → (b ≡ a → ⊥) → place_in t b ≡ place_in s b)
    → (b : ℕ) (x : Seat) → slice_get others b ≡ Some x → place_of x.job ≡ place_in t b
forks_behind s t seats others a seat old same here new stay =
    replaced (λ b (x : Seat). place_of x.job ≡ place_in t b) seats others a seat here same new
    (λ b x apart found. old b x found ∙ sym (stay b apart))

-- a turn leaves a machine
pub still_machine : (m n : MachineValue) (a : ℕ) (notes : List NoteValue) → IsMachine m → AreParts n.script n.parts → length n.seats ≡ length n.script.actors → (pool_of n.pool).tables ≡ n.script.frames.tables → TakesTurns m n a notes → IsMachine n
still_machine m n a notes was parts seats tables turns =
    record { parts = parts; seats = seats; tables = tables; shown = (run_after m.script was.shown.0 a, (turns was.shown.0 was.shown.1).shown) }

-- ---- idle, or waiting

-- an actor that stays at its place leaves all there
same_places : (script : ScriptValue) (places : ℕ → Place) (a : ℕ) (what : What) → place_behind (places a) (what ∷ []) ≡ places a → (b : ℕ) → places_behind places (record { actor = a; whats = what ∷ [] }) b ≡ places b
same_places script places a what same b = go (b == a) refl
  where
    go : (t : Bool) → (b == a) ≡ t → (cond t (place_behind (places a) (what ∷ [])) (places b)) ≡ places b
    go true is = same ∙ ap places (sym (eqb-true b a is))
    go false is = refl

-- a turn without an event leaves all but its number
pub stays : (m : MachineValue) (r : RunState) (a : ℕ) (seat : Seat) (turns : ℕ) (what : What) → Shows m r → slice_get m.seats a ≡ Some seat
    → core_turn_in m.script r a ≡ record { events = []; whats = what ∷ [] } → place_behind (r.places a) (what ∷ []) ≡ r.places a
    → Shows (machine_of m.script m.parts m.mirrors m.seats m.pool turns) (run_after m.script r a)
stays m r a seat turns what h here is same =
    shows_behind m m.parts m.mirrors m.seats m.pool turns r a (record { events = []; whats = what ∷ [] }) is h h.parts h.mirrors h.pool
    (seats_behind m.script r.places m.seats m.seats a (record { actor = a; whats = what ∷ [] }) seat refl h.seats (λ b apart. refl) here
    (subst (λ (x : Place). IsSeat (present_op m.script a x) x seat) (sym same) (h.seats a seat here)))
    h.jobs (λ b handle page n want fast s found now. h.ends b handle page n want fast s found (sym (ap (present_op m.script b) (same_places m.script r.places a what same b)) ∙ now))

pub says_so : (m : MachineValue) (r : RunState) (a : ℕ) (seat : Seat) (turns : ℕ) (t : CoreTurn) (whats : List What) → Shows m r → slice_get m.seats a ≡ Some seat → turns ≡ counted m.turns → core_turn_in m.script r a ≡ t → t.whats ≡ whats
    → notes_of_turn turns a (seat.answered + 1) whats ≡ notes_of_turn (counted m.turns) a ((r.places a).answered + 1) (core_turn_in m.script r a).whats
says_so m r a seat turns t whats h here count is says =
    ap (λ k. notes_of_turn k a (seat.answered + 1) whats) count
    ∙ ap (λ k. notes_of_turn (counted m.turns) a (k + 1) whats) (h.seats a seat here).0
    ∙ ap (λ ws. notes_of_turn (counted m.turns) a ((r.places a).answered + 1) ws) (sym says)
    ∙ ap (λ (u : CoreTurn). notes_of_turn (counted m.turns) a ((r.places a).answered + 1) u.whats) (sym is)

pub idles : (m : MachineValue) (a : ℕ) (seat : Seat) (turns : ℕ) → slice_get m.seats a ≡ Some seat → op_of_seat m a seat ≡ None → turns ≡ counted m.turns
    → TakesTurns m (machine_of m.script m.parts m.mirrors m.seats m.pool turns) a (notes_of_turn turns a (seat.answered + 1) (Idle ∷ []))
idles m a seat turns here none count r h =
    let is : core_turn_in m.script r a ≡ record { events = []; whats = Idle ∷ [] } =
    ap (λ o. core_turn_by r.core (doer_of m.script a o) (r.places a).far o (waiting_in m.script r a)) (op_there m r a seat None h here none) in
    record {
      said = says_so m r a seat turns (record { events = []; whats = Idle ∷ [] }) (Idle ∷ []) h here count is refl;
      shown = stays m r a seat turns Idle h here is refl;
      counts = count;
    }

-- what is known of the actor's waiting from every state that the machine shows
abbrev pub IsWaiting : MachineValue → (a : ℕ) → (proc : Option ℕ) → Seat → Op → Option Waiting → Type 0
IsWaiting m a proc seat op waiting =
    (s : CoreState) (who : Doer) (far : ℕ) → ShowsParts m.parts s → who.actor ≡ a → IsProcessOf who proc → seat.far ≡ far_in (Some op) far
    → place_of seat.job ≡ place_in s a → StandsAt s a who.proc far op → waiting ≡ waiting_for s who far op

-- it is what the core run says
pub waiting_is : (m : MachineValue) (a : ℕ) (proc : Option ℕ) (seat : Seat) (op : Op) (waiting : Option Waiting) → Stand → IsAtRest m → IsProcessOf (doer_of m.script a (Some op)) proc → slice_get m.seats a ≡ Some seat → op_of_seat m a seat ≡ Some op → IsWaiting m a proc seat op waiting
    → (r : RunState) → Shows m r → waiting ≡ waiting_in m.script r a
waiting_is m a proc seat op waiting stand rest of_a here present is r h =
    let now : present_op m.script a (r.places a) ≡ Some op = op_there m r a seat (Some op) h here present in
    let at : StandsAt r.core a (doer_of m.script a (Some op)).proc (r.places a).far op = stands_at m.script r a op (standing m r stand rest.valid h) now in
    let sits : IsSeat (Some op) (r.places a) seat = subst (λ (o : Option Op). IsSeat o (r.places a) seat) now (h.seats a seat here) in
    is r.core (doer_of m.script a (Some op)) (r.places a).far h.parts refl of_a sits.1 (h.jobs a seat here) at
    ∙ ap (λ o. waiting_with r.core (doer_of m.script a o) (r.places a).far o) (sym now)

pub waits : (m : MachineValue) (a : ℕ) (seat : Seat) (op : Op) (turns : ℕ) (waiting : Waiting) → slice_get m.seats a ≡ Some seat → op_of_seat m a seat ≡ Some op → turns ≡ counted m.turns
    → ((r : RunState) → Shows m r → Some waiting ≡ waiting_in m.script r a)
    → TakesTurns m (machine_of m.script m.parts m.mirrors m.seats m.pool turns) a (notes_of_turn turns a (seat.answered + 1) (Wait waiting ∷ []))
waits m a seat op turns waiting here present count waiting_so r h =
    let is : core_turn_in m.script r a ≡ record { events = []; whats = Wait waiting ∷ [] } =
    ap (λ o. core_turn_by r.core (doer_of m.script a o) (r.places a).far o (waiting_in m.script r a)) (op_there m r a seat (Some op) h here present)
    ∙ ap (λ w. core_turn_by r.core (doer_of m.script a (Some op)) (r.places a).far (Some op) w) (sym (waiting_so r h)) in
    record {
      said = says_so m r a seat turns (record { events = []; whats = Wait waiting ∷ [] }) (Wait waiting ∷ []) h here count is refl;
      shown = stays m r a seat turns (Wait waiting) h here is refl;
      counts = count;
    }

-- ---- a turn of an operation

-- nothing is counted before an operation's first turn
pub first_far : (op : Option Op) → 0 ≡ far_in op 0
first_far (Some (Unmap page n)) = refl
first_far op = refl

far_next : (op : Op) (far at : ℕ) → at ≡ far_in (Some op) far → far_behind op at ≡ far_in (Some op) (far + 1)
far_next (Unmap page n) far at is = ap (λ k. k + 1) is
far_next op far at is = omega arith

-- after a turn of its operation the actor's seat is at its place
seat_next : (script : ScriptValue) (a : ℕ) (place : Place) (seat : Seat) (op : Op) (job : JobPlace) (event next : Option PlainEvent) (answer : Option Answer)
    → present_op script a place ≡ Some op → IsSeat (Some op) place seat → NoTwo (whats_by event next answer)
    → IsSeat (present_op script a (place_behind place (whats_by event next answer))) (place_behind place (whats_by event next answer)) (seat_behind seat op (is_some answer) job)
seat_next script a place seat op job None None None is at two =
    subst (λ (o : Option Op). IsSeat o (place_behind place (whats_by None None None)) (seat_behind seat op false job)) (sym is) (at.0, far_next op place.far seat.far at.1)
seat_next script a place seat op job (Some event) None None is at two =
    subst (λ (o : Option Op). IsSeat o (place_behind place (whats_by (Some event) None None)) (seat_behind seat op false job)) (sym is) (at.0, far_next op place.far seat.far at.1)
seat_next script a place seat op job None (Some next) None is at two =
    subst (λ (o : Option Op). IsSeat o (place_behind place (whats_by None (Some next) None)) (seat_behind seat op false job)) (sym is) (at.0, far_next op place.far seat.far at.1)
seat_next script a place seat op job (Some event) (Some next) None is at two = absurd two
seat_next script a place seat op job None None (Some answer) is at two = (ap (λ k. k + 1) at.0, first_far (present_op script a (place_behind place (whats_by None None (Some answer)))))
seat_next script a place seat op job (Some event) None (Some answer) is at two =
    (ap (λ k. k + 1) at.0, first_far (present_op script a (place_behind place (whats_by (Some event) None (Some answer)))))
seat_next script a place seat op job None (Some next) (Some answer) is at two =
    (ap (λ k. k + 1) at.0, first_far (present_op script a (place_behind place (whats_by None (Some next) (Some answer)))))
seat_next script a place seat op job (Some event) (Some next) (Some answer) is at two =
    (ap (λ k. k + 1) at.0, first_far (present_op script a (place_behind place (whats_by (Some event) (Some next) (Some answer)))))

pub job_of_seat : (seat : Seat) (op : Op) (answered : Bool) (job : JobPlace) → (seat_behind seat op answered job).job ≡ job
job_of_seat seat op true job = refl
job_of_seat seat op false job = refl

-- after such notes the actor does the same operation, or stands at the first turn of the next one
same_or_first : (script : ScriptValue) (a : ℕ) (place : Place) (event next : Option PlainEvent) (answer : Option Answer)
    → (present_op script a (place_behind place (whats_by event next answer)) ≡ present_op script a place) ⊎ ((place_behind place (whats_by event next answer)).far ≡ 0)
same_or_first script a place None None None = inl refl
same_or_first script a place (Some event) None None = inl refl
same_or_first script a place None (Some next) None = inl refl
same_or_first script a place (Some event) (Some next) None = inl refl
same_or_first script a place None None (Some answer) = inr refl
same_or_first script a place (Some event) None (Some answer) = inr refl
same_or_first script a place None (Some next) (Some answer) = inr refl
same_or_first script a place (Some event) (Some next) (Some answer) = inr refl

put_here : {X : Type 0} (a : ℕ) (x : X) (f : ℕ → X) → put a x f a ≡ x
put_here a x f = grind (arith, nat_tests)

-- where a job is in the middle of nothing it has nothing to drop
none_left : (job : JobPlace) (taken : List Taken) → place_of job ≡ unbegun → EndAt (last_page job) taken
none_left (Walking place page sequence) taken is = absurd (cc is)
none_left job taken is = tt

-- what a pin's walk has left to drop ends where its seat says, after the turn, too
ends_behind : (script : ScriptValue) (places : ℕ → Place) (s t : CoreState) (seats others : List Seat) (a : ℕ) (whats : List What) (seat : Seat)
    → ((b handle page n : ℕ) (want : Want) (fast : Bool) (x : Seat) → slice_get seats b ≡ Some x → present_op script b (places b) ≡ Some (Pin handle page n want fast) → EndAt (last_page x.job) (s.taken b))
    → ((b : ℕ) → (b ≡ a → ⊥) → slice_get others b ≡ slice_get seats b) → slice_get others a ≡ Some seat
    → ((handle page n : ℕ) (want : Want) (fast : Bool) → present_op script a (place_behind (places a) whats) ≡ Some (Pin handle page n want fast) → EndAt (last_page seat.job) (t.taken a))
    → ((b : ℕ) → (b ≡ a → ⊥) → t.taken b ≡ s.taken b)
    → (b handle page n : ℕ) (want : Want) (fast : Bool) (x : Seat) → slice_get others b ≡ Some x → present_op script b (places_behind places (record { actor = a; whats = whats }) b) ≡ Some (Pin handle page n want fast) → EndAt (last_page x.job) (t.taken b)
ends_behind script places s t seats others a whats seat old same here new stay b handle page n want fast x found now = go (b == a) refl now
  where
    at_actor : b ≡ a → present_op script b (place_behind (places a) whats) ≡ Some (Pin handle page n want fast) → EndAt (last_page x.job) (t.taken b)
    at_actor e is =
        let one : Some seat ≡ Some x = sym here ∙ ap (λ k. slice_get others k) (sym e) ∙ found in
        subst (λ (k : ℕ). EndAt (last_page x.job) (t.taken k)) (sym e)
        (subst (λ (y : Seat). EndAt (last_page y.job) (t.taken a)) (some_seat one)
        (new handle page n want fast (ap (λ (k : ℕ). present_op script k (place_behind (places a) whats)) (sym e) ∙ is)))
      where
        some_seat : {y z : Seat} → Some y ≡ Some z → y ≡ z
        some_seat e = cc

    go : (c : Bool) → (b == a) ≡ c → present_op script b (cond c (place_behind (places a) whats) (places b)) ≡ Some (Pin handle page n want fast) → EndAt (last_page x.job) (t.taken b)
    go true e is = at_actor (eqb-true b a e) is
    go false e is =
        let apart = differ b a e in
        subst (EndAt (last_page x.job)) (sym (stay b apart)) (old b handle page n want fast x (sym (same b apart) ∙ found) is)

-- the turn is that of the operation, or its refusal
pub taken_is : (m : MachineValue) (r : RunState) (a : ℕ) (op : Op) → op_in m.script r a ≡ Some op → waiting_in m.script r a ≡ None → core_turn_in m.script r a ≡ turn_of r.core (doer_of m.script a (Some op)) (r.places a).far op
taken_is m r a op is none =
    ap (λ o. core_turn_by r.core (doer_of m.script a o) (r.places a).far o (waiting_in m.script r a)) is
    ∙ ap (λ w. core_turn_by r.core (doer_of m.script a (Some op)) (r.places a).far (Some op) w) none

-- what the turns' law says of slots
abbrev pub Empties : Type 0
Empties = (script : ScriptValue) (actors : List ℕ) (a : ℕ) → IsScript script →
    EmptiesSlots (turned script (run_start script) actors).core (op_in script (turned script (run_start script) actors) a) (core_turn_in script (turned script (run_start script) actors) a)

empties_at : (m : MachineValue) (r : RunState) (a : ℕ) → Empties → IsScript m.script → Shows m r → EmptiesSlots r.core (op_in m.script r a) (core_turn_in m.script r a)
empties_at m r a empties valid h =
    subst (λ (x : RunState). EmptiesSlots x.core (op_in m.script x a) (core_turn_in m.script x a)) (sym h.reached.1) (empties m.script h.reached.0 a valid)

-- the state before the turn has all that the machine has of it
pub shows_whole : (m : MachineValue) (r : RunState) (a : ℕ) (seat : Seat) (op : Op) → Shows m r → slice_get m.seats a ≡ Some seat → op_in m.script r a ≡ Some op
    → ShowsWhole a op (whole_view (all_view m.parts seat.job (place_in r.core) r.core.taken) (pool_of m.pool)) r.core
shows_whole m r a seat op h here op_is =
    record {
      all = record { parts = h.parts; job = h.jobs a seat here; ends = ends_now op r.core.taken (λ handle page n want fast same. h.ends a handle page n want fast seat here (op_is ∙ ap (λ (o : Op). Some o) same)); others = λ b apart. refl; left = λ b apart. refl };
      pool = h.pool;
    }
  where
    ends_now : (o : Op) (taken : ℕ → List Taken) → ((handle page n : ℕ) (want : Want) (fast : Bool) → o ≡ Pin handle page n want fast → EndAt (last_page seat.job) (taken a)) → EndsAt o seat.job (taken a)
    ends_now (Pin handle page n want fast) taken all = all handle page n want fast refl
    ends_now o taken all = tt

-- and the actor stands there before its turn, and waits for nothing
pub stands_with : (m : MachineValue) (r : RunState) (a : ℕ) (op : Op) → IsStanding m.script r → Shows m r → op_in m.script r a ≡ Some op → None ≡ waiting_in m.script r a
    → StandsWith (mirrors_of m.mirrors) a (doer_of m.script a (Some op)) (r.places a).far op r.core
stands_with m r a op stands h op_is ready =
    let far : ℕ = (r.places a).far in
    let free : waiting_for r.core (doer_of m.script a (Some op)) far op ≡ None = ap (λ o. waiting_with r.core (doer_of m.script a o) far o) (sym op_is) ∙ sym ready in
    record { free = record { sound = stands.sound; at = stands_at m.script r a op stands op_is; free = free }; slots = h.mirrors }

pub goes : (m : MachineValue) (a : ℕ) (proc : Option ℕ) (seat next : Seat) (op : Op) (parts : Parts) (mirrors : List (Option Filled)) (seats : List Seat) (pool : PoolParts) (turns : ℕ) (said : Said) (job : JobPlace)
    → Stand → Empties → IsAtRest m → IsProcessOf (doer_of m.script a (Some op)) proc → slice_get m.seats a ≡ Some seat → op_of_seat m a seat ≡ Some op → turns ≡ counted m.turns
    → ((r : RunState) → Shows m r → None ≡ waiting_in m.script r a)
    → next ≡ seat_behind seat op (is_some said.answer) job → slice_get seats a ≡ Some next → ((b : ℕ) → (b ≡ a → ⊥) → slice_get seats b ≡ slice_get m.seats b)
    → IsTurnWhole (mirrors_of m.mirrors) m.parts parts (pool_of m.pool) (pool_of pool) a proc seat.far op seat.job (whats_of said) job
    → TakesMirrors m.parts (pool_of m.pool) a proc seat.far op seat.job (mirrors_of m.mirrors) (mirrors_of mirrors)
    → TakesTurns m (machine_of m.script parts mirrors seats pool turns) a (notes_of_turn turns a (seat.answered + 1) (whats_of said))
goes m a proc seat next op parts mirrors seats pool turns said job stand empties rest of_a here present count ready next_is seated unseated turn slots r h =
    let far : ℕ = (r.places a).far in
    let who : Doer = doer_of m.script a (Some op) in
    let stands : IsStanding m.script r = standing m r stand rest.valid h in
    let op_is : op_in m.script r a ≡ Some op = op_there m r a seat (Some op) h here present in
    let at : IsSeat (Some op) (r.places a) seat = subst (λ (o : Option Op). IsSeat o (r.places a) seat) op_is (h.seats a seat here) in
    let t : CoreTurn = turn_of r.core who far op in
    let is : core_turn_in m.script r a ≡ t = taken_is m r a op op_is (sym (ready r h)) in
    let forks = place_in r.core in
    let shown = shows_whole m r a seat op h here op_is in
    let free = stands_with m r a op stands h op_is (ready r h) in
    let led : Leads (ShowsWhole a op) (whole_view (all_view parts job forks r.core.taken) (pool_of pool)) r.core t (whats_of said) =
    turn who far forks r.core.taken refl of_a (rest.parts.slots a) at.1 r.core shown free in
    let after : ShowsAll a op (all_view parts job forks r.core.taken) (run r.core t.events) = led.shown.all in
    let emptied : EmptiesSlots r.core (Some op) t =
    subst (EmptiesSlots r.core (Some op)) is (subst (λ (o : Option Op). EmptiesSlots r.core o (core_turn_in m.script r a)) op_is (empties_at m r a empties rest.valid h)) in
    let seated_so : slice_get seats a ≡ Some (seat_behind seat op (is_some said.answer) job) = seated ∙ ap (λ (s : Seat). Some s) next_is in
    let two : NoTwo (whats_of said) = let own = as_own r.core who far op in subst (λ (ws : List What). NoTwo ws) (sym own.whats ∙ led.says) (turn_two (birth_for own.state.birth who) own.state a who.proc who.slots far op) in
    let reached : IsReached m.script (run_after m.script r a) = reached_behind m.script r a h.reached in
    let stands_after : IsStanding m.script (run_after m.script r a) = subst (λ (x : RunState). IsStanding m.script x) (sym reached.1) (stand m.script reached.0 rest.valid) in
    let rests : (place_behind (r.places a) t.whats).far ≡ 0 → (run r.core t.events).job a ≡ idle =
    subst (λ (u : CoreTurn). (place_behind (r.places a) u.whats).far ≡ 0 → (run r.core u.events).job a ≡ idle) is
    (λ first. stands_after.fresh a (ap (λ (x : Place). x.far) (put_here a (place_behind (r.places a) (core_turn_in m.script r a).whats) r.places) ∙ first)) in
    let rests_then : (place_behind (r.places a) (whats_of said)).far ≡ 0 → place_in (run r.core t.events) a ≡ unbegun =
    λ first. ap (λ (j : Job). job_place j ((run r.core t.events).prepared a)) (rests (ap (λ (ws : List What). (place_behind (r.places a) ws).far) led.says ∙ first)) in
    record {
      said = says_so m r a seat turns t (whats_of said) h here count is led.says;
      shown =
          shows_behind m parts mirrors seats pool turns r a t is h after.parts (slots r.core who far forks r.core.taken refl of_a at.1 shown free emptied) led.shown.pool
          (seats_behind m.script r.places m.seats seats a (record { actor = a; whats = t.whats }) (seat_behind seat op (is_some said.answer) job) refl h.seats unseated seated_so
          (subst (λ (ws : List What). IsSeat (present_op m.script a (place_behind (r.places a) ws)) (place_behind (r.places a) ws) (seat_behind seat op (is_some said.answer) job)) (sym led.says)
          (seat_next m.script a (r.places a) seat op job said.event said.next said.answer op_is at two)))
          (forks_behind r.core (run r.core t.events) m.seats seats a (seat_behind seat op (is_some said.answer) job) h.jobs unseated seated_so
          (ap place_of (job_of_seat seat op (is_some said.answer) job) ∙ after.job) after.others)
          (ends_behind m.script r.places r.core (run r.core t.events) m.seats seats a t.whats (seat_behind seat op (is_some said.answer) job) h.ends unseated seated_so
          (subst (λ (ws : List What). (handle page n : ℕ) (want : Want) (fast : Bool) → present_op m.script a (place_behind (r.places a) ws) ≡ Some (Pin handle page n want fast) → EndAt (last_page (seat_behind seat op (is_some said.answer) job).job) ((run r.core t.events).taken a)) (sym led.says)
          (λ handle page n want fast now.
          subst (λ (j : JobPlace). EndAt (last_page j) ((run r.core t.events).taken a)) (sym (job_of_seat seat op (is_some said.answer) job))
          (elim (same_or_first m.script a (r.places a) said.event said.next said.answer) [
            | inl same ↦ ends_then op job ((run r.core t.events).taken a) handle page n want fast (some_op (sym op_is ∙ sym same ∙ now)) after.ends
            | inr first ↦ none_left job ((run r.core t.events).taken a) (after.job ∙ rests_then first)
          ])))
          after.left);
      counts = count;
    }
  where
    some_op : {o x : Op} → Some o ≡ Some x → o ≡ x
    some_op e = cc

    ends_then : (o : Op) (j : JobPlace) (taken : List Taken) (handle page n : ℕ) (want : Want) (fast : Bool) → o ≡ Pin handle page n want fast → EndsAt o j taken → EndAt (last_page j) taken
    ends_then o j taken handle page n want fast same ends = subst (λ (x : Op). EndsAt x j taken) same ends
