-- What a turn of an operation starts from: a state that the machine shows.
use Rattle.std.proofs.Common.{◌≡◌, ℕ, ◌<◌, List, Option, Some, None, slice_get, refl, sym, subst}
use Rattle.gup_script.specs.declared.op.Op.{Op}
use Rattle.gup_script.specs.Valid.{IsScript}
use Rattle.gup_script.specs.Script.{ScriptValue}
use Rattle.gup_spec_journal.specs.Place.{doer_of}
use Rattle.gup_spec_events.specs.Invariant.{AllCan}
use Rattle.gup_spec_turns.specs.CoreTurn.{CoreTurn}
use Rattle.gup_spec_turns.specs.JobPlace.{place_in}
use Rattle.gup_spec_turns.specs.Run.{RunState, op_in, waiting_in, core_turn_in, run_start, turned}
use Rattle.gup_law_turns.specs.Standing.{IsStanding}
use Rattle.gup_op_waits.specs.declared.seats.Seat.{Seat}
use Rattle.gup_op_waits.specs.Doers.{IsProcessOf}
use Rattle.gup_op_waits.specs.Seats.{IsSeat}
use Rattle.gup_notify.specs.Mirrors.{mirrors_of}
use Rattle.gup_tables.specs.Pool.{pool_of}
use Rattle.gup_op_turns.specs.Goes.{IsFrom}
use Rattle.gup_core.specs.Machine.{MachineValue, Shows, IsMachine}
use Rattle.gup_core.specs.Rest.{IsAtRest, op_of_seat}
use Rattle.gup_core.proofs.Resting.{Stand, standing, op_there}
use Rattle.gup_core.proofs.Taking.{taken_is, shows_whole, stands_with}

-- what the turns' law says of their events
abbrev pub Can : Type 0
Can = (script : ScriptValue) (actors : List ℕ) (a : ℕ) → IsScript script →
    AllCan (turned script (run_start script) actors).core (core_turn_in script (turned script (run_start script) actors) a).events

can_at : (m : MachineValue) (r : RunState) (a : ℕ) → Can → IsScript m.script → Shows m r → AllCan r.core (core_turn_in m.script r a).events
can_at m r a can valid h =
    subst (λ (x : RunState). AllCan x.core (core_turn_in m.script x a).events) (sym h.reached.1) (can m.script h.reached.0 a valid)

pub is_from : (m : MachineValue) (a : ℕ) (proc : Option ℕ) (seat : Seat) (op : Op)
    → Stand → Can → IsAtRest m → IsMachine m → IsProcessOf (doer_of m.script a (Some op)) proc → slice_get m.seats a ≡ Some seat → op_of_seat m a seat ≡ Some op
    → ((r : RunState) → Shows m r → None ≡ waiting_in m.script r a)
    → IsFrom m.parts (pool_of m.pool) (mirrors_of m.mirrors) a proc seat.far op seat.job
is_from m a proc seat op stand can rest machine of_a here present ready =
    let r : RunState = machine.shown.0 in
    let h : Shows m r = machine.shown.1 in
    let stands : IsStanding m.script r = standing m r stand rest.valid h in
    let op_is : op_in m.script r a ≡ Some op = op_there m r a seat (Some op) h here present in
    let at : IsSeat (Some op) (r.places a) seat = subst (λ (o : Option Op). IsSeat o (r.places a) seat) op_is (h.seats a seat here) in
    record {
      state = r.core;
      who = doer_of m.script a (Some op);
      k = (r.places a).far;
      others = place_in r.core;
      left = r.core.taken;
      actor = refl;
      process = of_a;
      slots = rest.parts.slots a;
      gone = at.1;
      shown = shows_whole m r a seat op h here op_is;
      stands = stands_with m r a op stands h op_is (ready r h);
      tables = stands.tables;
      few = λ table somewhere. subst (λ n. table < n) (sym machine.tables) (stands.few_tables table somewhere);
      can = subst (λ (t : CoreTurn). AllCan r.core t.events) (taken_is m r a op op_is (sym (ready r h))) (can_at m r a can rest.valid h);
    }
