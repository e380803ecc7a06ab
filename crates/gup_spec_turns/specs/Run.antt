-- The core run of a script, and turns in any order.
use Rattle.std.specs.Prelude.{◌≡◌, ℕ, ◌+◌, ◌<◌, Bool, true, false, if◌then◌else◌, List, [], ◌∷◌, Option, Some, None, slice_get, length, zero, suc, map}
use Rattle.gup_plain.specs.Note.{NoteValue}
use Rattle.gup_plain.specs.declared.note.What.TheVariants.{Idle, Wait}
use Rattle.gup_plain.specs.declared.note.Waiting.{Waiting}
use Rattle.gup_script.specs.declared.op.Op.{Op}
use Rattle.gup_script.specs.Script.{ScriptValue}
use Rattle.gup_spec_events.specs.State.{CoreState, core_start}
use Rattle.gup_spec_events.specs.Event.{run}
use Rattle.gup_spec_journal.specs.Place.{Place, first_place, Doer, doer_of, present_op, starts_born}
use Rattle.gup_spec_journal.specs.Order.{Turn, places_behind, journal_of, behind, pointer_after}
use Rattle.gup_spec_turns.specs.CoreTurn.{CoreTurn}
use Rattle.gup_spec_turns.specs.Turn.{turn_of}
use Rattle.gup_spec_turns.specs.Waits.{waiting_for}

-- The core state, each actor's place, the pointer, and how many turns are over.
pub record RunState : Type 0 where
  pub core : CoreState
  pub places : ℕ → Place
  pub pointer : ℕ
  pub turns : ℕ

abbrev pub run_start : ScriptValue → RunState
run_start script =
    record {
      core = core_start script.frames.movable script.frames.normal script.frames.tables true (starts_born script);
      places = λ _. first_place;
      pointer = 0;
      turns = 0;
    }

-- the actor's present operation, None where it has finished
abbrev pub op_in : ScriptValue → RunState → ℕ → Option Op
op_in script r a = present_op script a (r.places a)

abbrev pub waiting_with : CoreState → Doer → (far : ℕ) → Option Op → Option Waiting
waiting_with s who far None = None
waiting_with s who far (Some op) = waiting_for s who far op

-- what the actor waits for, if it waits
abbrev pub waiting_in : ScriptValue → RunState → ℕ → Option Waiting
waiting_in script r a = waiting_with r.core (doer_of script a (op_in script r a)) (r.places a).far (op_in script r a)

-- the turn of an actor: idle where it has finished, without an event where it waits, else that of its operation
abbrev pub core_turn_by : CoreState → Doer → (far : ℕ) → Option Op → Option Waiting → CoreTurn
core_turn_by s who far None waiting = record { events = []; whats = Idle ∷ [] }
core_turn_by s who far (Some op) (Some waiting) = record { events = []; whats = Wait waiting ∷ [] }
core_turn_by s who far (Some op) None = turn_of s who far op

abbrev pub core_turn_in : ScriptValue → RunState → ℕ → CoreTurn
core_turn_in script r a =
    core_turn_by r.core (doer_of script a (op_in script r a)) (r.places a).far (op_in script r a) (waiting_in script r a)

abbrev pub turn_in : ScriptValue → RunState → ℕ → Turn
turn_in script r a = record { actor = a; whats = (core_turn_in script r a).whats }

-- can the actor take a turn: has it an operation left, and does it not wait?
abbrev pub is_ready : Option Op → Option Waiting → Bool
is_ready None waiting = false
is_ready (Some op) (Some waiting) = false
is_ready (Some op) None = true

abbrev pub can_go : ScriptValue → RunState → ℕ → Bool
can_go script r a = is_ready (op_in script r a) (waiting_in script r a)

-- the first actor from a on, of n in a circle, that can take a turn
abbrev pub pointed : ScriptValue → RunState → (n a : ℕ) → Option ℕ
pointed script r zero a = None
pointed script r (suc n) a = if can_go script r a then Some a else pointed script r n (behind (length script.actors) a)

-- the written turn that is next, if one is left
abbrev pub written_in : ScriptValue → RunState → Option ℕ
written_in script r = slice_get script.turns r.turns

-- whose turn is next: None where the run is at its end
abbrev pub next_by : ScriptValue → RunState → Option ℕ → Option ℕ
next_by script r (Some written) = Some written
next_by script r None = pointed script r (length script.actors) r.pointer

abbrev pub next_actor : ScriptValue → RunState → Option ℕ
next_actor script r = next_by script r (written_in script r)

abbrev pub run_after : ScriptValue → RunState → ℕ → RunState
run_after script r a =
    record {
      core = run r.core (core_turn_in script r a).events;
      places = places_behind r.places (turn_in script r a);
      pointer = pointer_after (length script.actors) r.pointer (written_in script r) a;
      turns = r.turns + 1;
    }

-- Runs script r turns end: from r these turns are taken, and then none is left.
abbrev pub Runs : ScriptValue → RunState → List Turn → RunState → Type 0
Runs script r [] end = (next_actor script r ≡ None) × (r ≡ end)
Runs script r (turn ∷ turns) end =
    (next_actor script r ≡ Some turn.actor) × (turn ≡ turn_in script r turn.actor)
    × Runs script (run_after script r turn.actor) turns end

-- AreTurns script r turns end: each turn is that of its actor in the state that those before it led to, in whatever order
-- the actors take them, and they lead to this end. The pointer and the number of turns in these states mean nothing.
abbrev pub AreTurns : ScriptValue → RunState → List Turn → RunState → Type 0
AreTurns script r [] end = r ≡ end
AreTurns script r (turn ∷ turns) end =
    (turn ≡ turn_in script r turn.actor) × AreTurns script (run_after script r turn.actor) turns end

-- each actor of the script stands between two operations
abbrev pub AreBetween : ScriptValue → RunState → Type 0
AreBetween script r = (a : ℕ) → a < length script.actors → (r.places a).far ≡ 0

-- the notes are those of the script's core run, which comes to this end
abbrev pub IsCoreRun : ScriptValue → List NoteValue → RunState → Type 0
IsCoreRun script notes end =
    (turns : List Turn) × (notes ≡ journal_of 1 (λ _. first_place) turns) × Runs script (run_start script) turns end

-- the state after turns of these actors
abbrev pub turned : ScriptValue → RunState → List ℕ → RunState
turned script r [] = r
turned script r (a ∷ actors) = turned script (run_after script r a) actors

-- who takes each of these turns
abbrev pub actors_of : List Turn → List ℕ
actors_of turns = map (λ (turn : Turn). turn.actor) turns
