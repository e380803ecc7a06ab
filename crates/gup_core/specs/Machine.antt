-- The machine, and the states of the core run that it shows.
use Rattle.std.specs.Prelude.{◌≡◌, ℕ, ◌+◌, ◌-◌, ◌^◌, Bool, List, Option, Some, length, min, slice_get}
use Rattle.gup_base.specs.declared.entry.Zone.{Zone}
use Rattle.gup_plain.specs.Note.{NoteValue}
use Rattle.gup_script.specs.Script.{ScriptValue}
use Rattle.gup_spec_journal.specs.Place.{present_op}
use Rattle.gup_spec_journal.specs.Follows.{notes_of_turn}
use Rattle.gup_frames.specs.Frames.{free_of}
use Rattle.gup_spec_events.specs.State.{CoreState}
use Rattle.gup_spec_turns.specs.Run.{RunState, run_start, run_after, core_turn_in, turned}
use Rattle.gup_spec_turns.specs.JobPlace.{place_in}
use Rattle.gup_base.specs.declared.entry.Want.{Want}
use Rattle.gup_script.specs.declared.op.Op.TheVariants.{Pin}
use Rattle.gup_op_base.specs.Jobs.{place_of}
use Rattle.gup_op_pins.specs.Pins.{EndAt, last_page}
use Rattle.gup_op_waits.specs.declared.parts.Parts.{Parts}
use Rattle.gup_tables.specs.Pool.{PoolParts, pool_of}
use Rattle.gup_space.specs.Shows.{ShowsPool}
use Rattle.gup_op_waits.specs.declared.seats.Seat.{Seat}
use Rattle.gup_op_waits.specs.Seats.{IsSeat}
use Rattle.gup_op_waits.specs.Parts.{ShowsParts, AreParts}
use Rattle.gup_notify.specs.Mirrors.{Filled, mirrors_of}
use Rattle.gup_notify.specs.Shows.{ShowsMirrors}

-- A machine: its script, the parts of it, the mirror slots, the actors' seats, the pool of page tables, and how many turns are over.
pub record MachineValue : Type 0 where
  pub script : ScriptValue
  pub parts : Parts
  pub mirrors : List (Option Filled)
  pub seats : List Seat
  pub pool : PoolParts
  pub turns : ℕ

abbrev pub machine_of : ScriptValue → Parts → (mirrors : List (Option Filled)) → List Seat → (pool : PoolParts) → (turns : ℕ) → MachineValue
machine_of script parts mirrors seats pool turns =
    record { script = script; parts = parts; mirrors = mirrors; seats = seats; pool = pool; turns = turns }

-- the number of a turn stays at the last value of 32 bits
abbrev pub counted : ℕ → ℕ
counted turns = min (turns + 1) (2 ^ 32 - 1)

-- how many frames of the zone are free
abbrev pub free_frames_in : CoreState → Zone → ℕ
free_frames_in s zone =
    free_of
    (record { movable = s.movable; normal = s.normal; count = s.count; mark = s.mark; word = s.word })
    zone

-- turns have led to the state from the start
abbrev pub IsReached : ScriptValue → RunState → Type 0
IsReached script r = (actors : List ℕ) × (r ≡ turned script (run_start script) actors)

-- Turns lead to this state of the core run, and it is as the machine has it. How many they were, the machine counts beside.
pub record Shows (m : MachineValue) (r : RunState) : Type 0 where
  pub reached : IsReached m.script r
  pub parts : ShowsParts m.parts r.core
  pub mirrors : ShowsMirrors (mirrors_of m.mirrors) r.core
  pub pool : ShowsPool (pool_of m.pool) r.core
  pub seats : (a : ℕ) (seat : Seat) → slice_get m.seats a ≡ Some seat → IsSeat (present_op m.script a (r.places a)) (r.places a) seat
  pub jobs : (a : ℕ) (seat : Seat) → slice_get m.seats a ≡ Some seat → place_of seat.job ≡ place_in r.core a
  pub ends : (a handle page n : ℕ) (want : Want) (fast : Bool) (seat : Seat) → slice_get m.seats a ≡ Some seat → present_op m.script a (r.places a) ≡ Some (Pin handle page n want fast) → EndAt (last_page seat.job) (r.core.taken a)

-- A turn of the machine is the actor's turn of the core run from r: it is counted, the notes are its, and the machine shows
-- the state after it.
pub record TakesTurn (old new : MachineValue) (actor : ℕ) (r : RunState) (notes : List NoteValue) : Type 0 where
  pub said : notes ≡ notes_of_turn (counted old.turns) actor ((r.places actor).answered + 1) (core_turn_in old.script r actor).whats
  pub shown : Shows new (run_after old.script r actor)
  pub counts : new.turns ≡ counted old.turns

-- so it is from each state that the machine shows
abbrev pub TakesTurns : (old new : MachineValue) → (actor : ℕ) → List NoteValue → Type 0
TakesTurns old new actor notes = (r : RunState) → Shows old r → TakesTurn old new actor r notes

-- What a machine is between two turns: it has its parts, a seat for each actor and the script's page tables, and shows a state.
pub record IsMachine (m : MachineValue) : Type 0 where
  pub parts : AreParts m.script m.parts
  pub seats : length m.seats ≡ length m.script.actors
  pub tables : (pool_of m.pool).tables ≡ m.script.frames.tables
  pub shown : (r : RunState) × Shows m r

-- a machine that has taken no turn
pub record IsNew (given : ScriptValue) (m : MachineValue) : Type 0 where
  pub script : m.script ≡ given
  pub turns : m.turns ≡ 0
  pub shown : Shows m (run_start given)
