-- What a bus is: a machine of a script, who has taken its turns, and the notes of these.
use Rattle.std.specs.Prelude.{◌≡◌, ℕ, ◌+◌, ◌-◌, ◌≤◌, Bool, true, false, List, [], length, slice_get, Option, Some, None}
use Rattle.gup_plain.specs.Note.{NoteValue}
use Rattle.gup_plain.specs.declared.note.What.{What}
use Rattle.gup_plain.specs.declared.note.What.TheVariants.{Done}
use Rattle.gup_script.specs.Script.{ScriptValue}
use Rattle.gup_script.specs.Valid.{IsScript}
use Rattle.gup_spec_orders.specs.Orders.{Goes, journal_in}
use Rattle.gup_spec_turns.specs.Cost.{cost}
use Rattle.gup_spec_turns.specs.Run.{run_start, turned}
use Rattle.gup_core.specs.Machine.{MachineValue, Shows}

pub record BusValue : Type 0 where
  pub machine : MachineValue
  pub order : List ℕ
  pub notes : List NoteValue
  pub no_room : Bool

-- The machine is the one that turns in this order lead to from the start of the script, each actor could go when it was its turn,
-- and the notes are those of these turns.
pub record IsBus (script : ScriptValue) (machine : MachineValue) (order : List ℕ) (notes : List NoteValue) : Type 0 where
  pub valid : IsScript script
  pub same : machine.script ≡ script
  pub goes : Goes script (run_start script) order
  pub shown : Shows machine (turned script (run_start script) order)
  pub told : notes ≡ journal_in script order
  -- the machine has counted them, and they have been paid for
  pub count : machine.turns ≡ length order
  pub cheap : length order + cost script (turned script (run_start script) order) ≤ cost script (run_start script)

abbrev pub is_answer : What → Bool
is_answer (Done answer) = true
is_answer what = false

abbrev pub answers : Option NoteValue → Bool
answers None = false
answers (Some note) = is_answer note.what

-- does the last note answer an operation?
abbrev pub ends_in_answer : List NoteValue → Bool
ends_in_answer notes = answers (slice_get notes (length notes - 1))

-- a script that says nothing
abbrev pub no_script : ScriptValue
no_script =
    record {
      frames = record { movable = 0; normal = 0; tables = 0 };
      processes = [];
      actors = [];
      handles = [];
      mirrors = [];
      turns = [];
      seed = 0;
    }
