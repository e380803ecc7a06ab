-- Outcomes as they are printed.
use Rattle.std.specs.Prelude.{◌≡◌, ℕ, ◌<◌, Bool, List, ◌++◌, Some, length, slice_get, map}
use Rattle.gup_script.specs.Script.{ScriptValue}
use Rattle.gup_spec_turns.specs.Run.{run_start, turned, waiting_in}
use Rattle.gup_spec_orders.specs.Orders.{IsOrder, setup, journal_in}
use Rattle.gup_spec_orders.specs.Printed.{lines_in}
use Rattle.gup_spec_orders.specs.declared.told.Named.{Named}
use Rattle.gup_conditions.specs.Line.{LineValue, line_of_answer}
use Rattle.gup_conditions.specs.declared.shown.Shown.{Shown}

-- the lines that a run in this order prints of the named operations, operation by operation
abbrev pub lines_shown : ScriptValue → List Named → (order : List ℕ) → List LineValue
lines_shown script named order = map line_of_answer (lines_in named (journal_in script order))

-- what a run in this order prints of the named operations, and what each actor waits for at its end
pub record IsShown (script : ScriptValue) (named : List Named) (order : List ℕ) (shown : Shown) : Type 0 where
  pub lines : shown.lines.items ≡ lines_shown script named order
  pub waits : (a : ℕ) → a < length script.actors → slice_get shown.waits.items a ≡ Some (waiting_in script (turned script (run_start script) order) a)

-- each happens: its path is an order that comes to it
abbrev pub AreShown : ScriptValue → (behind : Bool) → List Named → List Shown → Type 0
AreShown script behind named outcomes =
    (k : ℕ) (shown : Shown) → slice_get outcomes k ≡ Some shown
    → IsOrder script behind shown.path.items × IsShown script named (setup script behind ++ shown.path.items) shown

-- every order comes to one of them
abbrev pub AreAllShown : ScriptValue → (behind : Bool) → List Named → List Shown → Type 0
AreAllShown script behind named outcomes =
    (order : List ℕ) → IsOrder script behind order
    → (k : ℕ) × (shown : Shown) × (slice_get outcomes k ≡ Some shown) × IsShown script named (setup script behind ++ order) shown
