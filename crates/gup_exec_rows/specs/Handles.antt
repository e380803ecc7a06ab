-- Handles.
use Rattle.std.specs.Prelude.{ℕ}
use Rattle.gup_plain.specs.State.{Handle, unmade}
use Rattle.gup_exec_parts.specs.Tables.{at_place}
use Rattle.gup_exec_rows.specs.declared.handles.Handles.{Handles}

-- the handle with a number
unfoldable pub handles_in : Handles → ℕ → Handle
handles_in handles = at_place (λ (h : Handle). h) unmade handles.pins.items
