-- The words of devices.
use Rattle.std.specs.Prelude.{ℕ}
use Rattle.gup_exec_parts.specs.Actor.{slots_in}
use Rattle.gup_exec_rows.specs.declared.stores.Stores.{Stores}
use Rattle.gup_exec_rows.specs.Row.{at}

-- actors and slots
unfoldable pub slots_of : Stores → ℕ → ℕ → ℕ
slots_of stores a = slots_in (at stores.rows a)
