-- A script's start, in which the processes come in their order.
use Rattle.std.specs.Prelude.{ℕ, Bool, nat_lt, ◌&&◌}
use Rattle.gup_script.specs.Script.{ScriptValue}
use Rattle.gup_spec_journal.specs.Place.{starts_born}

-- is the process below this number, and born at the start?
abbrev pub born_below : ScriptValue → (below p : ℕ) → Bool
born_below script below p = nat_lt p below && starts_born script p
