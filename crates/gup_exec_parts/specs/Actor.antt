-- A device's store, read as a function of slots.
use Rattle.std.specs.Prelude.{ℕ}
use Rattle.std.specs.BTreeMap.{BTreeMap}
use Rattle.gup_exec_parts.specs.declared.actor.Actor.{Actor}
use Rattle.gup_exec_parts.specs.Tables.{at_key}

-- a slot that was never written has 0
abbrev pub slots_in : BTreeMap ℕ ℕ → ℕ → ℕ
slots_in store = at_key (λ (w : ℕ). w) 0 store

abbrev pub store_of : Actor → ℕ → ℕ
store_of a = slots_in a.store
