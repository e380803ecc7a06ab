-- What a search has found so far.
use Rattle.std.specs.Prelude.{◌≡◌, ℕ, ◌<◌, ◌≤◌, Bool, false, List, length, Some, slice_get}
use Rattle.gup_script.specs.Script.{ScriptValue}
use Rattle.gup_spec_turns.specs.Run.{turned, run_start}
use Rattle.gup_spec_orders.specs.Orders.{IsOver, IsOutcome, AreOfOrders}
use Rattle.gup_search.specs.Graph.{Covers, IsGraph, Leads}
use Rattle.gup_search.specs.Ends.{IsEnds}
use Rattle.gup_search.specs.States.{State}
use Rattle.gup_spec_orders.specs.declared.told.Named.{Named}
use Rattle.gup_search.specs.declared.graph.Graph.{Graph}
use Rattle.gup_spec_orders.specs.declared.told.Outcome.{Outcome}
use Rattle.gup_search.specs.declared.ends.Ends.{Ends}

-- one of the outcomes is that of the order
abbrev pub HasOutcome : ScriptValue → List Named → (order : List ℕ) → List Outcome → Type 0
HasOutcome script named order outcomes =
    (k : ℕ) × (outcome : Outcome) × (slice_get outcomes k ≡ Some outcome) × IsOutcome script named order outcome

-- where nobody can go behind an order that the state covers, its outcome is there
abbrev pub EndsIn : ScriptValue → List Named → List Outcome → State → Type 0
EndsIn script named outcomes state =
    (order : List ℕ) → IsOver script (turned script (run_start script) order)
    → Covers script named order state.facts state.tells → HasOutcome script named order outcomes

-- all that follows from the state is there
pub record IsClosed (script : ScriptValue) (named : List Named) (g : Graph) (outcomes : List Outcome) (state : State) : Type 0 where
  pub leads : Leads script named g state
  pub ends : EndsIn script named outcomes state

-- no outcome is gone
abbrev pub Keeps : (old new : List Outcome) → Type 0
Keeps old new = (k : ℕ) (outcome : Outcome) → slice_get old k ≡ Some outcome → slice_get new k ≡ Some outcome

-- the outcomes of a search
pub record AreFound (script : ScriptValue) (behind : Bool) (named : List Named) (ends : Ends) : Type 0 where
  pub known : IsEnds ends
  pub happen : AreOfOrders script behind named ends.outcomes.items

-- A search that has gone over the states up to this one: unless it is open, all that follows from them is there.
pub record IsSearch (script : ScriptValue) (behind : Bool) (named : List Named) (limit : ℕ) (g : Graph) (e : Ends) (i : ℕ) : Type 0 where
  pub graph : IsGraph script behind named limit g
  pub found : AreFound script behind named e
  pub over : i ≤ length g.states
  pub closed : g.left_out ≡ false → (k : ℕ) (state : State) → k < i → slice_get g.states k ≡ Some state → IsClosed script named g e.outcomes.items state
