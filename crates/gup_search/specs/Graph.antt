-- The states that orders lead to.
use Rattle.std.specs.Prelude.{◌≡◌, ℕ, ◌<◌, ◌≤◌, ◌++◌, ◌⊎◌, Bool, true, false, List, [], ◌∷◌, length, Option, None, Some, slice_get, reverse}
use Rattle.gup_image.specs.declared.fact.Fact.{Fact}
use Rattle.gup_script.specs.Script.{ScriptValue}
use Rattle.gup_spec_turns.specs.Run.{RunState, turned, run_start, can_go}
use Rattle.gup_core.specs.Machine.{MachineValue, Shows}
use Rattle.gup_core.specs.Images.{IsImage}
use Rattle.gup_spec_orders.specs.Orders.{Goes, beginning, setup}
use Rattle.gup_search.specs.Search.{Stands}
use Rattle.gup_search.specs.Pools.{AreDifferent}
use Rattle.gup_search.specs.States.{State, Has}
use Rattle.gup_spec_orders.specs.declared.told.Named.{Named}
use Rattle.gup_spec_orders.specs.declared.told.Tell.{Tell}
use Rattle.gup_search.specs.declared.graph.Graph.{Graph}
use Rattle.gup_search.specs.declared.graph.Step.{Step}

-- These actors, from last to first, took the turns that led to the state with this number first.
abbrev pub IsBack : List (Option Step) → (i : ℕ) → (back : List ℕ) → Type 0
IsBack steps i [] = slice_get steps i ≡ Some None
IsBack steps i (a ∷ back) =
    (step : Step) × (slice_get steps i ≡ Some (Some step)) × (step.actor ≡ a) × (step.parent < i) × IsBack steps step.parent back

-- the same states and steps
pub record AreSame (old new : Graph) : Type 0 where
  pub states : new.states ≡ old.states
  pub steps : new.steps.items ≡ old.steps.items

-- What becomes of a state that is added: it is there already, or it goes last, or it is left out.
pub record IsThere (old new : Graph) (state : State) : Type 0 where
  pub same : AreSame old new
  pub left : new.left_out ≡ old.left_out
  pub found : Has old.states state

pub record IsPushed (limit : ℕ) (old new : Graph) (state : State) (step : Option Step) : Type 0 where
  pub states : new.states ≡ old.states ++ state ∷ []
  pub steps : new.steps.items ≡ old.steps.items ++ step ∷ []
  pub left : new.left_out ≡ old.left_out
  pub fits : length old.states < limit
  pub fresh : Has old.states state → ⊥

pub record IsLeftOut (limit : ℕ) (old new : Graph) (state : State) : Type 0 where
  pub same : AreSame old new
  pub left : new.left_out ≡ true
  pub full : limit ≤ length old.states
  pub fresh : Has old.states state → ⊥

abbrev pub Adds : (limit : ℕ) → (old new : Graph) → State → Option Step → Type 0
Adds limit old new state step =
    IsThere old new state ⊎ (IsPushed limit old new state step ⊎ IsLeftOut limit old new state)

-- Some machine behind this order has these facts as its image, and the tells are the order's.
pub record Covers (script : ScriptValue) (named : List Named) (order : List ℕ) (facts : List Fact) (tells : List Tell) : Type 0 where
  pub machine : MachineValue
  pub image : IsImage machine facts
  pub stands : Stands script named order machine tells

-- one of the states covers the order
abbrev pub IsCovered : ScriptValue → List Named → (order : List ℕ) → List State → Type 0
IsCovered script named order states =
    (j : ℕ) × (state : State) × (slice_get states j ≡ Some state) × Covers script named order state.facts state.tells

-- The path can be gone, and leads to the state.
pub record IsLed (script : ScriptValue) (behind : Bool) (named : List Named) (path : List ℕ) (facts : List Fact) (tells : List Tell) : Type 0 where
  pub goes : Goes script (beginning script behind) path
  pub covers : Covers script named (setup script behind ++ path) facts tells

abbrev pub IsReached : ScriptValue → (behind : Bool) → List Named → List (Option Step) → (i : ℕ) → State → Type 0
IsReached script behind named steps i state =
    (back : List ℕ) × IsBack steps i back × IsLed script behind named (reverse back) state.facts state.tells

-- some path leads to the state
abbrev pub CanBeReached : ScriptValue → (behind : Bool) → List Named → State → Type 0
CanBeReached script behind named state = (path : List ℕ) × IsLed script behind named path state.facts state.tells

-- Different states, at most so many, and to each of them the turns lead that are kept. One was left out only where there are so many,
-- and it isn't among them.
pub record AreReached (script : ScriptValue) (behind : Bool) (named : List Named) (limit : ℕ) (g : Graph) : Type 0 where
  pub steps : length g.steps.items ≡ length g.states
  pub different : AreDifferent g.states
  pub few : length g.states ≤ limit
  pub full : g.left_out ≡ true → length g.states ≡ limit
  pub more : g.left_out ≡ true → (state : State) × (Has g.states state → ⊥) × CanBeReached script behind named state
  pub reached : (i : ℕ) (state : State) → slice_get g.states i ≡ Some state → IsReached script behind named g.steps.items i state

-- and one of them covers the beginning, if none was left out
pub record IsGraph (script : ScriptValue) (behind : Bool) (named : List Named) (limit : ℕ) (g : Graph) : Type 0 where
  pub states : AreReached script behind named limit g
  pub begun : g.left_out ≡ false → IsCovered script named (setup script behind) g.states

-- no state is gone, and what was open is
pub record Grows (old new : Graph) : Type 0 where
  pub states : (j : ℕ) (state : State) → slice_get old.states j ≡ Some state → slice_get new.states j ≡ Some state
  pub left : new.left_out ≡ false → old.left_out ≡ false

-- The actor's turn behind each order that the state covers leads to a state of the graph.
abbrev pub LeadsBy : ScriptValue → List Named → Graph → State → (actor : ℕ) → Type 0
LeadsBy script named g state actor =
    (order : List ℕ) → Covers script named order state.facts state.tells → IsCovered script named (order ++ actor ∷ []) g.states

-- so does the turn of each actor that can go
abbrev pub Leads : ScriptValue → List Named → Graph → State → Type 0
Leads script named g state =
    (actor : ℕ) (order : List ℕ) → actor < length script.actors → can_go script (turned script (run_start script) order) actor ≡ true
    → Covers script named order state.facts state.tells → IsCovered script named (order ++ actor ∷ []) g.states

-- the machine has the image of the state with this number
pub record IsAt (script : ScriptValue) (states : List State) (i : ℕ) (m : MachineValue) : Type 0 where
  pub same : m.script ≡ script
  pub image : (state : State) → slice_get states i ≡ Some state → IsImage m state.facts

-- in each state that a machine with the image of the state with this number shows the actor can go
pub record CanGoAt (script : ScriptValue) (states : List State) (i a : ℕ) : Type 0 where
  pub below : a < length script.actors
  pub can : (m : MachineValue) (r : RunState) → IsAt script states i m → Shows m r → can_go script r a ≡ true

-- The graph has grown by the turns of these actors from the state with this number, of a graph as it was.
pub record IsSteppedBy (script : ScriptValue) (behind : Bool) (named : List Named) (limit i : ℕ) (old new : Graph) (actors : List ℕ) : Type 0 where
  pub graph : IsGraph script behind named limit new
  pub grows : Grows old new
  pub leads : new.left_out ≡ false → (k a : ℕ) (state : State) → slice_get actors k ≡ Some a → slice_get old.states i ≡ Some state → LeadsBy script named new state a
