-- How many different states orders lead to.
use Rattle.std.specs.Prelude.{◌≡◌, ℕ, ◌++◌, Bool, List, Some, length, slice_get}
use Rattle.gup_script.specs.Script.{ScriptValue}
use Rattle.gup_spec_orders.specs.Orders.{Goes, beginning, setup}
use Rattle.gup_spec_orders.specs.declared.told.Named.{Named}
use Rattle.gup_search.specs.Pools.{AreDifferent}
use Rattle.gup_search.specs.States.{State}
use Rattle.gup_search.specs.Graph.{CanBeReached, IsCovered}

-- Different states, to each of which some path leads that can be gone from the beginning.
pub record AreReachable (script : ScriptValue) (behind : Bool) (named : List Named) (states : List State) : Type 0 where
  pub different : AreDifferent states
  pub reached : (k : ℕ) (state : State) → slice_get states k ≡ Some state → CanBeReached script behind named state

-- There are so many of them.
abbrev pub ReachesStates : ScriptValue → (behind : Bool) → List Named → (n : ℕ) → Type 0
ReachesStates script behind named n = (states : List State) × (length states ≡ n) × AreReachable script behind named states

-- Each path that can be gone leads to one of the states.
abbrev pub AreAll : ScriptValue → (behind : Bool) → List Named → List State → Type 0
AreAll script behind named states =
    (path : List ℕ) → Goes script (beginning script behind) path → IsCovered script named (setup script behind ++ path) states

-- There are so many of them, and no others.
abbrev pub ReachesAllStates : ScriptValue → (behind : Bool) → List Named → (n : ℕ) → Type 0
ReachesAllStates script behind named n =
    (states : List State) × (length states ≡ n) × AreReachable script behind named states × AreAll script behind named states
