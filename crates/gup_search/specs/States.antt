-- States, and how they are kept.
use Rattle.std.specs.Prelude.{◌≡◌, ℕ, ◌++◌, Bool, true, false, List, [], ◌∷◌, Some, slice_get, map}
use Rattle.gup_image.specs.declared.fact.Fact.{Fact}
use Rattle.gup_spec_orders.specs.declared.told.Tell.{Tell}
use Rattle.gup_search.specs.declared.states.Row.{Row}
use Rattle.gup_search.specs.Pools.{AreDifferent, AreWithin, standing}

-- A state: the image of a machine, and what the named operations have told on the way to it.
pub record State : Type 0 where
  pub facts : List Fact
  pub tells : List Tell

-- the state that a row keeps
abbrev pub state_of : (facts : List Fact) → (tells : List Tell) → Row → State
state_of facts tells row = record { facts = standing facts row.facts.items; tells = standing tells row.tells.items }

abbrev pub states_of : (facts : List Fact) → (tells : List Tell) → List Row → List State
states_of facts tells rows = map (state_of facts tells) rows

-- The pools have each fact and each tell once, and the rows have numbers in them.
pub record AreKept (facts : List Fact) (tells : List Tell) (rows : List Row) : Type 0 where
  pub facts_differ : AreDifferent facts
  pub tells_differ : AreDifferent tells
  pub within : (k : ℕ) (row : Row) → slice_get rows k ≡ Some row → AreWithin facts row.facts.items × AreWithin tells row.tells.items

-- the state is among them
abbrev pub Has : List State → State → Type 0
Has states state = (j : ℕ) × (slice_get states j ≡ Some state)

-- A state that is among them isn't put in again, and one that isn't goes last.
abbrev pub Inserts : (old new : List State) → State → (is_new : Bool) → Type 0
Inserts old new state false = (new ≡ old) × Has old state
Inserts old new state true = (new ≡ old ++ state ∷ []) × (Has old state → ⊥)
