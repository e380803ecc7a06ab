-- The outcomes that are known.
use Rattle.std.specs.Prelude.{◌≡◌, ℕ, ◌++◌, ◌⊎◌, List, [], ◌∷◌, Option, Some, slice_get}
use Rattle.gup_plain.specs.declared.note.Waiting.{Waiting}
use Rattle.gup_spec_orders.specs.declared.told.Tell.{Tell}
use Rattle.gup_spec_orders.specs.declared.told.Outcome.{Outcome}
use Rattle.gup_search.specs.declared.ends.Ends.{Ends}
use Rattle.gup_search.specs.declared.ends.End.{End}

-- an outcome tells this, and waits for this
abbrev pub HasEnd : List Outcome → List Tell → List (Option Waiting) → Type 0
HasEnd outcomes tells waits =
    (j : ℕ) × (outcome : Outcome) × (slice_get outcomes j ≡ Some outcome) × (outcome.tells.items ≡ tells) × (outcome.waits.items ≡ waits)

-- what is known is among the outcomes
abbrev pub IsEnds : Ends → Type 0
IsEnds ends =
    (k : ℕ) (end : End) → slice_get ends.known.keys k ≡ Some end → HasEnd ends.outcomes.items end.tells.items end.waits.items

-- the outcomes stay, or this one goes last; one tells and waits for the same as it
pub record AddsOutcome (old new : List Outcome) (outcome : Outcome) : Type 0 where
  pub items : (new ≡ old) ⊎ (new ≡ old ++ outcome ∷ [])
  pub found : HasEnd new outcome.tells.items outcome.waits.items
