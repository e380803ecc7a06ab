-- Processes of which only page tables have changed.
use Rattle.std.specs.Prelude.{◌≡◌, ℕ, List, Some, slice_get}
use Rattle.gup_space.specs.Space.{SpaceValue, SpaceParts, space_of, lacking}
use Rattle.gup_space.specs.Shows.{ShowsSpace}
use Rattle.gup_spec_events.specs.State.{CoreState}

-- the process is as it was, but for its tables
abbrev pub IsAlike : (was now : SpaceValue) → Type 0
IsAlike was now = now ≡ record was { place = now.place; retired = now.retired }

-- and a page that lacked none lacks none
pub record IsGrown (was now : SpaceValue) : Type 0 where
  pub alike : IsAlike was now
  pub full : (page : ℕ) → lacking was page ≡ 0 → lacking now page ≡ 0

-- this holds of each process before and after
abbrev pub EachPair : (SpaceValue → SpaceValue → Type 0) → (old new : List SpaceParts) → Type 0
EachPair P old new = (p : ℕ) (was now : SpaceParts) → slice_get old p ≡ Some was → slice_get new p ≡ Some now → P (space_of was) (space_of now)

-- the state has these processes
abbrev pub ShowsEach : List SpaceParts → CoreState → Type 0
ShowsEach spaces s = (p : ℕ) (space : SpaceParts) → slice_get spaces p ≡ Some space → ShowsSpace p (space_of space) s
