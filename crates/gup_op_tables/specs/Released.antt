-- What is true while the tables of a failed child go page by page.
use Rattle.std.specs.Prelude.{◌≡◌, ℕ, ◌<◌, ◌≤◌, ◌-◌, List, length, slice_get, Option, Some, None}
use Rattle.gup_base.specs.declared.entry.Rights.{Rights}
use Rattle.gup_plain.specs.Event.{page_numbers}
use Rattle.gup_tables.specs.Pool.{PoolValue}
use Rattle.gup_space.specs.Space.{SpaceParts, space_of, OwnsTables}
use Rattle.gup_space.specs.Shows.{ShowsPool}
use Rattle.gup_spec_events.specs.State.{CoreState}
use Rattle.gup_spec_events.specs.Event.{run}
use Rattle.gup_spec_turns.specs.TableTurns.{retires_mapped}
use Rattle.gup_op_tables.specs.Alike.{IsAlike, EachPair, ShowsEach}

-- no page that there is, from this one on, is mapped
abbrev pub HasNone : (right : ℕ → Option Rights) → (from : ℕ) → Type 0
HasNone right from = (g : ℕ) → from ≤ g → g < page_numbers → right g ≡ None

-- the process of this number has tables of the pool
abbrev pub OwnsAt : List SpaceParts → (p : ℕ) → PoolValue → Type 0
OwnsAt spaces p pool = (space : SpaceParts) → slice_get spaces p ≡ Some space → OwnsTables (space_of space) pool

-- the rights of the pages of a process
abbrev pub rights_of : Option SpaceParts → ℕ → Option Rights
rights_of None = λ page. None
rights_of (Some space) = (space_of space).right

abbrev pub right_at : List SpaceParts → (p : ℕ) → ℕ → Option Rights
right_at spaces p = rights_of (slice_get spaces p)

-- A state to which the pages below this one lead, and from which the others lead to where all lead to.
abbrev pub IsBehind : (right : ℕ → Option Rights) → PoolValue → List SpaceParts → (from : ℕ) → (s t : CoreState) → (a c : ℕ) → Type 0
IsBehind right pool spaces from s t a c =
    ShowsPool pool t × ShowsEach spaces t
    × (run s (retires_mapped s a c right 0 page_numbers) ≡ run t (retires_mapped t a c right from (page_numbers - from)))

-- the tables of the child have gone, of the pages below this one
pub record IsReleased (c : ℕ) (right : ℕ → Option Rights) (old_pool pool : PoolValue) (old spaces : List SpaceParts) (from : ℕ) : Type 0 where
  pub few : from ≤ page_numbers
  pub many : length spaces ≡ length old
  pub own : OwnsAt spaces c pool
  pub tables : pool.tables ≡ old_pool.tables
  pub alike : EachPair IsAlike old spaces
  pub leads : (s : CoreState) (a : ℕ) → ShowsPool old_pool s → ShowsEach old s → (t : CoreState) × IsBehind right pool spaces from s t a c
