-- Which page a turn is of, by where its actor stands.
use Rattle.std.specs.Prelude.{ℕ, ◌==◌, Bool, false, Option, Some, None}
use Rattle.gup_space.specs.Space.{SpaceParts, space_of, lacking}
use Rattle.gup_space.specs.Shows.{ShowsSpace}
use Rattle.gup_spec_events.specs.State.{CoreState}
use Rattle.gup_spec_turns.specs.JobPlace.{JobPlace, unbegun, at_page}
use Rattle.gup_law_mirrors.specs.Invalidated.{page_if}

-- the page, in a turn that is in the middle of nothing
abbrev pub at_beginning : JobPlace → (page : Option ℕ) → Option ℕ
at_beginning unbegun page = page
at_beginning place page = None

-- does the page lack no table of this process, if there is one?
abbrev pub lacks_none : Option SpaceParts → (page : ℕ) → Bool
lacks_none None page = false
lacks_none (Some space) page = lacking (space_of space) page == 0

-- the page that a fork has counted, unless its child, which is kept so, lacks a table for it
abbrev pub shared_at : (child : Option SpaceParts) → JobPlace → Option ℕ
shared_at child (at_page page) = page_if (lacks_none child page) page
shared_at child place = None

-- the state has the child that an operation brings, if it brings one, as this process
abbrev pub ShowsChild : (child : Option ℕ) → Option SpaceParts → CoreState → Type 0
ShowsChild None space s = Unit {0}
ShowsChild (Some child) None s = ⊥
ShowsChild (Some child) (Some space) s = ShowsSpace child (space_of space) s
