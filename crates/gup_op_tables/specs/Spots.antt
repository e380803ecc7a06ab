-- Pages whose tables a turn changes.
use Rattle.std.specs.Prelude.{◌≡◌, ℕ, ◌+◌, ◌<◌, ◌^◌, ◌⊎◌, Bool, true, false, List, Option, Some, None}
use Rattle.gup_base.specs.declared.entry.Rights.{Rights}
use Rattle.gup_script.specs.declared.op.Op.{Op}
use Rattle.gup_script.specs.declared.op.Op.TheVariants.{Unmap, Pin, Exit}
use Rattle.gup_spec_tables.specs.declared.place.Place.{Place}
use Rattle.gup_page_tables.specs.PageTables.{IsBare}
use Rattle.gup_spec_turns.specs.JobPlace.{JobPlace, at_page, wants_frame, moving_page, in_walk}
use Rattle.gup_spec_turns.specs.PageTurns.{lowest_page}
use Rattle.gup_spec_turns.specs.TableTurns.{Spot, spot, if_mapped, lowest_spot}
use Rattle.gup_op_tables.specs.declared.pages.Spot.{Spot as KeptSpot}

-- the page that the code answers
abbrev pub spot_of : Option KeptSpot → Option Spot
spot_of None = None
spot_of (Some at) = spot at.proc at.page

-- does a pin that stands there take its next page in a slow turn? It is neither in the middle of a page nor in its walk.
abbrev pub is_slow : JobPlace → Bool
is_slow (moving_page page entry count) = false
is_slow (in_walk sequence step) = false
is_slow place = true

-- a pin that has taken so many pages, before a slow turn, has a page left
abbrev pub HasPage : Op → (got : ℕ) → JobPlace → Type 0
HasPage (Pin handle page n want fast) got place = is_slow place ≡ true → page + got < 2 ^ 35
HasPage op got place = Unit {0}

-- the page of its child that a fork is about to share, or takes a frame for
abbrev pub fork_at : (c : ℕ) → JobPlace → Option Spot
fork_at c (at_page page) = spot c page
fork_at c (wants_frame page) = spot c page
fork_at c place = None

-- the page whose tables a turn is to look after; or none, where the process has no table
abbrev pub IsDown : (place : ℕ → Option Place) → (retired : List ℕ) → (at want : Option Spot) → Type 0
IsDown place retired at want = (at ≡ want) ⊎ (IsBare place retired × (at ≡ None))

-- the page that an unmapping or an exit takes down, by the rights before
abbrev pub retired_spot : (right : ℕ → Option Rights) → (p far : ℕ) → Op → Option Spot
retired_spot right p far (Unmap page n) = if_mapped p (page + far) (right (page + far))
retired_spot right p far Exit = lowest_spot p (lowest_page right)
retired_spot right p far op = None
