use Rattle.std.proofs.Common.{◌≡◌, ◌++◌, ◌≤◌, ◌-◌}
use Rattle.gup_plain.specs.Event.{page_numbers}
use Rattle.gup_space.specs.Space.{space_of}
use Rattle.gup_image.specs.Gathered.{gathered}
use Rattle.gup_image.specs.Image.{pages}
use Rattle.gup_image.proofs.processes.push_pages.Given as goal

-- the facts of the pages below this one
abbrev pub invariant-loop-page : goal.invariant-loop-page
invariant-loop-page l =
    (l.facts.items ≡ l.initial.facts.items ++ gathered (pages l.proc (space_of l.space)) l.from) × (l.from ≤ page_numbers)

abbrev pub decreases-loop-page : goal.decreases-loop-page
decreases-loop-page l = page_numbers - l.from
