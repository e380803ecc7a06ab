use Rattle.std.proofs.Common.{◌≡◌, ◌++◌}
use Rattle.gup_space.specs.Space.{space_of}
use Rattle.gup_image.specs.Gathered.{gathered}
use Rattle.gup_image.specs.Image.{places}
use Rattle.gup_image.proofs.tables.push_places.Given as goal

-- the facts of so many tables
abbrev pub invariant-loop-t : goal.invariant-loop-t
invariant-loop-t l = l.facts.items ≡ l.initial.facts.items ++ gathered (places l.proc (space_of l.space)) l.t
