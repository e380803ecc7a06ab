use Rattle.std.proofs.Common.{◌≡◌, ◌++◌}
use Rattle.gup_tables.specs.Pool.{pool_of}
use Rattle.gup_image.specs.Gathered.{gathered}
use Rattle.gup_image.specs.Image.{used}
use Rattle.gup_image.proofs.tables.push_used.Given as goal

-- the facts of so many tables
abbrev pub invariant-loop-t : goal.invariant-loop-t
invariant-loop-t l = l.facts.items ≡ l.initial.facts.items ++ gathered (used (pool_of l.pool)) l.t
