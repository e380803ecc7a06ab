-- The tables that a walk comes down, as the program keeps them.
use Rattle.std.specs.Prelude.{ℕ, List, [], ◌∷◌}
use Rattle.gup_exec_jobs.specs.declared.trail.Trail.{Trail}
use Rattle.gup_exec_jobs.specs.declared.trail.Trail.TheVariants as trails

-- the list of them, the last one first
abbrev pub trail_of : Trail → List ℕ
trail_of trails.Root = []
trail_of (trails.Third third) = third ∷ []
trail_of (trails.Second second third) = second ∷ third ∷ []
trail_of (trails.Last last second third) = last ∷ second ∷ third ∷ []
