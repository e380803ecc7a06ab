-- Two walks that are in the same place are so in the program too.
use Rattle.std.proofs.Common.{◌≡◌, ℕ, List, [], ◌∷◌, refl, ap, sym, ◌∙◌}
use Rattle.gup_spec_events.specs.State.{WalkStep, entered, ready, reading, read, grabbed, rechecked, differed, refused, stopped, dropping, over}
use Rattle.gup_exec_jobs.specs.declared.trail.Trail.{Trail}
use Rattle.gup_exec_jobs.specs.declared.trail.Trail.TheVariants as trails
use Rattle.gup_exec_jobs.specs.declared.walk.WalkStep.{WalkStep as Walk}
use Rattle.gup_exec_jobs.specs.declared.walk.WalkStep.TheVariants as walks
use Rattle.gup_exec_jobs.specs.Job.{walk_of}
use Rattle.gup_exec_jobs.specs.Trail.{trail_of}

-- the trail of these tables, and the step of the program that stands for this one
abbrev trail_by : List ℕ → Trail
trail_by [] = trails.Root
trail_by (last ∷ []) = trails.Third last
trail_by (last ∷ second ∷ []) = trails.Second last second
trail_by (last ∷ second ∷ third ∷ path) = trails.Last last second third

abbrev walk_by : WalkStep → Walk
walk_by entered = walks.Entered
walk_by ready = walks.Ready
walk_by (reading page path) = walks.Reading page (trail_by path)
walk_by (read page path e) = walks.Read page (trail_by path) e
walk_by (grabbed page path e) = walks.Grabbed page (trail_by path) e
walk_by (rechecked page e) = walks.Rechecked page e
walk_by (differed f) = walks.Differed f
walk_by refused = walks.Refused
walk_by stopped = walks.Stopped
walk_by dropping = walks.Dropping
walk_by over = walks.Over

trail_again : (path : Trail) → trail_by (trail_of path) ≡ path
trail_again trails.Root = refl
trail_again (trails.Third third) = refl
trail_again (trails.Second second third) = refl
trail_again (trails.Last last second third) = refl

walk_again : (step : Walk) → walk_by (walk_of step) ≡ step
walk_again walks.Entered = refl
walk_again walks.Ready = refl
walk_again (walks.Reading page path) = ap (λ (way : Trail). walks.Reading page way) (trail_again path)
walk_again (walks.Read page path e) = ap (λ (way : Trail). walks.Read page way e) (trail_again path)
walk_again (walks.Grabbed page path e) = ap (λ (way : Trail). walks.Grabbed page way e) (trail_again path)
walk_again (walks.Rechecked page e) = refl
walk_again (walks.Differed f) = refl
walk_again walks.Refused = refl
walk_again walks.Stopped = refl
walk_again walks.Dropping = refl
walk_again walks.Over = refl

pub same_walk : (step other : Walk) → walk_of step ≡ walk_of other → step ≡ other
same_walk step other same = sym (walk_again step) ∙ ap (λ (w : WalkStep). walk_by w) same ∙ walk_again other
