-- What an actor is in the middle of, as the program keeps it.
use Rattle.gup_spec_events.specs.State.{Job, idle, marking, moving, forking, walking, Counted, unread, one, more, ForkStep, between, counted, lowered, cleared, copying, failing, WalkStep, entered, ready, reading, read, grabbed, rechecked, differed, refused, stopped, dropping, over}
use Rattle.gup_exec_jobs.specs.declared.job.Counted.{Counted as Count}
use Rattle.gup_exec_jobs.specs.declared.job.Counted.TheVariants as counts
use Rattle.gup_exec_jobs.specs.declared.job.ForkStep.{ForkStep as Step}
use Rattle.gup_exec_jobs.specs.declared.job.ForkStep.TheVariants as steps
use Rattle.gup_exec_jobs.specs.declared.job.Stage.{Stage}
use Rattle.gup_exec_jobs.specs.declared.job.Stage.TheVariants as stages
use Rattle.gup_exec_jobs.specs.declared.walk.WalkStep.{WalkStep as Walk}
use Rattle.gup_exec_jobs.specs.declared.walk.WalkStep.TheVariants as walks
use Rattle.gup_exec_jobs.specs.Trail.{trail_of}

abbrev pub count_of : Count → Counted
count_of counts.Unread = unread
count_of counts.One = one
count_of (counts.More count) = more count

abbrev pub step_of : Step → ForkStep
step_of steps.Between = between
step_of (steps.Sharing page) = counted page
step_of (steps.Lowered page) = lowered page
step_of (steps.Cleared page) = cleared page
step_of (steps.Copying page n) = copying page n
step_of steps.Failing = failing

abbrev pub walk_of : Walk → WalkStep
walk_of walks.Entered = entered
walk_of walks.Ready = ready
walk_of (walks.Reading page path) = reading page (trail_of path)
walk_of (walks.Read page path e) = read page (trail_of path) e
walk_of (walks.Grabbed page path e) = grabbed page (trail_of path) e
walk_of (walks.Rechecked page e) = rechecked page e
walk_of (walks.Differed f) = differed f
walk_of walks.Refused = refused
walk_of walks.Stopped = stopped
walk_of walks.Dropping = dropping
walk_of walks.Over = over

abbrev pub job_of : Stage → Job
job_of stages.Idle = idle
job_of (stages.Marking p page f) = marking p page f
job_of (stages.Moving p page e allowed count) = moving p page e allowed (count_of count)
job_of (stages.Forking p c done step) = forking p c done.items (step_of step)
job_of (stages.Walking p write long sequence step) = walking p write long sequence (walk_of step)
