use Rattle.std.proofs.Common.{ap}
use Rattle.gup_exec_jobs.specs.declared.walk.WalkStep.{WalkStep as Walk}
use Rattle.gup_exec_jobs.specs.Job.{walk_of}
use Rattle.gup_exec_jobs.proofs.WalkLemmas.{same_walk}
use Rattle.gup_exec_jobs.proofs.walk.is_same_step.Goals as goal

pub returns : goal.returns
returns c = (
  λ same. ap (λ (w : Walk). walk_of w) (c.are_same.ensures.0 same),
  λ same. c.are_same.ensures.1 (same_walk c.args.step.now c.args.other.now same),
)
