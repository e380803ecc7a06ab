use Rattle.gup_law_bounds.proofs.PossibleRun.{one_run_within}
use Rattle.gup_law_bounds.proofs.possible_runs_are_within.Goals as goal

pub returns : goal.returns
returns c = one_run_within
