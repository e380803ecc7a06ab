use Rattle.std.proofs.Common.{ℕ, ap}
use Rattle.gup_exec_parts.specs.Space.{SpaceState}
use Rattle.gup_exec_rows.specs.Procs.{births, copies, space_at}
use Rattle.gup_exec_rows.proofs.procs.Procs.new.Goals as goal

pub returns-clause-births : goal.returns-clause-births
unfolding births space_at
returns-clause-births c = ap (λ (f : ℕ → SpaceState). λ p. (f p).birth) c.in_ok-spaces.ensures.blank

pub returns-clause-copies : goal.returns-clause-copies
unfolding copies space_at
returns-clause-copies c = ap (λ (f : ℕ → SpaceState). λ p. (f p).copied) c.in_ok-spaces.ensures.blank
