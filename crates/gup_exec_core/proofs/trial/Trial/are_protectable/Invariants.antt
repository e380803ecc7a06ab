use Rattle.std.proofs.Common.{ℕ, ◌+◌, ◌<◌}
use Rattle.gup_exec_core.specs.Protected.{MayProtect}
use Rattle.gup_exec_core.specs.State.{state_of}
use Rattle.gup_exec_core.proofs.trial.Trial.are_protectable.Given as goal

-- the pages so far can
abbrev pub invariant-loop-k : goal.invariant-loop-k
invariant-loop-k l = (j : ℕ) → j < l.k → MayProtect (state_of l.self) l.p (l.page + j) l.rights
