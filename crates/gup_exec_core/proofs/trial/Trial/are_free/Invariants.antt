use Rattle.std.proofs.Common.{◌≡◌, ℕ, ◌+◌, ◌<◌, None}
use Rattle.gup_exec_rows.specs.Grid.{found}
use Rattle.gup_exec_core.proofs.trial.Trial.are_free.Given as goal

-- none of the pages so far has rights
abbrev pub invariant-loop-k : goal.invariant-loop-k
invariant-loop-k l = (j : ℕ) → j < l.k → found l.self.right l.p (l.page + j) ≡ None
