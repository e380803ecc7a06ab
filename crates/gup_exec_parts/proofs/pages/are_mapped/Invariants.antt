use Rattle.std.proofs.Common.{ℕ, ◌+◌, ◌<◌, IsSome}
use Rattle.std.specs.BTreeMap.{get}
use Rattle.std.specs.Ordering.{nat_cmp}
use Rattle.gup_exec_parts.proofs.pages.are_mapped.Given as goal

-- each of the pages so far is mapped
abbrev pub invariant-loop-k : goal.invariant-loop-k
invariant-loop-k l = (j : ℕ) → j < l.k → IsSome (get nat_cmp l.pages (l.first + j))
