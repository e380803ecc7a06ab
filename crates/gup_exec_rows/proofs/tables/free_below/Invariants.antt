use Rattle.std.proofs.Common.{◌≡◌, nat_lt}
use Rattle.gup_exec_rows.specs.Row.{at}
use Rattle.gup_exec_rows.proofs.tables.free_below.Given as goal

-- so many tables are free so far
abbrev pub invariant-loop-k : goal.invariant-loop-k
invariant-loop-k l = at l.free ≡ (λ table. nat_lt table l.k)
