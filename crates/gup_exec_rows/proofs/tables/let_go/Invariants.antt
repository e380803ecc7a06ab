use Rattle.std.proofs.Common.{◌≡◌, ◌||◌, take}
use Rattle.gup_spec_tables.specs.Tables.{is_among}
use Rattle.gup_exec_rows.specs.Row.{at}
use Rattle.gup_exec_rows.proofs.tables.let_go.Given as goal

-- the tables so far are free
abbrev pub invariant-loop-k : goal.invariant-loop-k
invariant-loop-k l = at l.free ≡ (λ table. at l.initial.free table || is_among (take l.k l.tables) table)
