use Rattle.std.proofs.Common.{◌≡◌, ◌+◌, ◌≤◌, ◌++◌, vec_len, vec_capacity}
use Rattle.gup_maps.specs.Table.{run}
use Rattle.gup_maps.proofs.rows.insert_run.Given as goal

abbrev pub invariant-loop-k : goal.invariant-loop-k
invariant-loop-k g l = record {
  rows : l.rows.items ≡ l.initial.rows.items ++ run l.page l.k l.value;
  len : vec_len l.rows ≡ vec_len l.initial.rows + l.k;
  room : vec_capacity l.initial.rows ≤ vec_capacity l.rows;
}
