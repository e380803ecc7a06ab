use Rattle.std.proofs.Common.{◌≡◌, None, vec_len}
use Rattle.gup_exec_rows.specs.Row.{standing}
use Rattle.gup_exec_rows.proofs.row.absent.Given as goal

-- so many places so far
abbrev pub invariant-loop-k : goal.invariant-loop-k
invariant-loop-k g l = record {
  len : vec_len l.items ≡ l._k;
  none : standing l.items.items ≡ (λ _. None);
}
