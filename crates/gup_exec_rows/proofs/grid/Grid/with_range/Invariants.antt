use Rattle.std.proofs.Common.{◌≡◌, Some}
use Rattle.std.specs.BTreeMap.{get}
use Rattle.std.specs.Ordering.{nat_cmp}
use Rattle.gup_plain.specs.Put.{spread}
use Rattle.gup_exec_rows.specs.Grid.{found}
use Rattle.gup_exec_rows.proofs.grid.Grid.with_range.Given as goal

-- the pages so far have the value
abbrev pub invariant-loop-k : goal.invariant-loop-k
invariant-loop-k g l = get nat_cmp l.row ≡ spread l.first l.k (λ _. Some l.value) (found l.self l.fn.p)
