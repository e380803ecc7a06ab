use Rattle.std.proofs.Common.{◌≡◌, ◌+◌, ◌-◌}
use Rattle.gup_plain.specs.Put.{spread}
use Rattle.gup_exec_rows.specs.Objects.{objects_in, numbers}
use Rattle.gup_exec_rows.proofs.objects.Objects.with_range.Given as goal

-- the pages so far have their objects
abbrev pub invariant-loop-k : goal.invariant-loop-k
invariant-loop-k l = numbers l.row ≡ spread l.first l.k (λ page. l.object + (page - l.first)) (objects_in l.self l.fn.p)
