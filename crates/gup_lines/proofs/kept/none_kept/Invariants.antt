use Rattle.std.proofs.Common.{◌≡◌, [], replicate}
use Rattle.gup_lines.proofs.kept.none_kept.Given as goal

-- so many actors have none
abbrev pub invariant-loop : goal.invariant-loop
invariant-loop l = l.kept.items ≡ replicate l.counter []
