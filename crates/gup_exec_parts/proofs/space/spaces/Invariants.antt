use Rattle.std.proofs.Common.{◌≡◌, vec_len}
use Rattle.gup_exec_parts.specs.Space.{seen, blank}
use Rattle.gup_exec_parts.specs.Tables.{at_place}
use Rattle.gup_exec_parts.proofs.space.spaces.Given as goal

-- so many blank processes so far
abbrev pub invariant-loop-p : goal.invariant-loop-p
invariant-loop-p l = record { len : vec_len l.spaces ≡ l._p; blank : at_place seen blank l.spaces.items ≡ (λ _. blank) }
