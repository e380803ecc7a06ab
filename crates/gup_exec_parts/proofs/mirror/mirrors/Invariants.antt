use Rattle.std.proofs.Common.{◌≡◌, Option, None, vec_len}
use Rattle.gup_plain.specs.State.{Noted}
use Rattle.gup_exec_parts.specs.Tables.{at_place}
use Rattle.gup_exec_parts.proofs.mirror.mirrors.Given as goal

-- so many empty slots so far
abbrev pub invariant-loop-m : goal.invariant-loop-m
invariant-loop-m l = record { len : vec_len l.mirrors ≡ l._m; empty : at_place (λ (n : Option Noted). n) None l.mirrors.items ≡ (λ _. None) }
