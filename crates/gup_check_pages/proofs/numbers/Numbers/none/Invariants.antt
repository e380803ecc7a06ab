use Rattle.std.proofs.Common.{◌≡◌, vec_len}
use Rattle.gup_exec_parts.specs.Tables.{at_place}
use Rattle.gup_check_pages.specs.Mapped.{number_in}
use Rattle.gup_check_pages.proofs.numbers.Numbers.none.Given as goal

-- so many processes so far, without numbers
abbrev pub invariant-loop-p : goal.invariant-loop-p
invariant-loop-p l = record { len : vec_len l.spaces ≡ l._p; none : at_place number_in (λ _. 0) l.spaces.items ≡ (λ _ _. 0) }
