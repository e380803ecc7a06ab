use Rattle.std.proofs.Common.{◌≡◌}
use Rattle.gup_plain.specs.Put.{spread}
use Rattle.gup_check_pages.specs.Mapped.{number_in}
use Rattle.gup_check_pages.proofs.numbers.give.Given as goal

-- the pages so far have the number
abbrev pub invariant-loop-k : goal.invariant-loop-k
invariant-loop-k l = number_in l.space ≡ spread l.first l.k (λ _. l.at) (number_in l.initial.space)
