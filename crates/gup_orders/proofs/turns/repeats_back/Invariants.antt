use Rattle.std.proofs.Common.{◌≡◌, ◌≤◌, ◌-◌, length, drop, reverse}
use Rattle.std.specs.List.{All}
use Rattle.gup_orders.specs.Turns.{repeats}
use Rattle.gup_orders.specs.declared.turns.Repeat.{Repeat}
use Rattle.gup_orders.proofs.turns.repeats_back.Given as goal

-- the last k turns are there, none more than k times
abbrev pub invariant-loop-k : goal.invariant-loop-k
invariant-loop-k l =
    (l.back.items ≡ reverse (repeats (drop (length l.order - l.k) l.order))) × All (λ (r : Repeat). r.times ≤ l.k) l.back.items
