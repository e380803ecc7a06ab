use Rattle.std.proofs.Common.{◌≡◌, ◌++◌, ◌+◌, drop}
use Rattle.gup_conditions.specs.Named.{wanted_of, ops_named}
use Rattle.gup_conditions.proofs.operations.push_operations.Given as goal

-- those so far and those that are left
abbrev pub invariant-loop-k : goal.invariant-loop-k
invariant-loop-k l =
    l.named.items ++ wanted_of l.conditions (ops_named l.actor (l.k + 1) (drop l.k l.ops))
    ≡ l.fn.named.items ++ wanted_of l.conditions (ops_named l.actor 1 l.ops)
