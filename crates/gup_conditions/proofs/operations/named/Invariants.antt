use Rattle.std.proofs.Common.{◌≡◌, ◌++◌, drop}
use Rattle.gup_conditions.specs.Named.{wanted_of, actors_named, named_of}
use Rattle.gup_conditions.proofs.operations.named.Given as goal

-- those of the actors so far, and of the actors that are left
abbrev pub invariant-loop-k : goal.invariant-loop-k
invariant-loop-k l = l.named.items ++ wanted_of l.conditions (actors_named l.k (drop l.k l.script.actors)) ≡ named_of l.script l.conditions
