use Rattle.std.proofs.Common.{◌≡◌, take}
use Rattle.gup_read_notes.specs.Names.{actor_names}
use Rattle.gup_read_notes.proofs.names.actors_of.Given as goal

abbrev pub invariant-loop-a : goal.invariant-loop-a
invariant-loop-a l = l.table ≡ take l.a (actor_names l.script)
