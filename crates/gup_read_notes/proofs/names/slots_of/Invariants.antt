use Rattle.std.proofs.Common.{◌≡◌, take}
use Rattle.gup_read_notes.proofs.names.slots_of.Given as goal

abbrev pub invariant-loop-m : goal.invariant-loop-m
invariant-loop-m l = l.table ≡ take l.m l.script.mirrors
