use Rattle.std.proofs.Common.{◌≡◌, take}
use Rattle.gup_read_notes.proofs.names.handles_of.Given as goal

abbrev pub invariant-loop-h : goal.invariant-loop-h
invariant-loop-h l = l.table ≡ take l.h l.script.handles
