use Rattle.std.proofs.Common.{◌≡◌, take}
use Rattle.gup_read_notes.specs.Names.{process_names}
use Rattle.gup_read_notes.proofs.names.processes_of.Given as goal

abbrev pub invariant-loop-p : goal.invariant-loop-p
invariant-loop-p l = l.table ≡ take l.p (process_names l.script)
