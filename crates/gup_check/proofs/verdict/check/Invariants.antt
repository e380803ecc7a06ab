use Rattle.std.proofs.Common.{◌≡◌, take}
use Rattle.gup_check.specs.Takes.{Takes}
use Rattle.gup_check.proofs.verdict.check.Given as goal

-- the notes so far are taken, and counted
abbrev pub invariant-loop-before : goal.invariant-loop-before
invariant-loop-before l = (l.kept.count ≡ l.before) × Takes l.script l.kept (take l.before l.note-items)
