use Rattle.std.proofs.Common.{◌≡◌, ◌++◌}
use Rattle.gup_spec_turns.specs.Run.{RunState}
use Rattle.gup_core.specs.Machine.{Shows}
use Rattle.gup_top.specs.Stuck.{stuck_lines}
use Rattle.gup_top.proofs.text.push_stuck_lines.Given as goal

-- the lines of the actors so far are written
abbrev pub invariant-loop-k : goal.invariant-loop-k
invariant-loop-k l = (r : RunState) → Shows l.machine r → l.text.items ≡ l.initial.text.items ++ stuck_lines l.script r l.k
