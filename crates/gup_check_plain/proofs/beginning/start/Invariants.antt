use Rattle.std.proofs.Common.{◌≡◌, length}
use Rattle.gup_plain.specs.State.{plain_start}
use Rattle.gup_exec_plain.specs.Parts.{state_of, processes_of, actors_of}
use Rattle.gup_check_plain.specs.Begun.{born_below}
use Rattle.gup_check_plain.proofs.beginning.start.Given as goal

-- the processes so far have begun
abbrev pub invariant-loop-p : goal.invariant-loop-p
invariant-loop-p l =
    record {
      state : state_of l.plain ≡ plain_start (born_below l.script l.p);
      processes : processes_of l.plain ≡ length l.script.processes;
      actors : actors_of l.plain ≡ length l.script.actors;
    }
