use Rattle.std.proofs.Common.{◌≡◌, ◌<◌, ◌-◌}
use Rattle.gup_spec_turns.specs.Run.{RunState}
use Rattle.gup_sched.specs.Awake.{is_awake, AreAsleep}
use Rattle.gup_sched.proofs.Underway.{IsWritten, IsPointed, most}
use Rattle.gup_sched.proofs.run.run_machine.Given as goal

-- so many written turns are over
abbrev pub invariant-loop-k : goal.invariant-loop-k
invariant-loop-k l = (r : RunState) × IsWritten l.fn.machine.script l.machine l.journal.notes l.k r

-- the written turns are over, the pointer is at an actor, if there is one, and whoever is asleep can't go
abbrev pub invariant-loop-journal : goal.invariant-loop-journal
invariant-loop-journal l =
    (0 < l.actors → l.pointer < l.actors) × (l.awake.actors ≡ l.actors)
    × ((r : RunState) × IsPointed l.fn.machine.script l.machine l.journal.notes l.pointer r × AreAsleep l.fn.machine.script r l.actors (is_awake l.awake))

-- the turns that are left at most
abbrev pub decreases-loop-journal : goal.decreases-loop-journal
decreases-loop-journal l = most l.fn.machine.script - l.machine.turns
