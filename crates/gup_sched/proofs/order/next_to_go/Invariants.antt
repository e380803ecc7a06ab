use Rattle.std.proofs.Common.{◌≡◌}
use Rattle.gup_spec_turns.specs.Run.{RunState}
use Rattle.gup_core.specs.Machine.{Shows}
use Rattle.gup_core.specs.Going.{Stays}
use Rattle.gup_sched.specs.Awake.{is_awake, AreAsleep}
use Rattle.gup_sched.proofs.Asking.{count_awake}
use Rattle.gup_sched.proofs.order.next_to_go.Given as goal

-- nothing has changed yet, and whoever is asleep can't go
abbrev pub invariant-loop-actor : goal.invariant-loop-actor
invariant-loop-actor l =
    (l.awake.actors ≡ l.initial.awake.actors)
    × ((r : RunState) → Shows l.initial.machine r → AreAsleep l.initial.machine.script r l.initial.awake.actors (is_awake l.initial.awake) → AreAsleep l.initial.machine.script r l.initial.awake.actors (is_awake l.awake))
    × Stays l.initial.machine l.machine l.initial.journal l.journal

-- those that are awake
abbrev pub decreases-loop-actor : goal.decreases-loop-actor
decreases-loop-actor l = count_awake l.awake.actors (is_awake l.awake)
