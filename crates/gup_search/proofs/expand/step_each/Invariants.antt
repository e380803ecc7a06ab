use Rattle.std.proofs.Common.{take}
use Rattle.gup_search.specs.Graph.{IsSteppedBy}
use Rattle.gup_search.proofs.expand.step_each.Given as goal

-- the turns of the actors so far are taken
abbrev pub invariant-loop-actor : goal.invariant-loop-actor
invariant-loop-actor l =
    IsSteppedBy l.fn.task.script.now l.fn.task.behind l.fn.task.named.now l.fn.task.limit l.fn.i l.fn.graph l.graph (take l.actor-index l.actors)
