use Rattle.std.proofs.Common.{◌≡◌}
use Rattle.gup_search.proofs.Loops.{ShowsAfter}
use Rattle.gup_search.proofs.replay.take_turns.Given as goal

-- the first turns are taken
abbrev pub invariant-loop-actor : goal.invariant-loop-actor
invariant-loop-actor l =
    (l.machine.script ≡ l.fn.machine.script)
    × ShowsAfter l.fn.machine.script l.fn.machine l.machine l.actors l.actor-index
