use Rattle.std.proofs.Common.{◌≡◌}
use Rattle.gup_script.specs.Script.{ScriptValue}
use Rattle.gup_search.proofs.Loops.{StandsAfter}
use Rattle.gup_search.proofs.replay.tell_turns.Given as goal

-- the first turns are taken and told
abbrev pub invariant-loop-actor : goal.invariant-loop-actor
invariant-loop-actor l =
    (l.machine.script ≡ l.fn.machine.script)
    × ((script : ScriptValue) → StandsAfter script l.fn.named l.fn.machine l.machine l.fn.tells.items l.tells.items l.actors l.actor-index)
