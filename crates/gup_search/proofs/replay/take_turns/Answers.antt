use Rattle.std.proofs.Common.{ℕ, ◌<◌, List, length, sym, subst, ◌∙◌}
use Rattle.std.proofs.lemmas.List.{take_all}
use Rattle.gup_script.specs.Script.{ScriptValue}
use Rattle.gup_spec_turns.specs.Run.{turned}
use Rattle.gup_core.specs.Machine.{Shows}
use Rattle.gup_search.proofs.Loops.{shows_more}
use Rattle.gup_search.proofs.replay.take_turns.Goals as goal

pub turn-requires : goal.turn-requires
turn-requires c =
    subst (λ (s : ScriptValue). c.actor-item.result < length s.actors) (sym c.loop-actor.invariant.0)
    (subst (λ (a : ℕ). a < length c.args.machine.now.script.actors) (sym c.actor-item.is) (c.requires c.loop-actor.actor-index c.actor-item.result c.loop-actor-test.true))

pub loop-actor-preserved : goal.loop-actor-preserved
loop-actor-preserved c = (
  c.turn.ensures.script ∙ c.loop-actor.invariant.0,
  shows_more c.args.machine.now.script c.args.machine.now c.loop-actor.machine c.turn.new.self c.args.actors.now c.loop-actor.actor-index c.actor-item.result c.turn.result c.loop-actor.invariant.0 c.loop-actor-test.true c.actor-item.is c.turn.ensures.turn c.loop-actor.invariant.1,
)

pub returns-clause-shows : goal.returns-clause-shows
returns-clause-shows c =
    λ r shown.
    subst (λ (xs : List ℕ). Shows c.loop-actor.machine (turned c.args.machine.now.script r xs)) (take_all c.loop-actor.actor-index c.args.actors.now c.loop-actor-test.false)
    (c.loop-actor.invariant.1 r shown)
