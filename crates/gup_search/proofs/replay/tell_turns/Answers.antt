use Rattle.std.proofs.Common.{ℕ, ◌<◌, List, ◌++◌, length, sym, subst, refl, ◌∙◌}
use Rattle.std.proofs.lemmas.List.{take_all}
use Rattle.gup_script.specs.Script.{ScriptValue}
use Rattle.gup_search.specs.Search.{Stands}
use Rattle.gup_search.proofs.Loops.{stands_none, stands_more}
use Rattle.gup_search.proofs.replay.tell_turns.Goals as goal

pub loop-actor-init : goal.loop-actor-init
loop-actor-init c = (refl, λ script. stands_none script c.args.named.now c.args.machine.now c.args.tells.now.items c.args.actors.now)

pub tell_turn-requires : goal.tell_turn-requires
tell_turn-requires c =
    subst (λ (s : ScriptValue). c.actor-item.result < length s.actors) (sym c.loop-actor.invariant.0)
    (subst (λ (a : ℕ). a < length c.args.machine.now.script.actors) (sym c.actor-item.is) (c.requires c.loop-actor.actor-index c.actor-item.result c.loop-actor-test.true))

pub loop-actor-preserved : goal.loop-actor-preserved
loop-actor-preserved c = (
  c.tell_turn.ensures.script ∙ c.loop-actor.invariant.0,
  λ script. stands_more script c.args.named.now c.args.machine.now c.loop-actor.machine c.tell_turn.new.machine c.args.tells.now.items c.loop-actor.tells.items c.tell_turn.new.tells.items c.args.actors.now c.loop-actor.actor-index c.actor-item.result c.tell_turn.ensures.script c.loop-actor-test.true c.actor-item.is c.in_ok-tell_turn.ensures.turn (c.loop-actor.invariant.1 script),
)

pub returns-clause-stands : goal.returns-clause-stands
returns-clause-stands c =
    λ script order stands.
    subst (λ (xs : List ℕ). Stands script c.args.named.now (order ++ xs) c.loop-actor.machine c.loop-actor.tells.items) (take_all c.loop-actor.actor-index c.args.actors.now c.loop-actor-test.false)
    (c.loop-actor.invariant.1 script order stands)
