use Rattle.std.proofs.Common.{◌<◌, length, sym, ◌∙◌, subst}
use Rattle.gup_spec_grammar.specs.Outline.{Outline}
use Rattle.gup_read.proofs.Placing.{actor_within, declarable, still_within}
use Rattle.gup_read.proofs.declarations.on_line.Goals as goal

pub declare_made-requires : goal.declare_made-requires
declare_made-requires c =
    declarable c.args.reader.now c.in_ok-actor.actor _ _ c.in_ok-op.op (sym c.actor_op.ensures ∙ c.in_ok-op.was)

pub add_operation-requires-clause-there : goal.add_operation-requires-clause-there
add_operation-requires-clause-there c =
    let within = actor_within c.args.reader.now c.in_ok-actor.actor _ _ c.in_ok-op.op (sym c.actor_op.ensures ∙ c.in_ok-op.was) in
    subst (λ (st : Outline). c.in_ok-actor.actor < length st.script.actors) (sym c.in_ok-declare_made.ensures)
    (still_within c.in_ok-op.op _ c.args.reader.now c.in_ok-actor.actor c.in_ok-actor.actor within)
