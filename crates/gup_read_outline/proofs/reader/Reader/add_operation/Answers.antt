use Rattle.std.proofs.Common.{◌≡◌, ◌<◌, List, length, map, subst, sym, ap, ◌∙◌, arith}
use Rattle.std.proofs.Math.ListN.{set}
use Rattle.std.proofs.lemmas.List.{length-map}
use Rattle.gup_script.specs.declared.script.Actor.{Actor as Fields}
use Rattle.gup_script.specs.declared.op.Op.{Op}
use Rattle.gup_spec_grammar.specs.Outline.{Outline, with_op, with_operation}
use Rattle.gup_script.specs.Views.{actor_value}
use Rattle.gup_read_outline.specs.ReaderViews.{outline_value}
use Rattle.gup_read_outline.proofs.Actors.{same_actors, operation_added, op_added, op_refused}
use Rattle.gup_read_outline.proofs.reader.Reader.add_operation.Goals as goal

pub invariant_of-self : goal.invariant_of-self
invariant_of-self c =
    let x = c.index_mut-actor.result.now in
    let y : Fields = record { name = x.name; kind = x.kind; ops = c.push.new.self } in
    let e = op_refused c.self.inside.contents.actors.items c.get.result x y c.index_mut-actor.ensures.value (ap (λ (ops : List Op). record (actor_value x) { ops = ops }) c.in_err-push.ensures.items) in
    same_actors (outline_value c.self.inside) _ e c.self.invariant

-- the actors with one more operation
more : (c : goal.After-self-2-1) → map actor_value (set c.self.inside.contents.actors.items c.get.result (record { name = c.index_mut-actor.result.now.name; kind = c.index_mut-actor.result.now.kind; ops = c.push.new.self })) ≡ with_op c.args.actor c.args.op (map actor_value c.self.inside.contents.actors.items)
more c =
    let x = c.index_mut-actor.result.now in
    let y : Fields = record { name = x.name; kind = x.kind; ops = c.push.new.self } in
    let actors = c.self.inside.contents.actors.items in
    let there : c.args.actor < length (outline_value c.self.inside).script.actors = subst (λ (st : Outline). c.args.actor < length st.script.actors) (sym c.self.view_is) c.requires.there in
    let within : c.get.result < length actors = omega (arith, there, length-map actors actor_value, c.get.ensures.value) in
    let added = op_added actors c.get.result x y c.args.op within c.index_mut-actor.ensures.value (ap (λ (ops : List Op). record (actor_value x) { ops = ops }) c.in_ok-push.ensures.items) in
    added ∙ ap (λ i. with_op i c.args.op (map actor_value actors)) c.get.ensures.value

pub invariant_of-self-2 : goal.invariant_of-self-2
invariant_of-self-2 c =
    same_actors (with_operation c.args.actor c.args.op (outline_value c.self.inside)) _ (more c) (operation_added c.args.actor c.args.op (outline_value c.self.inside) c.self.invariant)

pub returns : goal.returns
returns c = rw (more c) (ap (with_operation c.args.actor c.args.op) c.self.view_is)
