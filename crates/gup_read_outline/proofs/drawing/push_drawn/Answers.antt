use Rattle.std.proofs.Common.{◌≡◌, ℕ, ◌+◌, ◌-◌, ◌∷◌, ◌++◌, [], List, sym, ap, ◌∙◌, append_assoc, arith}
use Rattle.gup_spec_grammar.specs.Outline.{next_state, drawn, draws}
use Rattle.gup_read_outline.proofs.Draws.{draws_more}
use Rattle.gup_read_outline.proofs.drawing.push_drawn.Goals as goal

pub loop-preserved : goal.loop-preserved
loop-preserved c =
    let left : ℕ = c.args.count - (c.loop.counter + 1) in
    let next : ℕ = next_state c.loop.x in
    let more = draws_more (c.args.count - c.loop.counter) left c.args.below c.loop.x (omega arith) in
    let state : c.next_state-x.result ≡ next = c.next_state-x.ensures in
    let value = rw c.unwrap-actor.ensures at c.new.ensures.value in
    let actor : c.unwrap-actor.result ≡ drawn c.args.below next = value ∙ c.drawn.ensures.number ∙ ap (drawn c.args.below) state in
    record {
      done = rw (c.push_reserved.ensures.items, state, actor)
          (append_assoc c.loop.turns.items (drawn c.args.below next ∷ []) (draws left c.args.below next)
          ∙ ap (λ (turns : List ℕ). c.loop.turns.items ++ turns) (sym more)
          ∙ c.loop.invariant.done);
      room = omega arith;
    }
