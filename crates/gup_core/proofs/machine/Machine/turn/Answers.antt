use Rattle.std.proofs.Common.{◌++◌, List, ap, subst, sym, ◌∙◌}
use Rattle.gup_plain.specs.Note.{NoteValue}
use Rattle.gup_core.specs.Machine.{MachineValue, Shows, TakesTurn}
use Rattle.gup_core.proofs.machine.Machine.turn.Goals as goal

pub returns-clause-turn : goal.returns-clause-turn
returns-clause-turn c r h =
    let took = c.take_turn.ensures.turn r (subst (λ (m : MachineValue). Shows m r) (sym c.self.view_is) h) in
    let told = c.of.ensures ∙ c.notes.ensures ∙ took.1 ∙ ap (λ (notes : List NoteValue). notes ++ took.0) c.clear.ensures.notes in
    subst (λ (m : MachineValue). TakesTurn m c.take_turn.new.self c.args.actor r c.of.result) c.self.view_is
    (subst (λ (notes : List NoteValue). TakesTurn c.self.inside.inner c.take_turn.new.self c.args.actor r notes) (sym told) took.2)
