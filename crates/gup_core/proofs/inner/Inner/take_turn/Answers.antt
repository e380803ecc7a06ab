use Rattle.std.proofs.Common.{◌++◌, List, ap, subst, sym, ◌∙◌}
use Rattle.gup_plain.specs.Note.{NoteValue}
use Rattle.gup_core.specs.Machine.{MachineValue, Shows, TakesTurn}
use Rattle.gup_core.proofs.inner.Inner.take_turn.Goals as goal

pub returns-in-Waits-clause-turn : goal.returns-in-Waits-clause-turn
returns-in-Waits-clause-turn c r h =
    let stays = c.in-Waits.ensures.advances.1 in
    let took = c.still-in-Waits.ensures.turn r (subst (λ (m : MachineValue). Shows m r) (sym stays.machine) h) in (
      took.0,
      took.1 ∙ ap (λ (notes : List NoteValue). notes ++ took.0) stays.notes,
      subst (λ (m : MachineValue). TakesTurn m c.still-in-Waits.new.self c.args.actor r took.0) stays.machine took.2,
    )
