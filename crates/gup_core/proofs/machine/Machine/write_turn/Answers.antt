use Rattle.std.proofs.Common.{subst}
use Rattle.gup_core.specs.Machine.{MachineValue}
use Rattle.gup_core.specs.Going.{WritesTurn}
use Rattle.gup_core.proofs.Journals.{writes_from}
use Rattle.gup_core.proofs.machine.Machine.write_turn.Goals as goal

pub returns-clause-turn : goal.returns-clause-turn
returns-clause-turn c =
    subst (λ (m : MachineValue). WritesTurn m c.take_turn.new.self c.args.journal.now c.take_turn.new.journal c.args.actor) c.self.view_is
    (writes_from c.self.inside.inner c.take_turn.new.self c.args.journal.now c.reserve.new.self c.take_turn.new.journal c.args.actor c.in_ok-reserve.ensures.notes c.take_turn.ensures.turn)
