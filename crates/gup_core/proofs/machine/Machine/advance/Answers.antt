use Rattle.std.proofs.Common.{subst}
use Rattle.gup_core.specs.Machine.{MachineValue}
use Rattle.gup_core.specs.Going.{Advances}
use Rattle.gup_core.proofs.Journals.{advances_from}
use Rattle.gup_core.proofs.machine.Machine.advance.Goals as goal

pub returns-clause-advances : goal.returns-clause-advances
returns-clause-advances c =
    subst (λ (m : MachineValue). Advances m c.go.new.self c.args.journal.now c.go.new.journal c.args.actor c.go.result) c.self.view_is
    (advances_from _ _ c.args.journal.now _ _ c.args.actor c.go.result c.in_ok-reserve.ensures.notes c.in_ok-reserve.ensures.room c.go.ensures.advances)
