use Rattle.std.proofs.Common.{subst, sym}
use Rattle.gup_core.specs.Machine.{MachineValue, Shows}
use Rattle.gup_core.proofs.machine.Machine.space.Goals as goal

pub returns : goal.returns
returns c r shown = c.space.ensures r (subst (λ (m : MachineValue). Shows m r) (sym c.self.view_is) shown)
