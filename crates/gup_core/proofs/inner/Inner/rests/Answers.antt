use Rattle.std.proofs.Common.{subst}
use Rattle.gup_core.specs.Machine.{MachineValue, machine_of}
use Rattle.gup_core.specs.Rest.{IsAtRest}
use Rattle.gup_core.proofs.Resting.{at_rest}
use Rattle.gup_core.proofs.inner.Inner.rests.Goals as goal

pub returns : goal.returns
returns c =
    let i = c.self.inside in
    subst (λ (m : MachineValue). IsAtRest m) c.self.view_is
    (at_rest (machine_of i.script i.parts i.mirrors i.seats.items i.pool i.turns) c.actors-actors.ensures.valid c.self.invariant c.are_there.ensures.held c.reached_states_stand.ensures)
