use Rattle.std.proofs.Common.{◌≡◌, Some, slice_get, sym, ap, ◌∙◌, subst}
use Rattle.gup_spec_turns.specs.Run.{RunState, waiting_in}
use Rattle.gup_core.specs.Machine.{MachineValue, Shows, machine_of}
use Rattle.gup_core.specs.Rest.{IsAtRest}
use Rattle.gup_core.proofs.Taking.{waiting_is}
use Rattle.gup_core.proofs.inner.Inner.waits.Goals as goal

pub returns : goal.returns
returns c =
    let i = c.self.inside in
    let a = c.args.actor in
    let m = machine_of i.script i.parts i.mirrors i.seats.items i.pool i.turns in
    let rest = subst (λ (x : MachineValue). IsAtRest x) (sym c.self.view_is) c.rests.ensures in
    let here = subst (λ (x : MachineValue). slice_get x.seats a ≡ Some c.seat-seat.result) (sym c.self.view_is) c.seat-seat.ensures in
    let op = sym (ap (λ ops. slice_get ops c.seat-seat.result.answered) c.ops.ensures) ∙ c.in-Some.ensures in
    subst (λ (x : MachineValue). (r : RunState) → Shows x r → c.waits_at.result ≡ waiting_in x.script r a) c.self.view_is
    (waiting_is m a c.process-proc.result c.seat-seat.result c.in-Some.op.now c.waits_at.result c.reached_states_stand.ensures rest c.process-proc.ensures here op c.waits_at.ensures)
