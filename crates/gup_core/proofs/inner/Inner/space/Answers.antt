use Rattle.std.proofs.Common.{ℕ, ◌<◌, length, sym, subst}
use Rattle.gup_core.specs.Machine.{MachineValue, Shows}
use Rattle.gup_op_tables.proofs.Replaced.{was_there}
use Rattle.gup_core.proofs.inner.Inner.space.Goals as goal

pub returns : goal.returns
returns c r shown =
    let spaces = c.self.inside.parts.spaces.items in
    let here = subst (λ (x : MachineValue). Shows x r) (sym c.self.view_is) shown in
    let script = subst (λ (x : MachineValue). c.args.proc < length x.script.processes) (sym c.self.view_is) c.requires in
    let within : c.args.proc < length spaces = subst (λ (n : ℕ). c.args.proc < n) (sym c.self.invariant.parts.spaces) script in
    here.parts.spaces c.args.proc c.index.result.now (was_there spaces c.get.result c.args.proc c.index.result.now c.index.ensures c.get.ensures.value within)
