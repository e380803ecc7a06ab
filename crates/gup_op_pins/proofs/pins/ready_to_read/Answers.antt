use Rattle.std.proofs.Common.{false, Result, Ok, Err, OnOk}
use Rattle.gup_space.specs.Shows.{change_of}
use Rattle.gup_fault.specs.declared.denied.Denied.{Denied}
use Rattle.gup_op_pins.proofs.Readying.{ready_behind}
use Rattle.gup_op_pins.proofs.pins.ready_to_read.Goals as goal

nothing : (r : Result (Unit {0}) Denied) → OnOk r (Unit {0})
nothing (Ok ok) = tt
nothing (Err denied) = tt

pub returns-clause-ready : goal.returns-clause-ready
returns-clause-ready c =
    let a = c.args in
    ready_behind (change_of a.frames.now c.unshare-ready.new.frames a.space.now c.unshare-ready.new.space) a.page false a.allowed c.unshare-ready.result
    c.requires.tidy c.requires.few c.requires.table c.unshare-ready.ensures.fault c.are_there.ensures.held c.unshare-ready.ensures.marked (nothing c.unshare-ready.result)
