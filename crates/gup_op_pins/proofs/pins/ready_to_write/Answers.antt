use Rattle.std.proofs.Common.{true}
use Rattle.gup_space.specs.Shows.{change_of}
use Rattle.gup_op_pins.proofs.Readying.{ready_behind}
use Rattle.gup_op_pins.proofs.pins.ready_to_write.Goals as goal

pub returns-clause-ready : goal.returns-clause-ready
returns-clause-ready c =
    let a = c.args in
    ready_behind (change_of a.frames.now c.ready_write-ready.new.frames a.space.now c.ready_write-ready.new.space) a.page true a.allowed c.ready_write-ready.result
    c.requires.tidy c.requires.few c.requires.table c.ready_write-ready.ensures.fault c.are_there.ensures.held
    (c.ready_write-ready.ensures.marked (c.requires.tidy.marked a.page)) c.ready_write-ready.ensures.writable
