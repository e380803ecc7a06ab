use Rattle.gup_space.specs.Shows.{change_of}
use Rattle.gup_op_pins.proofs.Readying.{gettable_behind}
use Rattle.gup_op_pins.proofs.references.ready.Goals as goal

pub returns-clause-ready : goal.returns-clause-ready
returns-clause-ready c =
    let a = c.args in
    gettable_behind (change_of a.frames.now c.ready_read-ready.new.frames a.space.now c.ready_read-ready.new.space) a.page c.ready_read-ready.result
    c.requires.tidy c.requires.few c.requires.table c.ready_read-ready.ensures.fault c.are_there.ensures.held c.ready_read-ready.ensures.entry
