use Rattle.std.proofs.Common.{true, false}
use Rattle.gup_frames.specs.Frames.{frames_of}
use Rattle.gup_space.specs.Space.{space_of}
use Rattle.gup_op_pins.proofs.Readying.{as_wanted}
use Rattle.gup_op_pins.proofs.pins.ready.Goals as goal

pub returns-then-want-clause-ready : goal.returns-then-want-clause-ready
returns-then-want-clause-ready c =
    let t = c.ready_to_write in
    as_wanted true c.args.want.write (frames_of t.new.frames) (space_of t.new.space) c.args.page t.result c.if-want.true t.ensures.ready

pub returns-else-want-clause-ready : goal.returns-else-want-clause-ready
returns-else-want-clause-ready c =
    let t = c.ready_to_read in
    as_wanted false c.args.want.write (frames_of t.new.frames) (space_of t.new.space) c.args.page t.result c.if-want.false t.ensures.ready
