use Rattle.std.proofs.Common.{refl}
use Rattle.gup_frames.specs.Frames.{frames_of}
use Rattle.gup_space.specs.Space.{space_of}
use Rattle.gup_space.specs.Shows.{change_of}
use Rattle.gup_fault.specs.Refused.{answer_of}
use Rattle.gup_op_base.specs.Said.{answered_said, stored_said}
use Rattle.gup_op_pages.proofs.Loading.{answers_so, store_by_fault, store_refused, write_there, writable_some}
use Rattle.gup_op_pages.proofs.loads.store_by_fault.Goals as goal

pub store_through-requires-clause-entry : goal.store_through-requires-clause-entry
store_through-requires-clause-entry c =
    let a = c.args in
    let change = change_of a.frames.now c.ready_write.new.frames a.space.now c.ready_write.new.space in
    write_there change a.page c.requires.tidy c.requires.unallowed c.requires.table c.in-Ok.ensures.fault c.are_there.ensures.marked
    (writable_some ((space_of c.ready_write.new.space).entry a.page) c.in-Ok.ensures.writable)

pub returns-in-Ok : goal.returns-in-Ok
returns-in-Ok c =
    let a = c.args in
    record {
      said = stored_said a.head.now.actor a.proc a.page a.word a.value;
      tells = c.store_through.ensures.tells;
      ends = refl;
      is_so =
          store_by_fault (frames_of a.frames.now) (frames_of c.ready_write.new.frames) (frames_of c.store_through.new.frames) (space_of a.space.now) (space_of c.ready_write.new.space)
          a.head.now.actor a.proc a.page a.word a.value c.requires.unallowed c.requires.table c.in-Ok.ensures.fault c.store_through.ensures.frames;
    }

pub returns-in-Err : goal.returns-in-Err
returns-in-Err c =
    let a = c.args in
    let change = change_of a.frames.now c.ready_write.new.frames a.space.now c.ready_write.new.space in
    record {
      said = answered_said (answer_of c.in-Err.denied);
      tells = answers_so a.head.now a.journal.now c.answered.new.journal c.answer_of.ensures c.answered.ensures;
      ends = refl;
      is_so = store_refused change a.head.now.actor a.proc a.page a.word a.value (answer_of c.in-Err.denied) c.requires.unallowed c.requires.table c.in-Err.ensures.fault;
    }
