use Rattle.std.proofs.Common.{refl}
use Rattle.gup_frames.specs.Frames.{frames_of}
use Rattle.gup_space.specs.Space.{space_of}
use Rattle.gup_space.specs.Shows.{change_of}
use Rattle.gup_fault.specs.Faults.{page_word}
use Rattle.gup_fault.specs.Refused.{answer_of}
use Rattle.gup_op_base.specs.Said.{answered_said, loaded_said}
use Rattle.gup_op_pages.proofs.Loading.{answers_so, load_by_fault, load_refused, read_there}
use Rattle.gup_op_pages.proofs.loads.load_by_fault.Goals as goal

pub load_through-requires-clause-entry : goal.load_through-requires-clause-entry
load_through-requires-clause-entry c =
    let a = c.args in
    let change = change_of a.frames.now c.make_present.new.frames a.space.now c.make_present.new.space in
    read_there change a.page c.requires.absent c.requires.table c.in-Ok.ensures.fault c.are_there.ensures.marked c.in-Ok.ensures.entry

pub returns-in-Ok : goal.returns-in-Ok
returns-in-Ok c =
    let a = c.args in
    let change = change_of a.frames.now c.make_present.new.frames a.space.now c.make_present.new.space in
    record {
      said =
          loaded_said a.head.now.actor a.proc a.page a.word
          (page_word (frames_of c.make_present.new.frames) ((space_of c.make_present.new.space).entry a.page) a.word);
      tells = c.load_through.ensures;
      ends = refl;
      is_so = load_by_fault change a.head.now.actor a.proc a.page a.word c.requires.absent c.requires.table c.in-Ok.ensures.fault c.in-Ok.ensures.entry;
    }

pub returns-in-Err : goal.returns-in-Err
returns-in-Err c =
    let a = c.args in
    let change = change_of a.frames.now c.make_present.new.frames a.space.now c.make_present.new.space in
    record {
      said = answered_said (answer_of c.in-Err.denied);
      tells = answers_so a.head.now a.journal.now c.answered.new.journal c.answer_of.ensures c.answered.ensures;
      ends = refl;
      is_so = load_refused change a.head.now.actor a.proc a.page a.word (answer_of c.in-Err.denied) c.requires.absent c.requires.table c.in-Err.ensures.fault;
    }
