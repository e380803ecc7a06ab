use Rattle.std.proofs.Common.{[], ◌∷◌, refl, ap}
use Rattle.gup_plain.specs.declared.answer.Answer.{Answer}
use Rattle.gup_plain.specs.declared.answer.Answer.TheVariants as answers
use Rattle.gup_plain.specs.declared.event.PlainEvent.TheVariants as events
use Rattle.gup_plain.specs.declared.note.What.TheVariants.{Done}
use Rattle.gup_space.specs.Shows.{change_of}
use Rattle.gup_fault.specs.Refused.{answer_of}
use Rattle.gup_notify.specs.Mirrors.{mirrors_of}
use Rattle.gup_op_base.specs.Said.{done_said, answered_said}
use Rattle.gup_op_base.proofs.Leading.{notes_alike}
use Rattle.gup_op_slots.proofs.Mirroring.{slot_filled, mirror_refused}
use Rattle.gup_op_slots.proofs.mirrors.mirror.Goals as goal

pub returns-in-Ok : goal.returns-in-Ok
returns-in-Ok c =
    let a = c.args in
    let change = change_of a.frames.now c.make_present.new.frames a.space.now c.make_present.new.space in
    record {
      turn = record {
        said = done_said (events.MirrorFill a.head.now.actor a.mirror a.proc a.page) answers.Plain;
        tells = c.done.ensures;
        ends = refl;
        is_so =
            slot_filled change (mirrors_of a.mirrors.now) (mirrors_of c.fill.new.self) a.head.now.actor a.proc a.mirror a.page c.requires.tidy c.requires.table c.in-Ok.ensures.fault c.in-Ok.ensures.entry
            (c.fill.ensures.event a.head.now.actor);
      };
    }

pub returns-in-Err : goal.returns-in-Err
returns-in-Err c =
    let a = c.args in
    let change = change_of a.frames.now c.make_present.new.frames a.space.now c.make_present.new.space in
    record {
      turn = record {
        said = answered_said c.answer_of.result;
        tells = c.answered.ensures;
        ends = refl;
        is_so =
            notes_alike
            (ap (λ (x : Answer). Done x ∷ []) c.answer_of.ensures)
            (mirror_refused change (mirrors_of a.mirrors.now) a.head.now.actor a.proc a.mirror a.page (answer_of c.in-Err.denied) c.requires.tidy c.in-Err.ensures.fault);
      };
    }
