use Rattle.std.proofs.Common.{refl, ap}
use Rattle.gup_plain.specs.declared.answer.Answer.{Answer}
use Rattle.gup_plain.specs.declared.answer.Answer.TheVariants as answers
use Rattle.gup_plain.specs.declared.note.What.TheVariants.{Done}
use Rattle.std.proofs.Common.{[], ◌∷◌}
use Rattle.gup_frames.specs.Frames.{frames_of}
use Rattle.gup_space.specs.Space.{space_of}
use Rattle.gup_fault.specs.Refused.{answer_of}
use Rattle.gup_op_base.specs.declared.jobs.JobPlace.TheVariants.{Unbegun}
use Rattle.gup_op_base.specs.Said.{answered_said}
use Rattle.gup_op_base.proofs.Leading.{notes_alike}
use Rattle.gup_op_pins.specs.Pins.{pinning_view}
use Rattle.gup_op_pins.proofs.Referring.{reference_got, get_refused}
use Rattle.gup_op_pins.proofs.references.get.Goals as goal

pub returns-in-Ok : goal.returns-in-Ok
returns-in-Ok c =
    let a = c.args in
    record {
      said = answered_said answers.Plain;
      tells = c.answered.ensures;
      ends = refl;
      is_so = λ taken.
          reference_got (pinning_view a.frames.now a.space.now a.handles.now taken Unbegun) (pinning_view c.get_page-frame.new.frames c.ready.new.space c.hold_got.new.self taken Unbegun)
          (frames_of c.ready.new.frames) (space_of c.ready.new.space) a.head.now.actor a.proc a.handle a.page c.get_page-frame.result c.requires.tidy c.requires.table
          c.in-Ok.ensures.fault c.get_page-frame.ensures.frame c.get_page-frame.ensures.frames refl c.hold_got.ensures.got refl refl (refl, refl) c.requires.unmade;
    }

pub returns-in-Err : goal.returns-in-Err
returns-in-Err c =
    let a = c.args in
    let answer = answer_of c.in-Err.denied in
    record {
      said = answered_said c.answer_of.result;
      tells = c.answered-in-Err.ensures;
      ends = refl;
      is_so = λ taken.
          notes_alike
          (ap (λ (x : Answer). Done x ∷ []) c.answer_of.ensures)
          (get_refused (pinning_view a.frames.now a.space.now a.handles.now taken Unbegun) (pinning_view c.ready.new.frames c.ready.new.space a.handles.now taken Unbegun)
          (frames_of c.ready.new.frames) (space_of c.ready.new.space) a.head.now.actor a.proc a.handle a.page answer c.requires.tidy c.in-Err.ensures.fault refl refl refl refl refl refl);
    }
