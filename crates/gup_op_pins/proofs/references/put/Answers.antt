use Rattle.std.proofs.Common.{refl, sym, ◌∙◌}
use Rattle.gup_plain.specs.declared.answer.Answer.TheVariants as answers
use Rattle.gup_frames.specs.Frames.{frames_of}
use Rattle.gup_handles.specs.Handles.{handles_of}
use Rattle.gup_op_base.specs.Said.{answered_said}
use Rattle.gup_op_pins.proofs.Holding.{passed}
use Rattle.gup_op_pins.proofs.Referring.{reference_put}
use Rattle.gup_op_pins.proofs.references.put.Goals as goal

pub returns : goal.returns
returns c =
    let a = c.args in
    let H = handles_of a.handles.now in
    let mine = c.reference.ensures.held.0 (passed c.reference.result (sym c.is_err.ensures.value ∙ c.if-is_err.false)) in
    record {
      said = answered_said answers.Plain;
      tells = c.answered-2.ensures;
      ends = refl;
      is_so = reference_put (frames_of a.frames.now) (frames_of c.put.new.self) H (handles_of c.drop_last.new.self) a.head.now.actor a.handle c.in-Ok.frame mine c.in-Ok.ensures.last c.put.ensures c.in-Ok.ensures.dropped;
    }
