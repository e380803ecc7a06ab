use Rattle.std.proofs.Common.{sym, refl, ◌∙◌}
use Rattle.gup_plain.specs.declared.answer.Answer.TheVariants as answers
use Rattle.gup_plain.specs.declared.event.PlainEvent.TheVariants as events
use Rattle.gup_frames.specs.Frames.{frames_of}
use Rattle.gup_handles.specs.Handles.{handles_of}
use Rattle.gup_op_base.specs.Said.{done_said}
use Rattle.gup_op_pins.proofs.Holding.{on_ok, passed, pin_given}
use Rattle.gup_op_pins.proofs.holds.give.Goals as goal

pub returns-clause-turn : goal.returns-clause-turn
returns-clause-turn c =
    let a = c.args in
    let actor = a.head.now.actor in
    let ok = sym c.is_err.ensures.value ∙ c.if-is_err.false in
    record {
      said = done_said (events.Give actor a.handle a.to) answers.Plain;
      tells = c.done.ensures;
      ends = refl;
      is_so = λ frames.
          pin_given (frames_of frames) (handles_of a.handles.now) (handles_of c.give.new.self) actor a.handle a.to
          (c.give.ensures.held.0 (passed c.give.result ok)) (on_ok c.give.result ok c.give.ensures.given);
    }
