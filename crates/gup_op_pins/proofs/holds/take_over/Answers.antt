use Rattle.std.proofs.Common.{refl}
use Rattle.gup_plain.specs.declared.answer.Answer.TheVariants as answers
use Rattle.gup_plain.specs.declared.event.PlainEvent.TheVariants as events
use Rattle.gup_frames.specs.Frames.{frames_of}
use Rattle.gup_handles.specs.Handles.{handles_of}
use Rattle.gup_op_base.specs.Said.{done_said}
use Rattle.gup_op_pins.proofs.Holding.{pin_taken}
use Rattle.gup_op_pins.proofs.holds.take_over.Goals as goal

pub returns-clause-turn : goal.returns-clause-turn
returns-clause-turn c =
    let a = c.args in
    let actor = a.head.now.actor in
    record {
      said = done_said (events.Take actor a.handle) answers.Plain;
      tells = c.done.ensures;
      ends = refl;
      is_so = λ frames.
          pin_taken (frames_of frames) (handles_of a.handles.now) (handles_of c.take.new.self) actor a.handle c.take.result c.requires.given
          (c.take.ensures.given.1 c.requires.given) c.take.ensures.taken;
    }
