use Rattle.std.proofs.Common.{refl}
use Rattle.gup_plain.specs.declared.answer.Answer.TheVariants as answers
use Rattle.gup_plain.specs.declared.event.PlainEvent.TheVariants as events
use Rattle.gup_op_base.specs.Said.{done_said}
use Rattle.gup_op_base.specs.declared.jobs.JobPlace.TheVariants.{Unbegun, Walking}
use Rattle.gup_op_base.specs.declared.jobs.WalkPlace.TheVariants.{Ready}
use Rattle.gup_op_pins.specs.Pins.{pinning_view}
use Rattle.gup_op_pins.proofs.WalkTurning.{all_kept}
use Rattle.gup_op_pins.proofs.walks.all_turn.Goals as goal

pub returns : goal.returns
returns c =
    let x = c.args in
    let a = x.head.now.actor in
    record {
      said = done_said (events.PinOk a x.call.handle) (answers.Pinned x.call.n);
      tells = c.done.ensures;
      ends = refl;
      is_so = λ frames far.
          all_kept (pinning_view frames x.space.now x.handles.now x.taken.now.items (Walking Ready x.page x.sequence)) (pinning_view frames c.leave.new.self c.hold.new.handles c.hold.new.taken.items Unbegun)
          a x.call.proc x.call.handle x.call.page x.call.n far x.sequence x.call.want x.call.fast refl refl c.requires.all c.requires.some c.requires.same
          refl c.leave.ensures c.requires.unmade c.hold.ensures.held c.hold.ensures.empty (refl, refl);
    }
