use Rattle.std.proofs.Common.{None, ap, ◌∙◌, refl}
use Rattle.gup_plain.specs.declared.answer.Answer.TheVariants as answers
use Rattle.gup_plain.specs.declared.event.PlainEvent.TheVariants as events
use Rattle.gup_frames.specs.Frames.{frames_of}
use Rattle.gup_space.specs.Space.{SpaceValue, space_of}
use Rattle.gup_fork.specs.Forks.{fork_change_of}
use Rattle.gup_spec_events.specs.State.{counted, copying}
use Rattle.gup_spec_events.specs.Failure.{fails}
use Rattle.gup_op_base.specs.Said.{done_said}
use Rattle.gup_op_fork.proofs.Forking.{other_parent}
use Rattle.gup_op_fork.proofs.Copying.{fork_failed}
use Rattle.gup_op_fork.proofs.forks.fail_turn.Goals as goal

pub returns : goal.returns
returns c place held =
    let x = c.args in
    let k = fork_change_of x.frames.now c.fail.new.frames x.parent.now c.set_structure.new.self x.child.now c.fail.new.child in
    record {
      said = done_said (events.ForkFail x.child_no) answers.NoFrame;
      tells = c.done.ensures;
      ends = refl;
      is_so =
          fork_failed k x.head.now.actor x.proc x.child_no place held
          (λ page done. other_parent (frames_of x.frames.now) (frames_of c.fail.new.frames) (space_of x.parent.now) _ (space_of c.set_structure.new.self) (space_of x.child.now) (space_of c.fail.new.child)
          (λ p d. fails x.head.now.actor p d done (counted page) (space_of x.child.now).entry)
          (c.set_structure.ensures ∙ ap (λ (space : SpaceValue). record space { structure = None }) c.set_table.ensures)
          (c.fail.ensures.events x.head.now.actor done (counted page)))
          (λ page done. other_parent (frames_of x.frames.now) (frames_of c.fail.new.frames) (space_of x.parent.now) _ (space_of c.set_structure.new.self) (space_of x.child.now) (space_of c.fail.new.child)
          (λ p d. fails x.head.now.actor p d done (copying page 0) (space_of x.child.now).entry)
          (c.set_structure.ensures ∙ ap (λ (space : SpaceValue). record space { structure = None }) c.set_table.ensures)
          (c.fail.ensures.events x.head.now.actor done (copying page 0)));
    }
