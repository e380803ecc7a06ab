use Rattle.std.proofs.Common.{[], ◌∷◌, refl}
use Rattle.gup_plain.specs.declared.answer.Answer.TheVariants as answers
use Rattle.gup_plain.specs.declared.event.PlainEvent.TheVariants as events
use Rattle.gup_frames.specs.Frames.{frames_of}
use Rattle.gup_space.specs.Space.{space_of}
use Rattle.gup_fork.specs.Forks.{fork_change_of}
use Rattle.gup_spec_events.specs.Event.{end_fork}
use Rattle.gup_op_base.specs.Said.{done_said}
use Rattle.gup_op_fork.proofs.Forking.{ended, other_parent}
use Rattle.gup_op_fork.proofs.forks.last_turn.Goals as goal

pub returns : goal.returns
returns c from frames child none =
    let x = c.args in
    let k = fork_change_of frames frames x.parent.now c.set_structure.new.self child child in
    record {
      said = done_said (events.ForkEnd x.proc x.child_no) answers.Plain;
      tells = c.done.ensures;
      ends = refl;
      is_so =
          ended k x.head.now.actor x.proc x.child_no from
          (λ done. other_parent (frames_of frames) (frames_of frames) (space_of x.parent.now) _ (space_of c.set_structure.new.self) (space_of child) (space_of child)
          (λ p d. end_fork x.head.now.actor p d done ∷ []) c.set_structure.ensures (c.end.ensures.events x.head.now.actor done frames child))
          none;
    }
