use Rattle.std.proofs.Common.{[], ◌∷◌, refl}
use Rattle.gup_plain.specs.declared.event.PlainEvent.TheVariants as events
use Rattle.gup_frames.specs.Frames.{frames_of}
use Rattle.gup_space.specs.Space.{space_of}
use Rattle.gup_fork.specs.Forks.{fork_change_of}
use Rattle.gup_spec_events.specs.Event.{begin_fork}
use Rattle.gup_op_base.specs.Said.{happened_said}
use Rattle.gup_op_fork.proofs.Forking.{begun, other_parent}
use Rattle.gup_op_fork.proofs.forks.first_turn.Goals as goal

pub returns : goal.returns
returns c =
    let a = c.args in
    record {
      said = happened_said (events.ForkBegin a.proc a.child_no);
      tells = c.happened.ensures.says;
      ends = refl;
      is_so =
          λ frames.
          begun (fork_change_of frames frames a.parent.now c.set_structure.new.self a.child.now c.begin.new.child) a.head.now.actor a.proc a.child_no
          (other_parent (frames_of frames) (frames_of frames) (space_of a.parent.now) _ (space_of c.set_structure.new.self) (space_of a.child.now) (space_of c.begin.new.child)
          (λ p d. begin_fork a.head.now.actor p d ∷ []) c.set_structure.ensures (c.begin.ensures.events a.head.now.actor frames));
    }
