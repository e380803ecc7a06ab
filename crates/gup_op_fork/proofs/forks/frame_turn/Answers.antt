use Rattle.std.proofs.Common.{sym, ap, subst, ◌∙◌, refl}
use Rattle.gup_base.specs.declared.entry.Allowed.TheVariants.{Any}
use Rattle.gup_frames.specs.Frames.{FramesValue, frames_of}
use Rattle.gup_space.specs.Space.{space_of}
use Rattle.gup_space.specs.Found.{found_for}
use Rattle.gup_spec_turns.specs.JobPlace.{wants_frame}
use Rattle.gup_op_base.specs.Said.{whats_of, silent_said}
use Rattle.gup_op_base.specs.Jobs.{place_of}
use Rattle.gup_op_fork.specs.Forked.{place_after, birth_after}
use Rattle.gup_op_fork.proofs.Forking.{IsForking, change}
use Rattle.gup_op_fork.proofs.Copying.{frame_taken}
use Rattle.gup_op_fork.proofs.forks.frame_turn.Goals as goal

pub fail_turn-requires-clause-child : goal.fail_turn-requires-clause-child
fail_turn-requires-clause-child c page e is zero =
    c.requires.child.counted page e is (ap (λ (frames : FramesValue). frames.count e.frame) (sym c.in_default.ensures.taken) ∙ zero)

pub returns-in_default : goal.returns-in_default
returns-in_default c =
    let x = c.args in
    let same = c.in_default.ensures.taken in
    let turn = c.fail_turn.ensures (wants_frame x.page) (ap (λ (frames : FramesValue). found_for frames (space_of x.child.now) x.page Any) same ∙ sym c.in_default.ensures.frame) in
    record {
      said = turn.said;
      tells = turn.tells;
      ends = turn.ends;
      is_so =
          subst
          (λ (frames : FramesValue). IsForking
          (change frames (frames_of c.fail_turn.new.frames) (space_of x.parent.now) (space_of c.fail_turn.new.parent) (space_of x.child.now) (space_of c.fail_turn.new.child))
          x.head.now.actor x.proc x.child_no (wants_frame x.page) (place_of (place_after c.fail_turn.result)) (birth_after x.proc c.fail_turn.result) (whats_of turn.said))
          same turn.is_so;
    }

pub returns : goal.returns
returns c =
    let x = c.args in
    record {
      said = silent_said;
      tells = c.silent.ensures;
      ends = refl;
      is_so =
          frame_taken (frames_of x.frames.now) (frames_of c.take_for.new.frames) (space_of x.parent.now) (space_of x.child.now) x.head.now.actor x.proc x.child_no x.page c.in-Some.to
          (sym c.in-Some.ensures.frame) c.in-Some.ensures.taken;
    }
