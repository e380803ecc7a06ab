use Rattle.std.proofs.Common.{refl}
use Rattle.gup_plain.specs.declared.answer.Answer.TheVariants.{Busy}
use Rattle.gup_base.specs.declared.entry.Allowed.TheVariants.{Only}
use Rattle.gup_frames.specs.Frames.{frames_of}
use Rattle.gup_space.specs.Space.{space_of}
use Rattle.gup_spec_events.specs.State.{more}
use Rattle.gup_op_base.specs.Said.{answered_said}
use Rattle.gup_op_move.proofs.Moving.{restore_moved}
use Rattle.gup_op_move.proofs.moves.busy_turn.Goals as goal

pub returns : goal.returns
returns c =
    let x = c.args in
    record {
      said = answered_said (Busy x.count);
      tells = c.answered.ensures;
      ends = refl;
      is_so = λ p zone frames.
          restore_moved (frames_of frames) (space_of x.space.now) x.head.now.actor x.page zone x.entry x.count (space_of c.restore.new.space) (space_of c.set_table.new.self)
          (c.restore.ensures.events x.head.now.actor frames (Only zone) (more x.count)) c.set_table.ensures p;
    }
