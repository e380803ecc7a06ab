use Rattle.std.proofs.Common.{Option, IsSome, refl, subst}
use Rattle.gup_base.specs.declared.entry.Allowed.TheVariants.{Only}
use Rattle.gup_base.specs.declared.entry.Rights.{Rights}
use Rattle.gup_frames.specs.Frames.{frames_of}
use Rattle.gup_space.specs.Space.{space_of}
use Rattle.gup_op_base.specs.Said.{silent_said}
use Rattle.gup_op_move.proofs.Moving.{clear_moved}
use Rattle.gup_op_move.proofs.moves.first_turn.Goals as goal

pub returns : goal.returns
returns c =
    let x = c.args in
    record {
      said = silent_said;
      tells = c.silent.ensures;
      ends = refl;
      is_so = λ p zone frames.
          clear_moved (frames_of frames) (space_of x.space.now) x.head.now.actor x.page zone c.clear-entry.result (space_of c.clear-entry.new.space) (space_of c.set_table.new.self)
          (subst (λ (o : Option Rights). IsSome o) c.rights_at.ensures c.if-is_none.ensures) c.clear-entry.ensures.entry
          (c.clear-entry.ensures.events x.head.now.actor frames (Only zone)) c.set_table.ensures p;
    }
