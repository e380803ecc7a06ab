use Rattle.std.proofs.Common.{true, false, sym, ap, ◌∙◌, refl}
use Rattle.gup_frames.specs.Frames.{frames_of}
use Rattle.gup_space.specs.Space.{space_of}
use Rattle.gup_fork.specs.Forks.{copies_frame}
use Rattle.gup_op_base.specs.Said.{silent_said}
use Rattle.gup_op_fork.proofs.Forking.{count_turned}
use Rattle.gup_op_fork.proofs.forks.count_turn.Goals as goal

pub returns-then-copied : goal.returns-then-copied
returns-then-copied c p d from child e found entry frame =
    let a = c.args in
    let is = sym c.if-copied.true ∙ c.is_copied-copied.ensures ∙ ap (copies_frame (frames_of a.frames.now) (space_of a.parent.now)) (sym frame) in
    record {
      said = silent_said;
      tells = c.silent.ensures;
      ends = refl;
      is_so =
          count_turned (frames_of a.frames.now) (space_of a.parent.now) (space_of c.set_table.new.self) (space_of child) a.head.now.actor p d from a.page e true
          found entry is c.set_table.ensures;
    }

pub returns-else-copied : goal.returns-else-copied
returns-else-copied c p d from child e found entry frame =
    let a = c.args in
    let is = sym c.if-copied.false ∙ c.is_copied-copied.ensures ∙ ap (copies_frame (frames_of a.frames.now) (space_of a.parent.now)) (sym frame) in
    record {
      said = silent_said;
      tells = c.silent.ensures;
      ends = refl;
      is_so =
          count_turned (frames_of a.frames.now) (space_of a.parent.now) (space_of c.set_table.new.self) (space_of child) a.head.now.actor p d from a.page e false
          found entry is c.set_table.ensures;
    }
