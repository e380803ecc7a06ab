use Rattle.std.proofs.Common.{refl, sym, ◌∙◌}
use Rattle.gup_frames.specs.Frames.{frames_of}
use Rattle.gup_plain.specs.declared.answer.Answer.TheVariants as answers
use Rattle.gup_plain.specs.declared.event.PlainEvent.TheVariants as events
use Rattle.gup_space.specs.Space.{space_of}
use Rattle.gup_op_base.specs.Said.{done_said, answered_said}
use Rattle.gup_op_base.proofs.Leading.{on_err, on_ok}
use Rattle.gup_op_pages.proofs.Mapping.{protect_refused, protect_done, rights_mapped}
use Rattle.gup_op_pages.proofs.mappings.protect.Goals as goal

pub returns-then-is_err : goal.returns-then-is_err
returns-then-is_err c =
    let a = c.args in
    let failed = sym c.is_err.ensures.value ∙ c.if-is_err.true in
    record {
      said = answered_said answers.Missing;
      tells = c.answered.ensures;
      ends = refl;
      is_so =
          protect_refused (frames_of a.frames.now) (space_of a.space.now) (space_of c.protect.new.self) a.head.now.actor a.proc a.page a.n a.rights
          (sym c.protect.ensures.hole ∙ failed) (on_err c.protect.result failed c.protect.ensures.err);
    }

pub lower_for-requires-clause-mapped : goal.lower_for-requires-clause-mapped
lower_for-requires-clause-mapped c =
    let a = c.args in
    rights_mapped a.page a.n a.rights (space_of a.space.now) (space_of c.protect.new.self)
    (on_ok c.protect.result (sym c.is_err.ensures.value ∙ c.if-is_err.false) c.protect.ensures.protected) c.requires.tidy.mapped

pub returns : goal.returns
returns c =
    let a = c.args in
    let passed = sym c.is_err.ensures.value ∙ c.if-is_err.false in
    record {
      said = done_said (events.Protect a.head.now.actor a.proc a.page a.n a.rights) answers.Plain;
      tells = c.done.ensures;
      ends = refl;
      is_so =
          protect_done (frames_of a.frames.now) (space_of a.space.now) (space_of c.protect.new.self) (space_of c.lower_for.new.space) a.head.now.actor a.proc a.page a.n a.rights
          (sym c.protect.ensures.hole ∙ passed) (on_ok c.protect.result passed c.protect.ensures.protected) c.lower_for.ensures;
    }
