use Rattle.std.proofs.Common.{refl}
use Rattle.gup_plain.specs.declared.answer.Answer.TheVariants as answers
use Rattle.gup_space.specs.Shows.{change_of}
use Rattle.gup_fault.proofs.ReadyPages.{read_only_still}
use Rattle.gup_fault.proofs.ready.ready_read.Goals as goal

pub returns-in_err-fill-clause-read_only : goal.returns-in_err-fill-clause-read_only
returns-in_err-fill-clause-read_only c =
    read_only_still (change_of c.args.frames.now c.fill.new.frames c.args.space.now c.fill.new.space) c.args.page (c.in_err-fill.ensures.fault.unchanged answers.NoFrame refl)
