use Rattle.std.proofs.Common.{◌∙◌, ap}
use Rattle.gup_exec_plain.specs.Parts.{state_of}
use Rattle.gup_spec_journal.specs.Place.{process_of}
use Rattle.gup_check_pages.specs.Mapped.{mapped_of}
use Rattle.gup_check_pages.specs.Passing.{number_of}
use Rattle.gup_check_judge.proofs.Shown.{passes_told}
use Rattle.gup_check_judge.proofs.fitting.passes.Goals as goal

pub returns : goal.returns
returns c =
    passes_told (state_of c.args.kept.now.plain) (mapped_of c.args.kept.now.mapped) c.args.progress.now.said c.args.progress.now.next
    (number_of c.process_of.result) (process_of c.args.script.now c.args.note.now.actor) c.args.op.now c.args.note.now.what c.what.result c.passes_right.result
    (c.process_of.ensures.number ∙ ap (process_of c.args.script.now) c.actor.ensures) c.what.ensures c.passes_right.ensures
