use Rattle.std.proofs.lemmas.Result.{err_from_is_err_and}
use Rattle.gup_read_trace.proofs.Refused.{notes_refused}
use Rattle.gup_read_trace.proofs.read.read_parted.Goals as goal

pub returns-in_err-journal-clause-refused : goal.returns-in_err-journal-clause-refused
returns-in_err-journal-clause-refused c = λ text few h.
    let refusal = c.in_err-journal.field-0.0 in
    let p = err_from_is_err_and c.from_residual-in_err-journal.result c.from_residual-in_err-journal.ensures.1 in
    rw (p.1, p.2) (notes_refused text c.args.parted c.in_ok-script.script refusal few h c.in_ok-script.ensures.script c.in_err-journal.ensures.refused)
