use Rattle.std.proofs.Common.{◌≡◌, ◌⊎◌}
use Rattle.gup_check_front.proofs.ToldBytes.{of_none, unread_none}
use Rattle.gup_picture.proofs.Traces.{few_notes, named_notes}
use Rattle.gup_picture.proofs.top.picture.Goals as goal

pub returns-in_default-clause-read_through : goal.returns-in_default-clause-read_through
returns-in_default-clause-read_through g c command five seven = absurd (c.wanted_in.ensures.none c.in_default.is command)

pub draw_and_write-requires-clause-few : goal.draw_and_write-requires-clause-few
draw_and_write-requires-clause-few g c =
    few_notes (g.S.Source.remaining c.args.source.now) c.in-Ok.trace.script c.in-Ok.trace.journal.notes c.in-Ok.ensures.trace

pub draw_and_write-requires-clause-named : goal.draw_and_write-requires-clause-named
draw_and_write-requires-clause-named g c =
    named_notes (g.S.Source.remaining c.args.source.now) c.in-Ok.trace.script c.in-Ok.trace.journal.notes c.in-Ok.ensures.trace

pub returns-in-Err-Fault-clause-complete : goal.returns-in-Err-Fault-clause-complete
returns-in-Err-Fault-clause-complete g c command read_well wrote_well =
    let status = c.refuse.result.status in
    of_none (g.S.Source.remaining c.args.source.now) (λ script notes. (status ≡ 0) ⊎ (status ≡ 7))
    (unread_none (g.S.Source.remaining c.args.source.now) _ _ _ _ c.in-Err-Fault.fault c.traces_have_no_fault.ensures c.in-Err-Fault.field-0-is c.in-Err-Fault.ensures.unread)

pub returns-in-Err-Fault-clause-refused : goal.returns-in-Err-Fault-clause-refused
returns-in-Err-Fault-clause-refused g c three =
    unread_none (g.S.Source.remaining c.args.source.now) _ _ _ _ c.in-Err-Fault.fault c.traces_have_no_fault.ensures c.in-Err-Fault.field-0-is c.in-Err-Fault.ensures.unread
