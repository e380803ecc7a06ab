use Rattle.std.proofs.Common.{◌≡◌, ◌⊎◌, List}
use Rattle.gup_plain.specs.Note.{NoteValue}
use Rattle.gup_script.specs.Script.{ScriptValue}
use Rattle.gup_check_front.specs.Judged.{HasJudged, IsJudgedIn, IsPartlyJudged}
use Rattle.gup_check_front.proofs.ToldBytes.{of_trace, of_none, unread_none}
use Rattle.gup_check_front.proofs.run.check_source.Goals as goal

pub returns-in-Ok-clause-verdict : goal.returns-in-Ok-clause-verdict
returns-in-Ok-clause-verdict g c has =
    let trace = c.in-Ok.trace in
    let P : ScriptValue → List NoteValue → Type 0 = IsJudgedIn c.judge_and_write.result.status (g.K.Sink.taken c.args.sink.now) (g.K.Sink.taken c.judge_and_write.new.sink) in
    of_trace (g.S.Source.remaining c.args.source.now) trace.script trace.journal.notes P c.one_trace.ensures c.in-Ok.ensures.trace (c.judge_and_write.ensures.judged has)

pub returns-in-Ok-clause-verdict_part : goal.returns-in-Ok-clause-verdict_part
returns-in-Ok-clause-verdict_part g c six =
    let trace = c.in-Ok.trace in
    let P : ScriptValue → List NoteValue → Type 0 = IsPartlyJudged (g.K.Sink.taken c.args.sink.now) (g.K.Sink.taken c.judge_and_write.new.sink) in
    of_trace (g.S.Source.remaining c.args.source.now) trace.script trace.journal.notes P c.one_trace.ensures c.in-Ok.ensures.trace (c.judge_and_write.ensures.part six)

pub returns-in-Err-Fault-clause-complete : goal.returns-in-Err-Fault-clause-complete
returns-in-Err-Fault-clause-complete g c read_well wrote_well =
    let status = c.refuse.result.status in
    of_none (g.S.Source.remaining c.args.source.now) (λ script notes. HasJudged status ⊎ (status ≡ 7))
    (unread_none (g.S.Source.remaining c.args.source.now) _ _ _ _ c.in-Err-Fault.fault c.traces_have_no_fault.ensures c.in-Err-Fault.field-0-is c.in-Err-Fault.ensures.unread)

pub returns-in-Err-Fault-clause-refused : goal.returns-in-Err-Fault-clause-refused
returns-in-Err-Fault-clause-refused g c three =
    unread_none (g.S.Source.remaining c.args.source.now) _ _ _ _ c.in-Err-Fault.fault c.traces_have_no_fault.ensures c.in-Err-Fault.field-0-is c.in-Err-Fault.ensures.unread

pub returns-in-Err-Fault-clause-verdict_part : goal.returns-in-Err-Fault-clause-verdict_part
returns-in-Err-Fault-clause-verdict_part g c six =
    of_none (g.S.Source.remaining c.args.source.now) (IsPartlyJudged (g.K.Sink.taken c.args.sink.now) (g.K.Sink.taken c.refuse.new.sink))
    (unread_none (g.S.Source.remaining c.args.source.now) _ _ _ _ c.in-Err-Fault.fault c.traces_have_no_fault.ensures c.in-Err-Fault.field-0-is c.in-Err-Fault.ensures.unread)
