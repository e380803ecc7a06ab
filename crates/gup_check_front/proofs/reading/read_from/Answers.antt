use Rattle.std.proofs.Common.{List, ℕ, subst, ◌≤◌, length}
use Rattle.gup_read_trace.specs.Refusal.{IsTraceRefusal}
use Rattle.gup_spec_grammar.specs.declared.fault.ReadRefusal.{ReadRefusal}
use Rattle.gup_spec_trace.specs.Trace.{IsTrace, HasTraceFault, most_bytes}
use Rattle.gup_front.proofs.ReadBytes.{loses_first}
use Rattle.gup_check_front.proofs.ToldBytes.{read_as, refused_for}
use Rattle.gup_check_front.proofs.reading.read_from.Goals as goal

pub returns-in-Ok-read_trace-clause-trace : goal.returns-in-Ok-read_trace-clause-trace
returns-in-Ok-read_trace-clause-trace g c =
    let trace = c.in-Ok-read_trace.trace in
    let P : List ℕ → Type 0 = λ v. IsTrace v trace.script trace.journal.notes in
    let Q : List ℕ → Type 0 = λ v. length v ≤ most_bytes in
    read_as (g.S.Source.remaining c.args.source.now) c.in-Ok.text.items trace.script trace.journal.notes c.in-Ok.ensures.bytes (subst P c.as_slice.ensures.value c.in-Ok-read_trace.ensures.found) (subst Q c.as_slice.ensures.value c.in-Ok-read_trace.ensures.fits)

pub returns-in-Ok-read_trace-clause-reading : goal.returns-in-Ok-read_trace-clause-reading
returns-in-Ok-read_trace-clause-reading g c = loses_first 67108865 (g.S.Source.remaining c.args.source.now) _ c.in-Ok.ensures.rest

pub returns-in-Err-Fault-clause-unread : goal.returns-in-Err-Fault-clause-unread
returns-in-Err-Fault-clause-unread g c =
    let P : ReadRefusal → Type 0 = λ r. IsTraceRefusal c.as_slice.result.now r in
    let Q : List ℕ → Type 0 = λ v. HasTraceFault v c.in-Err-Fault.fault in
    let refused = subst Q c.as_slice.ensures.value (subst P c.in-Err-Fault.field-0-is c.in-Err-Fault.ensures.refused) in
    refused_for (g.S.Source.remaining c.args.source.now) c.in-Ok.text.items c.in-Err-Fault.fault c.in-Ok.ensures.bytes refused

pub returns-in-Err-Fault-clause-reading : goal.returns-in-Err-Fault-clause-reading
returns-in-Err-Fault-clause-reading g c = loses_first 67108865 (g.S.Source.remaining c.args.source.now) _ c.in-Ok.ensures.rest

pub returns-clause-reading : goal.returns-clause-reading
returns-clause-reading g c = loses_first 67108865 (g.S.Source.remaining c.args.source.now) _ c.in-Ok.ensures.rest
