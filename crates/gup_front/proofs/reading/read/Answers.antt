use Rattle.std.proofs.Common.{List, ℕ, subst}
use Rattle.gup_spec_grammar.specs.declared.fault.ReadRefusal.{ReadRefusal}
use Rattle.gup_spec_grammar.specs.Fault.{HasFault, IsRefusalOf}
use Rattle.gup_spec_grammar.specs.Grammar.{Accepts}
use Rattle.gup_front.proofs.ReadBytes.{told_text, told_script, told_refused, loses_first}
use Rattle.gup_front.proofs.reading.read.Goals as goal

pub returns-in-Ok-read_script-clause-accepted : goal.returns-in-Ok-read_script-clause-accepted
returns-in-Ok-read_script-clause-accepted g c =
    let P : List ℕ → Type 0 = λ v. Accepts v c.in-Ok-read_script.script in
    subst P c.as_slice.ensures.value c.in-Ok-read_script.ensures.script

pub returns-in-Ok-read_script-clause-text : goal.returns-in-Ok-read_script-clause-text
returns-in-Ok-read_script-clause-text g c =
    let s = c.in-Ok-read_script.script in
    let P : List ℕ → Type 0 = λ v. Accepts v s in
    told_text (g.S.Source.remaining c.args.source.now) c.in-Ok.text.items s c.in-Ok.ensures.bytes (subst P c.as_slice.ensures.value c.in-Ok-read_script.ensures.script)

pub returns-in-Ok-read_script-clause-script : goal.returns-in-Ok-read_script-clause-script
returns-in-Ok-read_script-clause-script g c =
    let s = c.in-Ok-read_script.script in
    let P : List ℕ → Type 0 = λ v. Accepts v s in
    told_script (g.S.Source.remaining c.args.source.now) c.in-Ok.text.items s c.in-Ok.ensures.bytes (subst P c.as_slice.ensures.value c.in-Ok-read_script.ensures.script)

pub returns-in-Err-Fault-clause-unread : goal.returns-in-Err-Fault-clause-unread
returns-in-Err-Fault-clause-unread g c =
    let P : ReadRefusal → Type 0 = λ r. IsRefusalOf c.as_slice.result.now r in
    let Q : List ℕ → Type 0 = λ v. HasFault v c.in-Err-Fault.fault in
    let refused = subst Q c.as_slice.ensures.value (subst P c.in-Err-Fault.field-0-is c.in-Err-Fault.ensures.refused) in
    told_refused (g.S.Source.remaining c.args.source.now) c.in-Ok.text.items c.in-Err-Fault.fault c.in-Ok.ensures.bytes refused

pub returns-in-Ok-read_script-clause-reading : goal.returns-in-Ok-read_script-clause-reading
returns-in-Ok-read_script-clause-reading g c = loses_first 1048577 (g.S.Source.remaining c.args.source.now) _ c.in-Ok.ensures.rest

pub returns-in-Err-Fault-clause-reading : goal.returns-in-Err-Fault-clause-reading
returns-in-Err-Fault-clause-reading g c = loses_first 1048577 (g.S.Source.remaining c.args.source.now) _ c.in-Ok.ensures.rest

pub returns-clause-reading : goal.returns-clause-reading
returns-clause-reading g c = loses_first 1048577 (g.S.Source.remaining c.args.source.now) _ c.in-Ok.ensures.rest
