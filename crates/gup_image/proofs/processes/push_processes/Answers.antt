use Rattle.std.proofs.Common.{◌≡◌, ◌<◌, ◌++◌, ◌∙◌, ap, sym, Option, Some, slice_get, length, refl, arith}
use Rattle.std.proofs.lemmas.Option.{slice_get_read}
use Rattle.gup_space.specs.Space.{SpaceParts}
use Rattle.gup_op_waits.specs.declared.births.Birth.{Birth}
use Rattle.gup_image.specs.Image.{born_facts}
use Rattle.gup_image.proofs.Gathered.{along-at}
use Rattle.gup_image.proofs.processes.push_processes.Goals as goal

pub loop-p-preserved : goal.loop-p-preserved
loop-p-preserved c =
    let births = c.args.parts.now.births.items in
    let spaces = c.args.parts.now.spaces.items in
    let p = c.loop-p.p in
    let within : p < length spaces = omega (arith, c.loop-p-test.true, c.len-p-end.ensures) in
    let born : slice_get births p ≡ Some c.index.result.now =
    slice_get_read births (length births) p c.index.result.now refl (omega (arith, within, c.requires.births)) c.index.ensures in
    let here : slice_get spaces p ≡ Some c.index-in-loop-p.result.now =
    slice_get_read spaces (length spaces) p c.index-in-loop-p.result.now refl within c.index-in-loop-p.ensures in
    let is_born : slice_get births c.proc_no.result ≡ Some c.index.result.now = ap (slice_get births) c.proc_no.ensures ∙ born in
    along-at (λ q (space : SpaceParts). born_facts c.args.tables q (slice_get births q) space) spaces p c.proc_no.result c.index-in-loop-p.result.now _ _ _ c.loop-p.invariant c.proc_no.ensures here
    (c.in_ok-push_process.ensures
    ∙ ap (λ (o : Option Birth). c.loop-p.facts.items ++ born_facts c.args.tables c.proc_no.result o c.index-in-loop-p.result.now) (sym is_born))
