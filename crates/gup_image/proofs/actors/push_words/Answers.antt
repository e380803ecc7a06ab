use Rattle.std.proofs.Common.{◌<◌, ◌∙◌, ◌++◌, ap, length, get_or, refl, arith}
use Rattle.std.proofs.lemmas.Option.{slice_get-get_or}
use Rattle.gup_image.specs.Image.{stored_fact}
use Rattle.gup_image.proofs.Gathered.{along-at}
use Rattle.gup_image.proofs.actors.push_words.Goals as goal

pub loop-slot-preserved : goal.loop-slot-preserved
loop-slot-preserved c =
    let within : c.loop-slot.slot < length c.args.store.now = omega (arith, c.loop-slot-test.true, c.words-slot-end.ensures.words) in
    along-at (stored_fact c.args.actor) c.args.store.now c.loop-slot.slot c.loop-slot.slot (get_or c.args.store.now c.loop-slot.slot 0) _ _ _ c.loop-slot.invariant refl
    (slice_get-get_or c.args.store.now c.loop-slot.slot 0 within)
    (c.in_ok-push_word.ensures ∙ ap (λ v. c.loop-slot.facts.items ++ stored_fact c.args.actor c.loop-slot.slot v) c.word.ensures)
