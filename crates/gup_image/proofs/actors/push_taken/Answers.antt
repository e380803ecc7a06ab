use Rattle.std.proofs.Common.{◌≡◌, ◌++◌, ◌∙◌, ap, ℕ, List, [], ◌∷◌, Some, slice_get, length, refl, arith}
use Rattle.arrayvec.specs.ArrayVec.{ArrayVec}
use Rattle.gup_image.specs.declared.fact.Fact.TheVariants.{Taken}
use Rattle.gup_image.specs.Gathered.{along}
use Rattle.std.proofs.lemmas.Option.{slice_get_read}
use Rattle.gup_image.proofs.Gathered.{along-at}
use Rattle.gup_image.proofs.actors.push_taken.Goals as goal

pub loop-a-preserved : goal.loop-a-preserved
loop-a-preserved c =
    let here : slice_get c.args.taken.now.items c.loop-a.a ≡ Some c.index.result.now =
    slice_get_read c.args.taken.now.items (length c.args.taken.now.items) c.loop-a.a c.index.result.now refl (omega (arith, c.loop-a-test.true, c.len-a-end.ensures)) c.index.ensures in
    along-at (λ a (pages : ArrayVec ℕ). along (λ i frame. Taken a i frame ∷ []) pages.items) c.args.taken.now.items c.loop-a.a c.actor_no.result c.index.result.now _ _ _ c.loop-a.invariant c.actor_no.ensures here
    (c.in_ok-push_taken_by.ensures ∙ ap (λ (xs : List ℕ). c.loop-a.facts.items ++ along (λ i frame. Taken c.actor_no.result i frame ∷ []) xs) c.as_slice.ensures.value)
