use Rattle.std.proofs.Common.{◌≡◌, ◌<◌, [], ◌∷◌, Some, slice_get, length, refl, arith}
use Rattle.std.proofs.lemmas.Option.{slice_get_read}
use Rattle.gup_image.specs.declared.fact.Fact.TheVariants.{Taken}
use Rattle.gup_image.proofs.Gathered.{along-at}
use Rattle.gup_image.proofs.actors.push_taken_by.Goals as goal

pub loop-place-preserved : goal.loop-place-preserved
loop-place-preserved c =
    let within : c.loop-place.place < length c.args.frames.now = omega (arith, c.loop-place-test.true) in
    let here : slice_get c.args.frames.now c.loop-place.place ≡ Some c.index-frames-place.result =
    slice_get_read c.args.frames.now (length c.args.frames.now) c.loop-place.place c.index-frames-place.result refl within c.index-frames-place.is in
    along-at (λ i frame. Taken c.args.actor i frame ∷ []) c.args.frames.now c.loop-place.place c.loop-place.place c.index-frames-place.result _ _ _ c.loop-place.invariant refl here c.in_ok-put.ensures
