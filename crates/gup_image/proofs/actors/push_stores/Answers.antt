use Rattle.std.proofs.Common.{◌≡◌, Some, slice_get, length, refl, arith}
use Rattle.gup_image.specs.Image.{store_facts}
use Rattle.std.proofs.lemmas.Option.{slice_get_read}
use Rattle.gup_image.proofs.Gathered.{along-at}
use Rattle.gup_image.proofs.actors.push_stores.Goals as goal

pub loop-a-preserved : goal.loop-a-preserved
loop-a-preserved c =
    let here : slice_get c.args.stores.now.items c.loop-a.a ≡ Some c.index.result.now =
    slice_get_read c.args.stores.now.items (length c.args.stores.now.items) c.loop-a.a c.index.result.now refl (omega (arith, c.loop-a-test.true, c.len-a-end.ensures)) c.index.ensures in
    along-at store_facts c.args.stores.now.items c.loop-a.a c.actor_no.result c.index.result.now _ _ _ c.loop-a.invariant c.actor_no.ensures here c.in_ok-push_store.ensures
