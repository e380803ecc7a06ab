use Rattle.std.proofs.Common.{◌≡◌, ◌<◌, length, arith}
use Rattle.gup_maps.specs.Table.{pages_of}
use Rattle.gup_maps.proofs.Values.{somewhere, length-pages}
use Rattle.gup_maps.proofs.table.Table.value_at.Goals as goal

pub returns : goal.returns
returns g c page there =
    let rows = c.self.inside.rows in
    let there' = rw (← c.self.view_is) at there in
    let len : length (pages_of rows) ≡ length rows = length-pages rows in
    let inside : c.args.place < length (pages_of rows) = there'.0 in
    rw (← c.self.view_is, c.as_slice.ensures.value)
    (somewhere rows c.self.invariant.ordered c.args.place page (omega arith) there'.1 c.index-as_slice-place.result)
