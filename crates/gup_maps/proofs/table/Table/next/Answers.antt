use Rattle.gup_maps.proofs.Values.{page_of}
use Rattle.gup_maps.proofs.Ranges.{next_is, none_from}
use Rattle.gup_maps.proofs.table.Table.next.Goals as goal

pub returns-then-place-rows : goal.returns-then-place-rows
returns-then-place-rows g c =
    let rows = c.self.inside.rows in
    let place = rw c.as_slice-rows.ensures.value at c.place_of-place.ensures in
    let inside = rw c.as_slice-rows.ensures.value at c.if-place-rows.true in
    rw (← c.self.view_is, c.as_slice-rows.ensures.value, ← page_of rows c.place_of-place.result c.index-rows-place.result inside)
    (next_is rows c.self.invariant.ordered c.args.from c.place_of-place.result place inside)

pub returns-else-place-rows : goal.returns-else-place-rows
returns-else-place-rows g c =
    let rows = c.self.inside.rows in
    let place = rw c.as_slice-rows.ensures.value at c.place_of-place.ensures in
    let past = rw c.as_slice-rows.ensures.value at c.if-place-rows.false in
    rw (← c.self.view_is) (none_from rows c.self.invariant.ordered c.args.from c.place_of-place.result place past)
