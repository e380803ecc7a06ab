use Rattle.std.proofs.Common.{◌≡◌, ◌<◌, length, sym, arith}
use Rattle.gup_maps.specs.Table.{pages_of}
use Rattle.gup_maps.proofs.Values.{somewhere, at-remove, length-pages}
use Rattle.gup_maps.proofs.Ranges.{kept-remove}
use Rattle.gup_maps.proofs.table.Table.remove.Goals as goal

pub invariant_of-self : goal.invariant_of-self
invariant_of-self g c =
    let rows = c.self.inside.rows in
    let place = rw c.as_slice-rows.ensures.value at c.place_of-place.ensures in
    let there = rw c.as_slice-rows.ensures.value at c.if-has_row.ensures in
    rw c.remove.ensures.rows
    (kept-remove rows c.self.invariant.ordered c.args.page c.place_of-place.result c.self.invariant place there)

pub returns-then-has_row-clause-value : goal.returns-then-has_row-clause-value
returns-then-has_row-clause-value g c =
    let rows = c.self.inside.rows in
    let len : length (pages_of rows) ≡ length rows = length-pages rows in
    let there = rw c.as_slice-rows.ensures.value at c.if-has_row.ensures in
    let inside : c.place_of-place.result < length (pages_of rows) = there.0 in
    let found = somewhere rows c.self.invariant.ordered c.place_of-place.result c.args.page (omega arith) there.1 c.remove.result in
    rw (← c.self.view_is) (rw (← c.remove.ensures.value) at (sym found))

pub returns-then-has_row-clause-at : goal.returns-then-has_row-clause-at
returns-then-has_row-clause-at g c =
    let rows = c.self.inside.rows in
    let place = rw c.as_slice-rows.ensures.value at c.place_of-place.ensures in
    let there = rw c.as_slice-rows.ensures.value at c.if-has_row.ensures in
    rw (← c.self.view_is, c.remove.ensures.rows) (at-remove rows c.args.page c.place_of-place.result c.self.invariant.ordered place there)
