use Rattle.std.proofs.Common.{◌≡◌, ◌<◌, length, ◌∙◌, arith}
use Rattle.gup_maps.specs.Table.{pages_of}
use Rattle.gup_maps.proofs.Values.{at-insert, spread-one, length-pages, is_somewhere}
use Rattle.gup_maps.proofs.Ranges.{kept-insert, gap_one}
use Rattle.gup_maps.proofs.table.Table.set.Goals as goal

pub invariant_of-self : goal.invariant_of-self
invariant_of-self g c =
    let rows = c.self.inside.rows in
    let place = rw c.as_slice-rows.ensures.value at c.place_of-place.ensures in
    let none = rw c.as_slice-rows.ensures.value at c.if-has_row.ensures in
    let few = rw (← c.self.view_is) at c.requires in
    let room : length rows < 1024 = few none in
    let gap = gap_one rows c.self.invariant.ordered c.args.page c.place_of-place.result place none in
    rw c.insert.ensures.rows
    (kept-insert rows c.self.invariant.ordered c.args.page 1 c.place_of-place.result c.args.value gap c.self.invariant.numbered (omega arith) (omega arith))

pub returns-then-has_row-clause-at : goal.returns-then-has_row-clause-at
returns-then-has_row-clause-at g c =
    let there = rw (c.as_slice-rows.ensures.value, c.self.view_is) at c.if-has_row.ensures in
    c.set_at.ensures.at c.args.page there

pub returns-then-has_row-clause-len : goal.returns-then-has_row-clause-len
returns-then-has_row-clause-len g c =
    let rows = c.self.inside.rows in
    let len : length (pages_of rows) ≡ length rows = length-pages rows in
    let there = rw c.as_slice-rows.ensures.value at c.if-has_row.ensures in
    let inside : c.place_of-place.result < length (pages_of rows) = there.0 in
    let found = is_somewhere rows c.self.invariant.ordered c.place_of-place.result c.args.page (omega arith) there.1 in
    let some = rw c.self.view_is at found in
    rw some (omega (arith, c.set_at.ensures.len))

pub returns-else-has_row-clause-at : goal.returns-else-has_row-clause-at
returns-else-has_row-clause-at g c =
    let rows = c.self.inside.rows in
    let place = rw c.as_slice-rows.ensures.value at c.place_of-place.ensures in
    rw (← c.self.view_is, c.insert.ensures.rows)
    (at-insert rows c.args.page 1 c.place_of-place.result c.args.value place ∙ spread-one c.args.page _ _)
