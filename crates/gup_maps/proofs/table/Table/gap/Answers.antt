use Rattle.std.proofs.Common.{◌≡◌, ◌+◌, ◌<◌, ◌≤◌, get_or, length, sym, ◌∙◌, arith}
use Rattle.gup_maps.specs.Table.{pages_of, IsGap}
use Rattle.gup_maps.proofs.Values.{page_of, length-pages}
use Rattle.gup_maps.proofs.Ranges.{present_at, gap_from_next, gap_absent}
use Rattle.gup_maps.proofs.table.Table.gap.Goals as goal
use Rattle.gup_maps.proofs.table.Table.gap.Goals.{else-place-rows-via-then-place-rows+else-get-from, else-place-rows-via-else-place-rows}

pub returns-then-get-from : goal.returns-then-get-from
returns-then-get-from g c =
    let rows = c.self.inside.rows in
    let i = c.place_of-place.result in
    let len : length (pages_of rows) ≡ length rows = length-pages rows in
    let place = rw c.as_slice-rows.ensures.value at c.place_of-place.ensures in
    let inside = rw c.as_slice-rows.ensures.value at c.if-place-rows.true in
    let slice_page : get_or (pages_of c.as_slice-rows.result.now) i 0 ≡ c.get.result =
    page_of c.as_slice-rows.result.now i c.index-rows-place.result c.if-place-rows.true ∙ sym c.get.ensures.value in
    let page = rw c.as_slice-rows.ensures.value at slice_page in
    rw (← c.self.view_is)
    (present_at rows c.self.invariant.ordered c.args.page c.args.n i inside (place.behind i (omega arith) (omega arith)) (omega (arith, page)))

pub returns-else-place-rows : goal.returns-else-place-rows
returns-else-place-rows g c =
    let rows = c.self.inside.rows in
    let i = c.place_of-place.result in
    let place = rw c.as_slice-rows.ensures.value at c.place_of-place.ensures in
    let next : i < length rows → c.args.page + c.args.n ≤ get_or (pages_of rows) i 0 =
    λ inside.
    elim c.else-place-rows.branch [
      | else-place-rows-via-then-place-rows+else-get-from w ↦
          let slice_page : get_or (pages_of c.as_slice-rows.result.now) i 0 ≡ w.get.result =
          page_of c.as_slice-rows.result.now i w.index-rows-place.result w.if-place-rows.true ∙ sym w.get.ensures.value in
          let page = rw c.as_slice-rows.ensures.value at slice_page in
          omega (arith, page)
      | else-place-rows-via-else-place-rows w ↦
          let past = rw c.as_slice-rows.ensures.value at w.if-place-rows.false in
          absurd (omega (arith, past))
    ] in
    let gap : IsGap (pages_of rows) c.args.page c.args.n i = gap_from_next rows c.self.invariant.ordered c.args.page c.args.n i place next in
    rw (← c.self.view_is) (gap_absent rows c.self.invariant.ordered c.args.page c.args.n i gap, gap)
