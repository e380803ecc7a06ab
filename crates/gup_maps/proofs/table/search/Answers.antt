use Rattle.std.proofs.Common.{◌≡◌, ℕ, ◌+◌, ◌-◌, ◌/◌, ◌<◌, ◌≤◌, length, get_or, ap, sym, ◌∙◌, ⊎_elim, arith}
use Rattle.std.proofs.lemmas.Bool.{cases_lt}
use Rattle.std.proofs.lemmas.Bool.Decides.{nat_tests}
use Rattle.gup_maps.specs.Table.{pages_of}
use Rattle.gup_maps.proofs.Places.{low_before, low_behind}
use Rattle.gup_maps.proofs.Values.{page_of, length-pages}
use Rattle.gup_maps.proofs.table.search.Goals as goal

pub loop-size-preserved : goal.loop-size-preserved
loop-size-preserved g c =
    let rows = c.args.rows.now in
    let half = c.loop-size.size - c.loop-size.size / 2 in
    let middle = c.loop-size.low + half - 1 in
    let len : length (pages_of rows) ≡ length rows = length-pages rows in
    let page : get_or (pages_of rows) middle 0 ≡ c.index-rows-low.result.0 =
    page_of rows middle c.index-rows-low.result (omega arith) ∙ ap (λ (r : ℕ × g.row.V.Denot). r.0) (sym c.index-rows-low.is) in
    ⊎_elim
    (λ (below : get_or (pages_of rows) middle 0 < c.args.page).
    let one : c.is_below.result ≡ 1 = grind (arith, nat_tests, c.is_below.ensures) in
    rw one
    (record {
      within = omega arith;
      before = λ i h. low_before (pages_of rows) c.requires c.args.page c.loop-size.low half (omega arith) (omega arith) below i (omega arith);
      behind = λ i above h. c.loop-size.invariant.behind i (omega arith) h;
    }))
    (λ (behind : c.args.page ≤ get_or (pages_of rows) middle 0).
    let none : c.is_below.result ≡ 0 = grind (arith, nat_tests, c.is_below.ensures) in
    rw none
    (record {
      within = omega arith;
      before = λ i h. c.loop-size.invariant.before i (omega arith);
      behind = λ i above h.
          low_behind (pages_of rows) c.requires c.args.page c.loop-size.low half (c.loop-size.size / 2) (omega arith) (omega arith) behind i (omega arith) h;
    }))
    (cases_lt (get_or (pages_of rows) middle 0) c.args.page)
