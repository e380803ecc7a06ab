use Rattle.std.proofs.Common.{◌≡◌, ◌+◌, ◌-◌, ◌<◌, ◌≤◌, length, get_or, eqb, refl, ◌∙◌, sym, arith}
use Rattle.gup_maps.specs.Table.{pages_of}
use Rattle.gup_maps.proofs.Values.{page_of, length-pages}
use Rattle.gup_maps.proofs.Ranges.{run_or_absent, run_by_last}
use Rattle.gup_maps.proofs.table.has_run.Goals as goal

pub returns-then-rows-place : goal.returns-then-rows-place
returns-then-rows-place g c =
    let rows = c.args.rows.now in
    let len : length (pages_of rows) ≡ length rows = length-pages rows in
    run_or_absent rows c.requires.ordered c.args.page c.args.n c.args.place c.requires.place
    (λ run. let inside : c.args.place + c.args.n ≤ length (pages_of rows) = run.within in omega arith)

pub returns : goal.returns
returns g c =
    let rows = c.args.rows.now in
    let some : 0 < c.args.n = omega arith in
    let last : c.args.n - 1 + 1 ≡ c.args.n = omega arith in
    let place = c.args.place + (c.from-count.result - 1) in
    let same : place ≡ c.args.place + (c.args.n - 1) = omega arith in
    let read : get_or (pages_of rows) place 0 ≡ c.get.result =
    page_of rows place c.index-rows-place.result (omega arith) ∙ sym c.get.ensures.value in
    let page = rw same at read in
    let sum : c.args.page + (c.args.n - 1) ≡ c.get-2.result + c.from.result = omega arith in
    let all = run_by_last rows c.requires.ordered c.args.page (c.args.n - 1) c.args.place c.requires.place (omega arith) in
    rw last at (all (eqb c.get.result (c.get-2.result + c.from.result)) (rw (page, sum) refl))
