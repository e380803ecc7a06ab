use Rattle.std.proofs.Common.{◌≡◌, ◌-◌, ◌<◌, length, get_or, ◌∙◌, sym, arith}
use Rattle.gup_maps.specs.Table.{pages_of}
use Rattle.gup_maps.proofs.Places.{place_first, place_past}
use Rattle.gup_maps.proofs.Values.{page_of, length-pages}
use Rattle.gup_maps.proofs.table.place_of.Goals as goal

pub returns-then-get-first : goal.returns-then-get-first
returns-then-get-first g c =
    let rows = c.args.rows.now in
    let some : 0 < length rows = omega arith in
    let read : get_or (pages_of rows) 0 0 ≡ c.get-first.result = page_of rows 0 c.index-rows-0.result some ∙ sym c.get-first.ensures.value in
    place_first (pages_of rows) c.requires c.args.page (omega (arith, read))

pub returns-then-last-get : goal.returns-then-last-get
returns-then-last-get g c =
    let rows = c.args.rows.now in
    let last = length rows - 1 in
    let some : last < length rows = omega arith in
    let read : get_or (pages_of rows) last 0 ≡ c.get-last.result =
    page_of rows last c.index-rows-len.result some ∙ sym c.get-last.ensures.value in
    place_past (pages_of rows) c.requires c.args.page last (length rows) (length-pages rows) (omega arith) (omega (arith, read))
