use Rattle.std.proofs.Common.{◌≤◌, ◌+◌, length, arith, length-drop}
use Rattle.gup_maps.proofs.Shifted.{drop-remove}
use Rattle.gup_maps.proofs.rows.Rows.remove.Goals as goal

pub returns-then-place-gt0-clause-rows : goal.returns-then-place-gt0-clause-rows
returns-then-place-gt0-clause-rows g c =
    let items = c.self.inside.items.items in
    let start = c.self.inside.start in
    let inside = rw (← c.self.view_is) at c.requires in
    let within : start + c.args.place ≤ length items = omega (arith, inside, length-drop start items) in
    rw (← c.self.view_is, c.remove.ensures.items) (drop-remove items start c.args.place within)
