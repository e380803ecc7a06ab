use Rattle.std.proofs.Common.{◌≡◌, ℕ, ◌≤◌, ◌+◌, ◌∷◌, [], length, arith, add-zero, length-drop}
use Rattle.std.specs.List.{insert}
use Rattle.gup_maps.proofs.Shifted.{drop-insert}
use Rattle.gup_maps.proofs.rows.Rows.insert.Goals as goal

pub returns-else-at-len : goal.returns-else-at-len
returns-else-at-len g c =
    let items = c.make_room-self-inside.new.items.items in
    let start = c.make_room-self-inside.result in
    let place = rw (← c.self.view_is, ← c.make_room-self-inside.ensures.rows) at c.requires.place in
    let within : start + c.args.place ≤ length items = omega (arith, place, length-drop start items) in
    let row : ℕ × g.row.V.Denot = (c.args.page, c.args.value) in
    let done : c.insert.new.self.items ≡ insert items (start + c.args.place) row = grind (arith, c.insert.ensures.items, c.insert.ensures.succeeds) in
    record {
      rows =
          rw (← c.self.view_is, ← c.make_room-self-inside.ensures.rows, done, add-zero c.args.page)
          (drop-insert items start c.args.place within (row ∷ []));
    }
