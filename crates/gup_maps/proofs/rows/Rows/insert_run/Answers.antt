use Rattle.std.proofs.Common.{◌≤◌, ◌+◌, length, arith, length-drop}
use Rattle.gup_maps.specs.Table.{run}
use Rattle.gup_maps.proofs.Shifted.{drop-insert}
use Rattle.gup_maps.proofs.rows.Rows.insert_run.Goals as goal

pub returns : goal.returns
returns g c =
    let items = c.make_room-self-inside.new.items.items in
    let start = c.make_room-self-inside.result in
    let place = rw (← c.self.view_is, ← c.make_room-self-inside.ensures.rows) at c.requires.place in
    let within : start + c.args.place ≤ length items = omega (arith, place, length-drop start items) in
    record {
      rows =
          rw (← c.self.view_is, ← c.make_room-self-inside.ensures.rows, c.insert_run.ensures.rows)
          (drop-insert items start c.args.place within (run c.args.page c.args.n c.args.value));
    }
