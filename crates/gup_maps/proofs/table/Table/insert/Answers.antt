use Rattle.gup_maps.proofs.Ranges.{gap_from_absent}
use Rattle.gup_maps.proofs.table.Table.insert.Goals as goal

pub insert_at-requires-clause-gap : goal.insert_at-requires-clause-gap
insert_at-requires-clause-gap g c =
    let rows = c.self.inside.rows in
    let place = rw c.as_slice.ensures.value at c.place_of-place.ensures in
    let absent = rw (← c.self.view_is) at c.requires.absent in
    rw (← c.self.view_is) (gap_from_absent rows c.self.invariant.ordered c.args.page c.args.n c.place_of-place.result place absent)
