use Rattle.gup_maps.proofs.Values.{at-insert}
use Rattle.gup_maps.proofs.Ranges.{kept-insert, length-inserted}
use Rattle.gup_maps.proofs.table.Table.insert_at.Goals as goal

pub invariant_of-self : goal.invariant_of-self
invariant_of-self g c =
    let rows = c.self.inside.rows in
    let gap = rw (← c.self.view_is) at c.requires.gap in
    let few = rw (← c.self.view_is) at c.requires.room in
    rw c.insert_run.ensures.rows
    (kept-insert rows c.self.invariant.ordered c.args.page c.args.n c.args.place c.args.value gap c.self.invariant.numbered c.requires.below few)

pub returns-clause-at : goal.returns-clause-at
returns-clause-at g c =
    let rows = c.self.inside.rows in
    let gap = rw (← c.self.view_is) at c.requires.gap in
    rw (← c.self.view_is, c.insert_run.ensures.rows) (at-insert rows c.args.page c.args.n c.args.place c.args.value gap.stands)

pub returns-clause-len : goal.returns-clause-len
returns-clause-len g c =
    let rows = c.self.inside.rows in
    let gap = rw (← c.self.view_is) at c.requires.gap in
    rw (← c.self.view_is, c.insert_run.ensures.rows)
    (length-inserted rows c.self.invariant.ordered c.args.page c.args.n c.args.place c.args.value gap.stands.within)
