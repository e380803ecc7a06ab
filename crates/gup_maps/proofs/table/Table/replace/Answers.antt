use Rattle.gup_maps.proofs.table.Table.replace.Goals as goal

pub returns-clause-at : goal.returns-clause-at
returns-clause-at g c =
    let run = rw c.as_slice-rows.ensures.value at c.if-not-has_run.ensures.0 in
    rw (← c.self.view_is) (c.fill.ensures.at c.args.page run)
