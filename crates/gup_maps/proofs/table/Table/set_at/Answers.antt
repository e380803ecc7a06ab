use Rattle.std.proofs.Common.{◌∙◌}
use Rattle.gup_maps.proofs.Values.{spread-one}
use Rattle.gup_maps.proofs.Ranges.{run_one}
use Rattle.gup_maps.proofs.table.Table.set_at.Goals as goal

pub returns-clause-at : goal.returns-clause-at
returns-clause-at g c page there =
    let rows = c.self.inside.rows in
    let there' = rw (← c.self.view_is) at there in
    rw (← c.self.view_is)
    (c.fill.ensures.at page (run_one rows c.self.invariant.ordered page c.args.place there') ∙ spread-one page _ _)
