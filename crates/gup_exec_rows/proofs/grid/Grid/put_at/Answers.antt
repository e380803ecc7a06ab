use Rattle.std.proofs.Common.{ℕ, ap, ◌∙◌}
use Rattle.std.specs.BTreeMap.{get, BTreeMap}
use Rattle.std.specs.Ordering.{nat_cmp}
use Rattle.gup_exec_rows.specs.Grid.{found}
use Rattle.gup_exec_rows.specs.Row.{at}
use Rattle.gup_exec_rows.proofs.RowLemmas.{through_put2}
use Rattle.gup_exec_rows.proofs.grid.Grid.put_at.Goals as goal

pub returns : goal.returns
unfolding found
returns g c =
    ap (λ (f : ℕ → BTreeMap ℕ g.row.V.Denot). λ q. get nat_cmp (f q)) c.put.ensures
    ∙ through_put2 (get nat_cmp) c.args.p c.args.row (at c.args.self.now.rows) c.args.page c.args.value c.requires
