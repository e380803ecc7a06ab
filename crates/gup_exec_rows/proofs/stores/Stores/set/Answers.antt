use Rattle.std.proofs.Common.{ℕ, ap, ◌∙◌}
use Rattle.std.specs.BTreeMap.{BTreeMap}
use Rattle.gup_exec_parts.specs.Actor.{slots_in}
use Rattle.gup_exec_rows.specs.Row.{at}
use Rattle.gup_exec_rows.proofs.RowLemmas.{through_put2}
use Rattle.gup_exec_rows.specs.Stores.{slots_of}
use Rattle.gup_exec_rows.proofs.stores.Stores.set.Goals as goal

pub returns-clause-ok : goal.returns-clause-ok
unfolding slots_of
returns-clause-ok c =
    ap (λ (f : ℕ → BTreeMap ℕ ℕ). λ k. slots_in (f k)) c.put.ensures
    ∙ through_put2 slots_in c.args.a c.in_ok-row.row (at c.args.self.now.rows) c.args.slot c.args.value c.in_ok-row.ensures
