use Rattle.std.proofs.Common.{ℕ, ◌↔◌, Option, IsTrue, subst}
use Rattle.gup_base.specs.declared.entry.Entry.{Entry}
use Rattle.gup_spec_events.specs.Event.{AreGone}
use Rattle.gup_exec_rows.proofs.grid.are_gone.Goals as goal

pub returns : goal.returns
returns c = subst (λ (f : ℕ → Option Entry). IsTrue c.is_gone.result ↔ AreGone f c.args.gone) c.row.ensures c.is_gone.ensures
