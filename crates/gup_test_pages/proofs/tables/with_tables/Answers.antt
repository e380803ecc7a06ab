use Rattle.std.proofs.Common.{ℕ, Option, ap, ◌∙◌}
use Rattle.gup_base.specs.declared.entry.Entry.{Entry}
use Rattle.gup_test_pages.proofs.tables.with_tables.Goals as goal

pub returns : goal.returns
returns g c page = ap (λ (entry : ℕ → Option Entry). entry page) c.grown.ensures.entries ∙ c.in_ok-space.ensures.empty page
