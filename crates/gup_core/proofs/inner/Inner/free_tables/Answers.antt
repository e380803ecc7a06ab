use Rattle.std.proofs.Common.{subst, sym, ◌∙◌}
use Rattle.gup_tables.specs.Pool.{pool_of}
use Rattle.gup_core.specs.Machine.{MachineValue, Shows}
use Rattle.gup_core.proofs.FreeTables.{tables_shown}
use Rattle.gup_core.proofs.inner.Inner.free_tables.Goals as goal

pub returns : goal.returns
returns c r shown =
    let i = c.self.inside in
    let here = subst (λ (m : MachineValue). Shows m r) (sym c.self.view_is) shown in
    c.free.ensures ∙ sym (tables_shown (pool_of i.pool) r.core c.is_within.ensures.few c.is_within.ensures.no_others here.pool)
