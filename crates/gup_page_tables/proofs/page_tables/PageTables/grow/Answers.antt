use Rattle.std.proofs.Common.{ℕ, ap, ◌∙◌}
use Rattle.gup_limbo.specs.Limbo.{LimboValue}
use Rattle.gup_tables.specs.Pool.{PoolValue, pool_of}
use Rattle.gup_page_tables.specs.PageTables.{Both, all_of, IsOf, cleared}
use Rattle.gup_page_tables.proofs.Reclaims.{reclaims_own}
use Rattle.gup_page_tables.proofs.Taken.{own_is}
use Rattle.gup_page_tables.proofs.page_tables.PageTables.grow.Goals as goal

abbrev all_with : Both → LimboValue ℕ → PoolValue → Both
all_with b limbo pool = record { tables = record (b.tables) { limbo = limbo }; pool = pool }

pub take_all-requires-clause-own : goal.take_all-requires-clause-own
take_all-requires-clause-own c =
    let b = all_of c.self.inside.tree c.self.inside.limbo (pool_of c.args.pool.now) in
    let own : IsOf b = rw (← c.self.view_is) at c.requires in
    let is = ap (λ l. all_with b l (pool_of c.reclaim_all.new.pool)) c.reclaim_all.ensures.limbo ∙ ap (all_with b (cleared c.self.inside.limbo)) c.reclaim_all.ensures.pool in
    own_is _ _ is (reclaims_own b c.self.invariant.0 own)

pub returns-then-free-from-clause-own : goal.returns-then-free-from-clause-own
returns-then-free-from-clause-own c =
    let b = all_of c.self.inside.tree c.self.inside.limbo (pool_of c.args.pool.now) in
    let own : IsOf b = rw (← c.self.view_is) at c.requires in
    let is = ap (λ l. all_with b l (pool_of c.reclaim_all.new.pool)) c.reclaim_all.ensures.limbo ∙ ap (all_with b (cleared c.self.inside.limbo)) c.reclaim_all.ensures.pool in
    own_is _ _ is (reclaims_own b c.self.invariant.0 own)
