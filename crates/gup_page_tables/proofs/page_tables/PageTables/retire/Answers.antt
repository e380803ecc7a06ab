use Rattle.std.proofs.Common.{◌≡◌, ℕ, ap, ◌∙◌}
use Rattle.gup_limbo.specs.Limbo.{LimboValue}
use Rattle.gup_tables.specs.Pool.{PoolValue, pool_of}
use Rattle.gup_page_tables.specs.PageTables.{TablesValue, TablesParts, Both, some_of, all_of, tables_of, IsOf, cleared, reclaims, shrinks}
use Rattle.gup_page_tables.proofs.Reclaims.{reclaims_own, own_still}
use Rattle.gup_page_tables.proofs.Taken.{own_is}
use Rattle.gup_page_tables.proofs.page_tables.PageTables.retire.Goals as goal

abbrev all_with : Both → LimboValue ℕ → PoolValue → Both
all_with b limbo pool = record { tables = record (b.tables) { limbo = limbo }; pool = pool }

abbrev pooled : TablesValue → PoolValue → Both
pooled tables pool = record { tables = tables; pool = pool }

reclaimed : (c : goal.After-reclaim_all) → all_of c.take_out_all.new.tree c.reclaim_all.new.limbo (pool_of c.reclaim_all.new.pool) ≡ reclaims (all_of c.take_out_all.new.tree c.take_out_all.new.limbo (pool_of c.args.pool.now))
reclaimed c =
    let b = all_of c.take_out_all.new.tree c.take_out_all.new.limbo (pool_of c.args.pool.now) in
    ap (λ l. all_with b l (pool_of c.reclaim_all.new.pool)) c.reclaim_all.ensures.limbo ∙ ap (all_with b (cleared c.take_out_all.new.limbo)) c.reclaim_all.ensures.pool

pub returns-clause-tables : goal.returns-clause-tables
returns-clause-tables c =
    reclaimed c
    ∙ ap (λ v. reclaims (pooled v (pool_of c.args.pool.now))) c.take_out_all.ensures.shrunk
    ∙ ap (λ (s : TablesParts). reclaims (pooled (shrinks c.args.page 3 (tables_of s)) (pool_of c.args.pool.now))) c.self.view_is

pub returns-clause-entries : goal.returns-clause-entries
returns-clause-entries c = c.take_out_all.ensures.entries ∙ ap (λ (s : TablesParts). (tables_of s).tree.entry) c.self.view_is

pub returns-clause-room : goal.returns-clause-room
returns-clause-room c = c.take_out_all.ensures.room ∙ ap (λ (s : TablesParts). (tables_of s).tree.room) c.self.view_is

pub returns-clause-own : goal.returns-clause-own
returns-clause-own c =
    let own : IsOf (all_of c.self.inside.tree c.self.inside.limbo (pool_of c.args.pool.now)) = rw (← c.self.view_is) at c.requires in
    let still = own_still (some_of c.self.inside.tree c.self.inside.limbo) (some_of c.take_out_all.new.tree c.take_out_all.new.limbo) (pool_of c.args.pool.now) c.take_out_all.ensures.room c.take_out_all.ensures.same own in
    own_is _ _ (reclaimed c) (reclaims_own (all_of c.take_out_all.new.tree c.take_out_all.new.limbo (pool_of c.args.pool.now)) c.take_out_all.ensures.kept still)
