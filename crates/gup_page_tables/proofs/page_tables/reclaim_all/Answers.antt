use Rattle.std.proofs.Common.{◌∙◌}
use Rattle.gup_tables.specs.Pool.{pool_of}
use Rattle.gup_page_tables.proofs.Reclaimed.{first_own, rest_apart, rest_own, same_cleared, same_freed}
use Rattle.gup_page_tables.proofs.page_tables.reclaim_all.Goals as goal

pub give_back-requires-clause-own : goal.give_back-requires-clause-own
give_back-requires-clause-own c =
    (first_own c.loop-table.limbo c.reclaim.new.self (pool_of c.loop-table.pool) (pool_of c.loop-table.pool) c.in-Free.table c.in-Free.ensures c.loop-table.invariant.apart c.loop-table.invariant.own).0

pub give_back-requires-clause-used : goal.give_back-requires-clause-used
give_back-requires-clause-used c =
    (first_own c.loop-table.limbo c.reclaim.new.self (pool_of c.loop-table.pool) (pool_of c.loop-table.pool) c.in-Free.table c.in-Free.ensures c.loop-table.invariant.apart c.loop-table.invariant.own).1

pub loop-table-preserved : goal.loop-table-preserved
loop-table-preserved c =
    let limbo = c.loop-table.limbo in
    let now = c.reclaim.new.self in
    let pool = pool_of c.loop-table.pool in
    let after = pool_of c.give_back.new.self in
    let apart = c.loop-table.invariant.apart in
    let own = c.loop-table.invariant.own in
    record {
      apart = rest_apart limbo now pool after c.in-Free.table c.in-Free.ensures apart own;
      own = rest_own limbo now pool after c.in-Free.table c.in-Free.ensures apart own c.give_back.ensures;
      limbo = same_cleared limbo now pool after c.in-Free.table c.in-Free.ensures apart own c.give_back.ensures ∙ c.loop-table.invariant.limbo;
      pool = same_freed limbo now pool after c.in-Free.table c.in-Free.ensures apart own c.give_back.ensures ∙ c.loop-table.invariant.pool;
    }
