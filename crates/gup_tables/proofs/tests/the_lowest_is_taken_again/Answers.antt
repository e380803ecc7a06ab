use Rattle.std.proofs.Common.{ap, ◌∙◌}
use Rattle.gup_tables.specs.Pool.{PoolValue}
use Rattle.gup_tables.proofs.tests.the_lowest_is_taken_again.Goals as goal

pub give_back-requires-clause-used : goal.give_back-requires-clause-used
give_back-requires-clause-used g c = rw c.in_ok-two.ensures.table (ap (λ (p : PoolValue). p.free 2) c.in_ok-two.ensures.pool)

pub give_back-requires-2-clause-used : goal.give_back-requires-2-clause-used
give_back-requires-2-clause-used g c =
    let given = rw c.in_ok-two.ensures.table at c.give_back.ensures in
    rw c.in_ok-one.ensures.table
    (ap (λ (p : PoolValue). p.free 1) given
    ∙ ap (λ (p : PoolValue). p.free 1) c.in_ok-two.ensures.pool
    ∙ ap (λ (p : PoolValue). p.free 1) c.in_ok-one.ensures.pool)
