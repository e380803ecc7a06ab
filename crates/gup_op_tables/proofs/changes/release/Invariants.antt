use Rattle.std.proofs.Common.{◌-◌}
use Rattle.gup_plain.specs.Event.{page_numbers}
use Rattle.gup_tables.specs.Pool.{pool_of}
use Rattle.gup_op_tables.specs.Released.{IsReleased, right_at}
use Rattle.gup_op_tables.proofs.changes.release.Given as goal

abbrev pub invariant-loop-page : goal.invariant-loop-page
invariant-loop-page l =
    IsReleased l.fn.child (right_at l.initial.spaces l.fn.parent) (pool_of l.initial.pool) (pool_of l.pool) l.initial.spaces l.spaces l.from

-- the pages that are left
abbrev pub decreases-loop-page : goal.decreases-loop-page
decreases-loop-page l = page_numbers - l.from
