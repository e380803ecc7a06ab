use Rattle.std.proofs.Common.{arith}
use Rattle.gup_tables.proofs.FreeTables.{found_free, taken_count, taken_kept}
use Rattle.gup_tables.proofs.pool.Pool.take.Goals as goal

pub remove-requires : goal.remove-requires
remove-requires c =
    let found = found_free c.self.inside.set c.self.inside.tables c.in-Some.number c.in-Some.ensures in
    omega (arith, found.0, c.self.invariant.room)

pub overflow_sub-self : goal.overflow_sub-self
overflow_sub-self c =
    let found = found_free c.self.inside.set c.self.inside.tables c.in-Some.number c.in-Some.ensures in
    let count = taken_count c.self.inside.set c.self.inside.tables c.self.inside.free c.in-Some.number c.self.invariant found.0 c.remove.new.self c.remove.ensures.room c.remove.ensures.set found.1 in
    omega (arith, count)

pub unwrap-number-requires : goal.unwrap-number-requires
unwrap-number-requires c =
    let found = found_free c.self.inside.set c.self.inside.tables c.in-Some.number c.in-Some.ensures in
    c.new.ensures.some.1 (omega (arith, found.0, c.self.invariant.few))

pub invariant_of-self : goal.invariant_of-self
invariant_of-self c =
    let found = found_free c.self.inside.set c.self.inside.tables c.in-Some.number c.in-Some.ensures in
    taken_kept c.self.inside.set c.self.inside.tables c.self.inside.free c.in-Some.number c.self.invariant found.0 c.remove.new.self c.remove.ensures.room c.remove.ensures.set found.1
