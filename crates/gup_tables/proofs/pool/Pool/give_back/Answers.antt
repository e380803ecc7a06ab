use Rattle.std.proofs.Common.{◌≡◌, ◌<◌, arith, ◌∙◌, ap, false, true}
use Rattle.gup_bits.specs.Bits.{has}
use Rattle.gup_plain.specs.Put.{put}
use Rattle.gup_tables.proofs.FreeTables.{few_passing, given_count, given_kept}
use Rattle.gup_tables.proofs.pool.Pool.give_back.Goals as goal

pub overflow_add-self : goal.overflow_add-self
overflow_add-self c =
    let own : c.args.table < c.self.inside.tables = rw (← c.self.view_is) at c.requires.own in
    let used : has c.self.inside.set c.args.table ≡ false = rw (← c.self.view_is) at c.requires.used in
    let number = c.get.ensures.value ∙ c.number.ensures in
    let now = c.insert.ensures.set ∙ ap (λ k. put k true (has c.self.inside.set)) number in
    let count = given_count c.self.inside.set c.self.inside.tables c.self.inside.free c.args.table c.self.invariant own c.insert.new.self c.insert.ensures.room now used in
    let few = few_passing c.self.inside.tables (has c.insert.new.self) in
    omega (arith, count, few, c.self.invariant.few)

pub invariant_of-self : goal.invariant_of-self
invariant_of-self c =
    let own : c.args.table < c.self.inside.tables = rw (← c.self.view_is) at c.requires.own in
    let used : has c.self.inside.set c.args.table ≡ false = rw (← c.self.view_is) at c.requires.used in
    let number = c.get.ensures.value ∙ c.number.ensures in
    let now = c.insert.ensures.set ∙ ap (λ k. put k true (has c.self.inside.set)) number in
    given_kept c.self.inside.set c.self.inside.tables c.self.inside.free c.args.table c.self.invariant own c.insert.new.self c.insert.ensures.room now used
