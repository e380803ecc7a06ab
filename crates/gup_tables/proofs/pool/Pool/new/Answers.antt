use Rattle.std.proofs.Common.{◌≡◌, ℕ, ◌<◌, ◌≤◌, nat_lt, Bool, true, false, ap, ◌∙◌, sym, arith}
use Rattle.std.proofs.lemmas.Bool.Decides.{nat_tests}
use Rattle.gup_bits.specs.Bits.{has}
use Rattle.gup_tables.specs.Pool.{PoolValue}
use Rattle.gup_tables.proofs.FreeTables.{all_passing}
use Rattle.gup_tables.proofs.pool.Pool.new.Goals as goal

below : (k n : ℕ) → k < n → nat_lt k n ≡ true
below k n less = grind (arith, nat_tests)

past : (k n : ℕ) → n ≤ k → nat_lt k n ≡ false
past k n more = grind (arith, nat_tests)

pub invariant_of-result : goal.invariant_of-result
invariant_of-result c =
    let set = c.in_ok-set.ensures.set in
    record {
      few = c.requires;
      room = c.in_ok-set.ensures.room;
      no_others = λ k more. ap (λ h. h k) set ∙ past k c.args.tables more;
      counted = sym (all_passing c.args.tables (has c.in_ok-set.set) (λ k less. ap (λ h. h k) set ∙ below k c.args.tables less));
    }

abbrev with_free : (ℕ → Bool) → ℕ → PoolValue
with_free free tables = record { tables = tables; free = free }

pub returns : goal.returns
returns c = ap (λ h. with_free h c.args.tables) c.in_ok-set.ensures.set
