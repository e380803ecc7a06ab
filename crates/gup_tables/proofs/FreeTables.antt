-- How many tables of a pool are free.
use Rattle.std.proofs.Common.{◌≡◌, ℕ, zero, suc, ◌+◌, ◌-◌, ◌<◌, ◌≤◌, ◌==◌, Bool, true, false, if◌then◌else◌, List, Some, None, refl, ap, arith, sym, ◌∙◌}
use Rattle.gup_plain.specs.Put.{put, lowest}
use Rattle.std.proofs.lemmas.Bool.Decides.{nat_tests}
use Rattle.gup_plain.proofs.Sums.{passing, none_passing, one_more_passing, same_passing}
use Rattle.gup_bits.proofs.Lowest.{lowest_some, lowest_absent}
use Rattle.gup_bits.specs.Bits.{has, room_of}
use Rattle.gup_tables.specs.Pool.{IsKept}
use Rattle.gup_tables.proofs.Places.{put_same, put_other}

pub all_passing : (n : ℕ) (test : ℕ → Bool) → ((k : ℕ) → k < n → test k ≡ true) → passing n test ≡ n
all_passing zero test all = refl
all_passing (suc n) test all =
    let rest = all_passing n (λ k. test (suc k)) (λ k less. all (suc k) (omega (arith, less))) in
    let one : Bool → ℕ = λ b. if b then 1 else 0 in
    let first : one (test 0) ≡ 1 = ap one (all 0 (omega arith)) in
    omega (arith, rest, first)

pub few_passing : (n : ℕ) (test : ℕ → Bool) → passing n test ≤ n
few_passing zero test = omega arith
few_passing (suc n) test =
    let rest = few_passing n (λ k. test (suc k)) in
    let one : Bool → ℕ = λ b. if b then 1 else 0 in
    let first : one (test 0) ≤ 1 = one_at_most (test 0) in
    omega (arith, rest, first)
  where
    one_at_most : (b : Bool) → (if b then 1 else 0) ≤ 1
    one_at_most true = omega arith
    one_at_most false = omega arith

-- where none is the lowest that passes, none passes
pub none_lowest : (n : ℕ) (test : ℕ → Bool) → lowest 0 n test ≡ None → passing n test ≡ 0
none_lowest n test none =
    same_passing n test (λ k. false) (λ k less. lowest_absent 0 n test none k (omega arith) (omega (arith, less)))
    ∙ none_passing n (λ k. false) (λ k. refl)

-- one that passes
pub some_passing : (n : ℕ) (test : ℕ → Bool) (k : ℕ) → k < n → test k ≡ true → 0 < passing n test
some_passing n test k less is =
    let same : (j : ℕ) → (j == k) ≡ false → test j ≡ put k false test j = λ j other. rw other refl in
    let gone : put k false test k ≡ false = let own : (k == k) ≡ true = grind (arith, nat_tests) in rw own refl in
    let more = one_more_passing n (put k false test) test k less gone is same in
    omega (arith, more)

-- the lowest that is free
pub found_free : (set : List ℕ) (tables table : ℕ) → Some table ≡ lowest 0 tables (has set) → (table < tables) × (has set table ≡ true)
found_free set tables table is =
    let h = lowest_some 0 tables (has set) table (sym is) in
    (omega (arith, h.1), h.2)

module _ (set : List ℕ) (tables free table : ℕ) (kept : IsKept set tables free) (own : table < tables) (now : List ℕ) (room : room_of now ≡ room_of set) where
  others : (is_free : Bool) → has now ≡ put table is_free (has set) → (other : ℕ) → tables ≤ other → has now other ≡ false
  others is_free is other past = ap (λ h. h other) is ∙ put_other table is_free (has set) other (λ e. omega (arith, e, own, past)) ∙ kept.no_others other past

  same_at : (is_free : Bool) → has now ≡ put table is_free (has set) → (other : ℕ) → (other == table) ≡ false → has now other ≡ has set other
  same_at is_free is other test = ap (λ h. h other) is ∙ rw test refl

  -- one is taken that was free
  pub taken_count : has now ≡ put table false (has set) → has set table ≡ true → free ≡ passing tables (has now) + 1
  taken_count is was =
      let more = one_more_passing tables (has now) (has set) table own (ap (λ h. h table) is ∙ put_same table false (has set)) was (λ other test. sym (same_at false is other test)) in
      kept.counted ∙ more

  pub taken_kept : has now ≡ put table false (has set) → has set table ≡ true → IsKept now tables (free - 1)
  taken_kept is was = record {
    few = kept.few;
    room = omega (arith, kept.room, room);
    no_others = others false is;
    counted = omega (arith, taken_count is was);
  }

  -- one is given back that wasn't free
  pub given_count : has now ≡ put table true (has set) → has set table ≡ false → passing tables (has now) ≡ free + 1
  given_count is was =
      let more = one_more_passing tables (has set) (has now) table own was (ap (λ h. h table) is ∙ put_same table true (has set)) (same_at true is) in
      omega (arith, more, kept.counted)

  pub given_kept : has now ≡ put table true (has set) → has set table ≡ false → IsKept now tables (free + 1)
  given_kept is was = record {
    few = kept.few;
    room = omega (arith, kept.room, room);
    no_others = others true is;
    counted = sym (given_count is was);
  }
