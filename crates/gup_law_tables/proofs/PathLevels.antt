-- How many tables of a page's path are missing says which: the lowest ones.
use Rattle.std.proofs.Common.{◌≡◌, ◌≢◌, ℕ, zero, suc, ◌+◌, ◌<◌, Bool, true, false, if◌then◌else◌, refl, arith}

-- how many of the four levels are missing
abbrev pub gaps : (b1 b2 b3 b4 : Bool) → ℕ
gaps b1 b2 b3 b4 = (if b1 then 0 else 1) + (if b2 then 0 else 1) + (if b3 then 0 else 1) + (if b4 then 0 else 1)

module _ (there : ℕ → Bool) (up : (level : ℕ) → level < 4 → there level ≡ true → there (level + 1) ≡ true) where
  -- the level of so many is missing, and the one above it isn't
  abbrev pub IsSplit : ℕ → Type 0
  IsSplit n = (0 < n → there n ≡ false) × (n < 4 → there (n + 1) ≡ true)

  split_by : (b1 b2 b3 b4 : Bool) → there 1 ≡ b1 → there 2 ≡ b2 → there 3 ≡ b3 → there 4 ≡ b4 → IsSplit (gaps b1 b2 b3 b4)
  split_by true b2 b3 b4 i1 i2 i3 i4 = by_two b2 b3 b4 i2 i3 i4 (up 1 (omega arith) i1)
    where
      by_two : (b2 b3 b4 : Bool) → there 2 ≡ b2 → there 3 ≡ b3 → there 4 ≡ b4 → there 2 ≡ true → IsSplit (gaps true b2 b3 b4)
      by_two false b3 b4 i2 i3 i4 is = absurd (cc (i2, is))
      by_two true false b4 i2 i3 i4 is = absurd (let over = up 2 (omega arith) is in cc (i3, over))
      by_two true true false i2 i3 i4 is = absurd (let over = up 3 (omega arith) i3 in cc (i4, over))
      by_two true true true i2 i3 i4 is = ((λ no. absurd (omega (arith, no))), λ few. i1)
  split_by false true b3 b4 i1 i2 i3 i4 = by_three b3 b4 i3 i4 (up 2 (omega arith) i2)
    where
      by_three : (b3 b4 : Bool) → there 3 ≡ b3 → there 4 ≡ b4 → there 3 ≡ true → IsSplit (gaps false true b3 b4)
      by_three false b4 i3 i4 is = absurd (cc (i3, is))
      by_three true false i3 i4 is = absurd (let over = up 3 (omega arith) is in cc (i4, over))
      by_three true true i3 i4 is = ((λ some. i1), λ few. i2)
  split_by false false true false i1 i2 i3 i4 = absurd (let over = up 3 (omega arith) i3 in cc (i4, over))
  split_by false false true true i1 i2 i3 i4 = ((λ some. i2), λ few. i3)
  split_by false false false true i1 i2 i3 i4 = ((λ some. i3), λ few. i4)
  split_by false false false false i1 i2 i3 i4 = ((λ some. i4), λ few. absurd (omega (arith, few)))

  pub split : IsSplit (gaps (there 1) (there 2) (there 3) (there 4))
  split = split_by (there 1) (there 2) (there 3) (there 4) refl refl refl refl

  few_by : (b1 b2 b3 b4 : Bool) → gaps b1 b2 b3 b4 < 5
  few_by b1 b2 b3 b4 = omega (arith, one b1, one b2, one b3, one b4)
    where
      one : (b : Bool) → (if b then 0 else 1) < 2
      one true = omega arith
      one false = omega arith

  pub few : gaps (there 1) (there 2) (there 3) (there 4) < 5
  few = few_by (there 1) (there 2) (there 3) (there 4)

-- where one level more is there, one fewer is missing
pub fewer : (before after : ℕ → Bool) (level : ℕ) → 0 < level → level < 5 → before level ≡ false → after level ≡ true → ((k : ℕ) → k ≢ level → after k ≡ before k) → gaps (before 1) (before 2) (before 3) (before 4) ≡ gaps (after 1) (after 2) (after 3) (after 4) + 1
fewer before after zero some few gone now same = absurd (omega (arith, some))
fewer before after (suc zero) some few gone now same =
    rw (gone, now, same 2 (λ e. omega (arith, e)), same 3 (λ e. omega (arith, e)), same 4 (λ e. omega (arith, e))) (omega arith)
fewer before after (suc (suc zero)) some few gone now same =
    rw (gone, now, same 1 (λ e. omega (arith, e)), same 3 (λ e. omega (arith, e)), same 4 (λ e. omega (arith, e))) (omega arith)
fewer before after (suc (suc (suc zero))) some few gone now same =
    rw (gone, now, same 1 (λ e. omega (arith, e)), same 2 (λ e. omega (arith, e)), same 4 (λ e. omega (arith, e))) (omega arith)
fewer before after (suc (suc (suc (suc zero)))) some few gone now same =
    rw (gone, now, same 1 (λ e. omega (arith, e)), same 2 (λ e. omega (arith, e)), same 3 (λ e. omega (arith, e))) (omega arith)
fewer before after (suc (suc (suc (suc (suc level))))) some few gone now same = absurd (omega (arith, few))
