-- Actors as bits: one is set, cleared, found.
use Rattle.std.proofs.Common.{◌≡◌, ◌≢◌, ℕ, ◌+◌, ◌-◌, ◌*◌, ◌/◌, ◌%◌, ◌^◌, ◌<◌, ◌≤◌, eqb, ltb, ◌==◌, eqb-true, cond, Bool, true, false, ap, sym, ◌∙◌, ⊎_elim, arith, bit_and, bit_or, refl}
use Rattle.std.specs.Int.{bit_at, bit_not, trailing_zeros, w128}
use Rattle.std.proofs.Math.Path.{fun_ext}
use Rattle.std.proofs.lemmas.Bool.{cases_eq, cases_lt}
use Rattle.std.proofs.lemmas.Bool.Decides.{nat_tests}
use Rattle.std.proofs.lemmas.Nat.{one_shl, shr-shr, shr_le}
use Rattle.std.proofs.lemmas.Nat.Bits.{bit_at_set_same, bit_at_set_other, bit_at_clear_same, bit_at_clear_other, bit_at-zero, bit_at-trailing_zeros, bit_at_above, bit_at_and, bit_at_ones, bit_at_ones_above}
use Rattle.gup_plain.specs.Put.{put}
use Rattle.gup_sched.specs.Awake.{has, AreActors}

-- a changed number: the bit of k in it becomes b, and the others stay
changed_at : (bits changed k b : ℕ) → bit_at changed k ≡ b → ((i : ℕ) → i ≢ k → bit_at changed i ≡ bit_at bits i) → (j : ℕ) → has changed j ≡ put k (eqb b 1) (has bits) j
changed_at bits changed k b same others j =
    ⊎_elim
    (λ (here : j ≡ k).
    let test : eqb j k ≡ true = grind (arith, nat_tests) in
    rw (here, same) (let own : eqb k k ≡ true = grind (arith, nat_tests) in rw own refl))
    (λ (away : j ≢ k).
    let test : eqb j k ≡ false = grind (arith, nat_tests) in
    rw (test, others j away) refl)
    (cases_eq j k)

pub has-insert : (bits k : ℕ) → k < 128 → has (bit_or bits (1 * 2 ^ k % 2 ^ 128)) ≡ put k true (has bits)
has-insert bits k within =
    fun_ext
    (changed_at bits (bit_or bits (1 * 2 ^ k % 2 ^ 128)) k 1 (bit_at_set_same w128 bits k within)
    (λ i other. bit_at_set_other w128 bits k within i other))

pub has-remove : (bits k : ℕ) → bits < 2 ^ 128 → k < 128 → has (bit_and bits (bit_not w128 (1 * 2 ^ k % 2 ^ 128))) ≡ put k false (has bits)
has-remove bits k fits within =
    let mask = bit_not w128 (1 * 2 ^ k % 2 ^ 128) in
    fun_ext
    (changed_at bits (bit_and bits mask) k 0 (bit_at_clear_same w128 bits k within)
    (λ i other.
    ⊎_elim
    (λ (l : i < 128). bit_at_clear_other w128 bits k within i l other)
    (λ (g : 128 ≤ i).
    let none = bit_at_above bits 128 i fits g in
    let both = bit_at_and bits mask i in
    both ∙ omega (arith, none))
    (cases_lt i 128)))

-- the bits of the numbers below n
pub has-all : (n : ℕ) → has (2 ^ n - 1) ≡ (λ k. ltb k n)
has-all n = fun_ext (λ k. at k)
  where
    at : (k : ℕ) → has (2 ^ n - 1) k ≡ ltb k n
    at k =
        ⊎_elim
        (λ (l : k < n). let less : ltb k n ≡ true = grind (arith, nat_tests) in rw (less, bit_at_ones n k l) refl)
        (λ (g : n ≤ k). let not_less : ltb k n ≡ false = grind (arith, nat_tests) in rw (not_less, bit_at_ones_above n k g) refl)
        (cases_lt k n)

-- what is left of them from a number on

left_bit : (bits from i : ℕ) → has bits (from + i) ≡ eqb (bit_at (bits / 2 ^ from) i) 1
left_bit bits from i = ap (λ n. eqb (n % 2) 1) (sym (shr-shr bits from i))

-- where it is 0, none of the numbers from there on is in
pub left_none : (bits from : ℕ) → bits / 2 ^ from ≡ 0 → (k : ℕ) → from ≤ k → has bits k ≡ false
left_none bits from none k above =
    let i = k - from in
    let is : k ≡ from + i = omega arith in
    rw is (left_bit bits from i ∙ ap (λ n. eqb (bit_at n i) 1) none ∙ ap (λ b. eqb b 1) (bit_at-zero i))

-- else its lowest 1 is the bit of the first that is
pub left_first : (bits from : ℕ) → bits < 2 ^ 128 → 0 < bits / 2 ^ from → (has bits (from + trailing_zeros w128 (bits / 2 ^ from)) ≡ true) × ((k : ℕ) → from ≤ k → k < from + trailing_zeros w128 (bits / 2 ^ from) → has bits k ≡ false)
left_first bits from fits some =
    let rest = bits / 2 ^ from in
    let le : rest ≤ bits = shr_le bits from in
    let first = bit_at-trailing_zeros w128 rest some (omega arith) in (
      left_bit bits from (trailing_zeros w128 rest) ∙ ap (λ b. eqb b 1) first.1,
      λ k above below.
          let i = k - from in
          let is : k ≡ from + i = omega arith in
          rw is (left_bit bits from i ∙ ap (λ b. eqb b 1) (first.2 i (omega arith))),
    )

-- at most 81 actors

shifted : (n : ℕ) → n ≤ 81 → 1 * 2 ^ n % 2 ^ 128 - 1 ≡ 2 ^ n - 1
shifted n few =
    ap (λ m. m - 1) (one_shl n 128 (omega arith))

pub all_has : (n : ℕ) → n ≤ 81 → has (1 * 2 ^ n % 2 ^ 128 - 1) ≡ (λ k. ltb k n)
all_has n few = ap has (shifted n few) ∙ has-all n

below_by : (bits n : ℕ) (test : ℕ → Bool) → has bits ≡ test → ((k : ℕ) → test k ≡ true → k < n) → (k : ℕ) → has bits k ≡ true → k < n
below_by bits n test same only k is = only k (sym (ap (λ (f : ℕ → Bool). f k) same) ∙ is)

below_put : (n k : ℕ) (b : Bool) (test : ℕ → Bool) → k < n → ((j : ℕ) → test j ≡ true → j < n) → (j : ℕ) → put k b test j ≡ true → j < n
below_put n k b test within only j = go (j == k) refl
  where
    go : (t : Bool) → (j == k) ≡ t → cond t b (test j) ≡ true → j < n
    go true e is = let same : j ≡ k = eqb-true j k e in omega (arith, same, within)
    go false e is = only j is

below_cleared : (n k : ℕ) (test : ℕ → Bool) → ((j : ℕ) → test j ≡ true → j < n) → (j : ℕ) → put k false test j ≡ true → j < n
below_cleared n k test only j = go (j == k) refl
  where
    go : (t : Bool) → (j == k) ≡ t → cond t false (test j) ≡ true → j < n
    go true e is = absurd (cc is)
    go false e is = only j is

pub all_actors : (n : ℕ) → n ≤ 81 → AreActors n (1 * 2 ^ n % 2 ^ 128 - 1)
all_actors n few =
    record { few = few; only = below_by (1 * 2 ^ n % 2 ^ 128 - 1) n (λ k. ltb k n) (all_has n few) (λ k is. grind (arith, nat_tests)) }

pub inserted_actors : (n bits k : ℕ) → AreActors n bits → k < n → AreActors n (bit_or bits (1 * 2 ^ k % 2 ^ 128))
inserted_actors n bits k h within =
    let few = h.few in
    record {
      few = h.few;
      only = below_by (bit_or bits (1 * 2 ^ k % 2 ^ 128)) n (put k true (has bits)) (has-insert bits k (omega (arith, few, within))) (below_put n k true (has bits) within h.only);
    }

pub removed_actors : (n bits k : ℕ) → AreActors n bits → bits < 2 ^ 128 → k < 128 → AreActors n (bit_and bits (bit_not w128 (1 * 2 ^ k % 2 ^ 128)))
removed_actors n bits k h fits within =
    record {
      few = h.few;
      only = below_by (bit_and bits (bit_not w128 (1 * 2 ^ k % 2 ^ 128))) n (put k false (has bits)) (has-remove bits k fits within) (below_cleared n k (has bits) h.only);
    }

-- the first one from a number on is an actor
pub record IsFirst (n bits from x : ℕ) : Type 0 where
  pub is : has bits x ≡ true
  pub below : x < n
  pub before : (k : ℕ) → from ≤ k → k < x → has bits k ≡ false

pub first_left : (n bits from : ℕ) → AreActors n bits → bits < 2 ^ 128 → 0 < bits / 2 ^ from → IsFirst n bits from (from + trailing_zeros w128 (bits / 2 ^ from))
first_left n bits from h fits some =
    let first = left_first bits from fits some in
    record { is = first.0; below = h.only (from + trailing_zeros w128 (bits / 2 ^ from)) first.0; before = first.1 }

pub first_all : (n bits : ℕ) → AreActors n bits → bits < 2 ^ 128 → 0 < bits → IsFirst n bits 0 (trailing_zeros w128 bits)
first_all n bits h fits some =
    let first = bit_at-trailing_zeros w128 bits some fits in
    let is : has bits (trailing_zeros w128 bits) ≡ true = ap (λ b. eqb b 1) first.1 in
    record {
      is = is;
      below = h.only (trailing_zeros w128 bits) is;
      before = λ k above less. ap (λ b. eqb b 1) (first.2 k less);
    }

pub none_zero : (bits : ℕ) → bits ≡ 0 → (k : ℕ) → has bits k ≡ false
none_zero bits none k = ap (λ n. eqb (bit_at n k) 1) none ∙ ap (λ b. eqb b 1) (bit_at-zero k)
