-- Sets of numbers as bits: a bit is set, cleared, found.
use Rattle.std.proofs.Common.{◌≡◌, ◌≢◌, ℕ, ◌+◌, ◌-◌, ◌*◌, ◌/◌, ◌%◌, ◌^◌, ◌<◌, ◌≤◌, eqb, ltb, true, false, List, length, get_or, set, refl, ap, sym, ◌∙◌, ⊎_elim, arith, get_or-set_same, get_or-set_other, replicate, bit_and, bit_or, w64}
use Rattle.std.specs.Int.{bit_at, bit_not, trailing_zeros}
use Rattle.std.proofs.Math.Path.{fun_ext}
use Rattle.std.proofs.lemmas.Bool.{cases_eq, cases_lt}
use Rattle.std.proofs.lemmas.Bool.Decides.{nat_tests}
use Rattle.std.proofs.lemmas.List.{get_or_past, get_or-replicate, length-replicate}
use Rattle.std.proofs.lemmas.Nat.{shr-shr, shr_below, shr_le}
use Rattle.std.proofs.lemmas.Nat.Bits.{bit_at_set_same, bit_at_set_other, bit_at_clear_same, bit_at_clear_other, bit_at-zero, bit_at-trailing_zeros, bit_at_above}
use Rattle.gup_plain.specs.Put.{put}
use Rattle.gup_bits.specs.Bits.{has}

-- a changed word: the bit of k in it becomes b, and the others stay
has_changed_at : (words : List ℕ) (k word b : ℕ) → k / 64 < length words → bit_at word (k % 64) ≡ b → ((i : ℕ) → i < 64 → i ≢ k % 64 → bit_at word i ≡ bit_at (get_or words (k / 64) 0) i) → (j : ℕ) → has (set words (k / 64) word) j ≡ put k (eqb b 1) (has words) j
has_changed_at words k word b inside same others j =
    ⊎_elim
    (λ (here : j / 64 ≡ k / 64).
    ⊎_elim
    (λ (bit : j % 64 ≡ k % 64).
    let is : j ≡ k = omega arith in
    let test : eqb j k ≡ true = grind (arith, nat_tests) in
    rw (here, get_or-set_same words (k / 64) word 0 inside, bit, same, test) refl)
    (λ (bit : j % 64 ≢ k % 64).
    let other : eqb j k ≡ false = grind (arith, nat_tests) in
    rw (here, get_or-set_same words (k / 64) word 0 inside, other, others (j % 64) (omega arith) bit) refl)
    (cases_eq (j % 64) (k % 64)))
    (λ (away : j / 64 ≢ k / 64).
    let other : eqb j k ≡ false = grind (arith, nat_tests) in
    rw (get_or-set_other words (k / 64) (j / 64) word 0 away, other) refl)
    (cases_eq (j / 64) (k / 64))

pub has-insert : (words : List ℕ) (k : ℕ) → k / 64 < length words → has (set words (k / 64) (bit_or (get_or words (k / 64) 0) (1 * 2 ^ (k % 64) % 2 ^ 64))) ≡ put k true (has words)
has-insert words k inside =
    let n = get_or words (k / 64) 0 in
    let within : k % 64 < 64 = omega arith in
    fun_ext
    (has_changed_at words k (bit_or n (1 * 2 ^ (k % 64) % 2 ^ 64)) 1 inside (bit_at_set_same w64 n (k % 64) within)
    (λ i less other. bit_at_set_other w64 n (k % 64) within i other))

pub has-remove : (words : List ℕ) (k : ℕ) → k / 64 < length words → has (set words (k / 64) (bit_and (get_or words (k / 64) 0) (bit_not w64 (1 * 2 ^ (k % 64) % 2 ^ 64)))) ≡ put k false (has words)
has-remove words k inside =
    let n = get_or words (k / 64) 0 in
    let within : k % 64 < 64 = omega arith in
    fun_ext
    (has_changed_at words k (bit_and n (bit_not w64 (1 * 2 ^ (k % 64) % 2 ^ 64))) 0 inside (bit_at_clear_same w64 n (k % 64) within)
    (λ i less other. bit_at_clear_other w64 n (k % 64) within i less other))

-- the numbers below n: none of them, and one more
nothing_below : (k : ℕ) → ltb k 0 ≡ false
nothing_below k = grind (arith, nat_tests)

below_none_at : (n k : ℕ) → has (replicate n 0) k ≡ ltb k 0
below_none_at n k =
    let zero_word : get_or (replicate n 0) (k / 64) 0 ≡ 0 =
    ⊎_elim (λ (l : k / 64 < n). get_or-replicate n (k / 64) 0 0 l) (λ (g : n ≤ k / 64). let len : length (replicate {A = ℕ} n 0) ≡ n = length-replicate {A = ℕ} n 0 in get_or_past (replicate n 0) (k / 64) 0 (omega arith)) (cases_lt (k / 64) n) in
    ap (λ n. eqb (bit_at n (k % 64)) 1) zero_word ∙ ap (λ b. eqb b 1) (bit_at-zero (k % 64)) ∙ sym (nothing_below k)

pub below_none : (n : ℕ) → has (replicate n 0) ≡ (λ k. ltb k 0)
below_none n = fun_ext (below_none_at n)

pub below_more : (n : ℕ) → put n true (λ k. ltb k n) ≡ (λ k. ltb k (n + 1))
below_more n = fun_ext (λ k. at k)
  where
    at : (k : ℕ) → put n true (λ k. ltb k n) k ≡ ltb k (n + 1)
    at k = grind (arith, nat_tests)

-- ---- what is left of a word, from a number's bit on

-- it has the bits of the numbers from there to the end of the word
left-bits : (words : List ℕ) (low i : ℕ) → low % 64 + i < 64 → has words (low + i) ≡ eqb (bit_at (get_or words (low / 64) 0 / 2 ^ (low % 64)) i) 1
left-bits words low i within =
    let word : (low + i) / 64 ≡ low / 64 = omega arith in
    let bit : (low + i) % 64 ≡ low % 64 + i = omega arith in
    rw (word, bit) (ap (λ n. eqb (n % 2) 1) (sym (shr-shr (get_or words (low / 64) 0) (low % 64) i)))

-- where it is 0, none of them is in the set
pub left-none : (words : List ℕ) (low : ℕ) → get_or words (low / 64) 0 / 2 ^ (low % 64) ≡ 0 → (k : ℕ) → low ≤ k → k < (low / 64 + 1) * 64 → has words k ≡ false
left-none words low none k above below =
    let i = k - low in
    let is : k ≡ low + i = omega arith in
    rw is (left-bits words low i (omega arith) ∙ ap (λ n. eqb (bit_at n i) 1) none ∙ ap (λ b. eqb b 1) (bit_at-zero i))

-- else its lowest 1 is the bit of the first that is
pub left-first : (words : List ℕ) (low : ℕ) → get_or words (low / 64) 0 < 2 ^ 64 → 0 < get_or words (low / 64) 0 / 2 ^ (low % 64) → (has words (low + trailing_zeros w64 (get_or words (low / 64) 0 / 2 ^ (low % 64))) ≡ true) × ((k : ℕ) → low ≤ k → k < low + trailing_zeros w64 (get_or words (low / 64) 0 / 2 ^ (low % 64)) → has words k ≡ false)
left-first words low fits some =
    let s = low % 64 in
    let rest = get_or words (low / 64) 0 / 2 ^ s in
    let width : 64 ≡ (64 - s) + s = omega arith in
    let small : rest < 2 ^ (64 - s) = shr_below (get_or words (low / 64) 0) (64 - s) s (rw (← width) fits) in
    let le : rest ≤ get_or words (low / 64) 0 = shr_le (get_or words (low / 64) 0) s in
    let first = bit_at-trailing_zeros w64 rest some (omega arith) in
    let t = trailing_zeros w64 rest in
    let inside : s + t < 64 =
    ⊎_elim
    (λ (l : s + t < 64). l)
    (λ (g : 64 ≤ s + t). let zero_bit : bit_at rest t ≡ 0 = bit_at_above rest (64 - s) t small (omega arith) in let one_bit : bit_at rest t ≡ 1 = first.1 in omega arith)
    (cases_lt (s + t) 64) in (
      left-bits words low t inside ∙ ap (λ b. eqb b 1) first.1,
      λ k above below.
          let i = k - low in
          let is : k ≡ low + i = omega arith in
          rw is (left-bits words low i (omega arith) ∙ ap (λ b. eqb b 1) (first.2 i (omega arith))),
    )
