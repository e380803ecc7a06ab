-- Lists of numbers without repetition: with an element less, and how many numbers are below a bound.
use Rattle.std.proofs.Common.{◌≡◌, ℕ, ◌+◌, ◌≤◌, ◌<◌, ◌==◌, Bool, true, false, List, [], ◌∷◌, map, length, zero, suc, refl, sym, subst, arith}
use Rattle.std.specs.Prelude.{Some, Contains, slice_get}
use Rattle.std.proofs.lemmas.Bool.Decides.{nat_tests}
use Rattle.std.proofs.lemmas.Map.Made.{Contains-tail}
use Rattle.gup_spec_events.specs.Invariant.{HasNoRepetition}
use Rattle.gup_law_base.proofs.Holders.{no_element, first_element, later_element}
use Rattle.gup_law_base.proofs.Rows.{contains_at, at_contains, at_mapped}

pub by_number : {P : Type 0} (b a : ℕ) → (b ≡ a → P) → ((b ≡ a → ⊥) → P) → P
by_number {P} b a same apart = go (b == a) refl
  where
    go : (t : Bool) → (b == a) ≡ t → P
    go true is = same (grind (arith, nat_tests))
    go false other = apart (λ e. let no : ⊥ = grind (arith, nat_tests) in no)

-- the list ys is xs without x
pub record IsShorter (x : ℕ) (xs ys : List ℕ) : Type 0 where
  pub alone : HasNoRepetition ys
  pub less : (y : ℕ) → Contains ys y → Contains xs y
  pub gone : Contains ys x → ⊥
  pub rest : (y : ℕ) → (y ≡ x → ⊥) → Contains xs y → Contains ys y
  pub shorter : length xs ≡ length ys + 1

-- an element is the first of both, or is in both
in_both : (z : ℕ) (xs ys : List ℕ) (y : ℕ) → (Contains xs y → Contains ys y) → Contains (z ∷ xs) y → Contains (z ∷ ys) y
in_both z xs ys y to has =
    by_number y z (λ same. subst (Contains (z ∷ ys)) (sym same) (first_element z ys)) (λ apart. later_element z ys y (to (Contains-tail z xs y (λ e. apart (sym e)) has)))

-- a later element is taken out
without_later : (x z : ℕ) (xs ys : List ℕ) → (z ≡ x → ⊥) → HasNoRepetition (z ∷ xs) → IsShorter x xs ys → IsShorter x (z ∷ xs) (z ∷ ys)
without_later x z xs ys apart alone without =
    record {
      alone = (λ has. alone.0 (without.less z has), without.alone);
      less = λ y. in_both z ys xs y (without.less y);
      gone = λ has. without.gone (Contains-tail z ys x apart has);
      rest = λ y other. in_both z xs ys y (without.rest y other);
      shorter = omega (arith, without.shorter);
    }

pub taken_out : (x : ℕ) (xs : List ℕ) → HasNoRepetition xs → Contains xs x → (ys : List ℕ) × IsShorter x xs ys
taken_out x [] alone has = absurd (no_element x has)
taken_out x (z ∷ xs) alone has =
    let here : IsShorter z (z ∷ xs) xs = record { alone = alone.1; less = later_element z xs; gone = alone.0; rest = λ y apart. Contains-tail z xs y (λ e. apart (sym e)); shorter = omega arith } in
    let later = λ (apart : z ≡ x → ⊥). taken_out x xs alone.1 (Contains-tail z xs x apart has) in
    by_number z x (λ same. (xs, subst (λ y. IsShorter y (z ∷ xs) xs) same here)) (λ apart. (z ∷ (later apart).0, without_later x z xs (later apart).0 apart alone (later apart).1))

-- a number is in a list, or is not
has_number : {P : Type 0} (x : ℕ) (xs : List ℕ) → (Contains xs x → P) → ((Contains xs x → ⊥) → P) → P
has_number x [] has lacks = lacks (no_element x)
has_number x (y ∷ xs) has lacks =
    by_number x y (λ same. has (subst (Contains (y ∷ xs)) (sym same) (first_element y xs))) (λ apart. has_number x xs (λ there. has (later_element y xs x there)) (λ none. lacks (λ at. none (Contains-tail y xs x (λ e. apart (sym e)) at))))

-- there are n numbers below n
pub few_below : (n : ℕ) (xs : List ℕ) → HasNoRepetition xs → ((x : ℕ) → Contains xs x → x < n) → length xs ≤ n
few_below zero [] alone below = omega arith
few_below zero (x ∷ xs) alone below = absurd (omega (arith, below x (first_element x xs)))
few_below (suc n) xs alone below = has_number n xs (with_last (few_below n)) (without_last (few_below n))
  where
    with_last : ((ys : List ℕ) → HasNoRepetition ys → ((x : ℕ) → Contains ys x → x < n) → length ys ≤ n) → Contains xs n → length xs ≤ suc n
    with_last few has =
        let rest = taken_out n xs alone has in
        let without : IsShorter n xs rest.0 = rest.1 in
        let lower = λ (x : ℕ) (in-rest : Contains rest.0 x). by_number x n (λ same. absurd (without.gone (subst (Contains rest.0) same in-rest))) (λ apart. let most = below x (without.less x in-rest) in let less : x < n = omega (arith, most, apart) in less) in
        omega (arith, without.shorter, few rest.0 without.alone lower)

    without_last : ((ys : List ℕ) → HasNoRepetition ys → ((x : ℕ) → Contains ys x → x < n) → length ys ≤ n) → (Contains xs n → ⊥) → length xs ≤ suc n
    without_last few lacks =
        let lower = λ (x : ℕ) (has : Contains xs x). by_number x n (λ same. absurd (lacks (subst (Contains xs) same has))) (λ apart. let most = below x has in let less : x < n = omega (arith, most, apart) in less) in
        omega (arith, few xs alone lower)

-- the numbers of elements, of which no two have the same
pub numbers_alone : {X : Type 0} (number : X → ℕ) (xs : List X) → ((x y : X) → Contains xs x → Contains xs y → number x ≡ number y → x ≡ y) → HasNoRepetition xs → HasNoRepetition (map number xs)
numbers_alone number [] one alone = tt
numbers_alone {X} number (x ∷ xs) one alone = (
  (λ has.
      let at = contains_at (map number xs) (number x) has in
      let from = at_mapped number xs at.0 (number x) at.1 in
      let there : Contains xs from.0 = at_contains xs at.0 from.0 from.1 in
      let same : from.0 ≡ x = one from.0 x (later_element x xs from.0 there) (first_element x xs) from.2 in
      alone.0 (subst (Contains xs) same there)),
  numbers_alone number xs (λ y z has also. one y z (later_element x xs y has) (later_element x xs z also)) alone.1,
)

-- no number at two places
pub apart_alone : (xs : List ℕ) → ((j k x : ℕ) → slice_get xs j ≡ Some x → slice_get xs k ≡ Some x → j ≡ k) → HasNoRepetition xs
apart_alone [] apart = tt
apart_alone (x ∷ xs) apart = (
  (λ has.
      let at = contains_at xs x has in
      let no : 0 ≡ suc at.0 = apart 0 (suc at.0) x refl at.1 in
      omega (arith, no)),
  apart_alone xs (λ j k y is that. let one : suc j ≡ suc k = apart (suc j) (suc k) y is that in omega (arith, one)),
)
