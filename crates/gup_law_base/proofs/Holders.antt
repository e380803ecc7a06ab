-- Holders of references: when two are the same, and lists of them without repetition, with an element more and with an
-- element less.
use Rattle.std.proofs.Common.{◌≡◌, ℕ, ◌+◌, ◌==◌, ◌&&◌, Bool, true, false, List, [], ◌∷◌, zero, suc, refl, ap, sym, ◌∙◌, subst, arith}
use Rattle.std.specs.Prelude.{Contains, sum_by}
use Rattle.std.proofs.lemmas.Bool.Decides.{nat_tests}
use Rattle.std.proofs.lemmas.List.Elements.{Contains-append_right}
use Rattle.std.proofs.lemmas.List.Sums.{sum_by-cons}
use Rattle.std.proofs.lemmas.Map.Made.{Contains-tail}
use Rattle.gup_spec_events.specs.Invariant.{Holder, entry_of_page, cleared_by, prepared_by, owed_by, got_as, page_of_pin, page_taken, grabbed_by, weight, HasNoRepetition}

-- a holder as three numbers

abbrev pub kind : Holder → ℕ
kind (entry_of_page p page) = 0
kind (cleared_by a) = 1
kind (prepared_by a) = 2
kind (owed_by a) = 3
kind (got_as k) = 4
kind (page_of_pin h k) = 5
kind (page_taken a k) = 6
kind (grabbed_by a) = 7

abbrev pub first : Holder → ℕ
first (entry_of_page p page) = p
first (cleared_by a) = a
first (prepared_by a) = a
first (owed_by a) = a
first (got_as k) = k
first (page_of_pin h k) = h
first (page_taken a k) = a
first (grabbed_by a) = a

abbrev pub second : Holder → ℕ
second (entry_of_page p page) = page
second (cleared_by a) = 0
second (prepared_by a) = 0
second (owed_by a) = 0
second (got_as k) = 0
second (page_of_pin h k) = k
second (page_taken a k) = k
second (grabbed_by a) = 0

abbrev same_holder : Holder → Holder → Bool
same_holder x y = kind x == kind y && (first x == first y && second x == second y)

abbrev with_kind : (kind first second : ℕ) → Holder
with_kind zero i j = entry_of_page i j
with_kind (suc zero) i j = cleared_by i
with_kind (suc (suc zero)) i j = prepared_by i
with_kind (suc (suc (suc zero))) i j = owed_by i
with_kind (suc (suc (suc (suc zero)))) i j = got_as i
with_kind (suc (suc (suc (suc (suc zero))))) i j = page_of_pin i j
with_kind (suc (suc (suc (suc (suc (suc zero)))))) i j = page_taken i j
with_kind (suc (suc (suc (suc (suc (suc (suc n))))))) i j = grabbed_by i

again : (x : Holder) → with_kind (kind x) (first x) (second x) ≡ x
again (entry_of_page p page) = refl
again (cleared_by a) = refl
again (prepared_by a) = refl
again (owed_by a) = refl
again (got_as k) = refl
again (page_of_pin h k) = refl
again (page_taken a k) = refl
again (grabbed_by a) = refl

same_numbers : (x y : Holder) → kind x ≡ kind y → first x ≡ first y → second x ≡ second y → with_kind (kind x) (first x) (second x) ≡ with_kind (kind y) (first y) (second y)
same_numbers x y k i j = cc

pub same_holders : (x y : Holder) → kind x ≡ kind y → first x ≡ first y → second x ≡ second y → x ≡ y
same_holders x y k i j = sym (again x) ∙ (same_numbers x y k i j ∙ again y)

-- two cases of a test on holders
pub by_holder : {P : Type 0} (x y : Holder) → (x ≡ y → P) → ((x ≡ y → ⊥) → P) → P
by_holder {P} x y same apart = go (same_holder x y) refl
  where
    go : (b : Bool) → same_holder x y ≡ b → P
    go true is =
        let k : kind x ≡ kind y = grind (arith, nat_tests) in
        let i : first x ≡ first y = grind (arith, nat_tests) in
        let j : second x ≡ second y = grind (arith, nat_tests) in
        same (same_holders x y k i j)
    go false is =
        apart (λ e.
        let k : kind x ≡ kind y = ap kind e in
        let i : first x ≡ first y = ap first e in
        let j : second x ≡ second y = ap second e in
        let no : ⊥ = grind (arith, nat_tests) in no)

pub no_element : {X : Type 0} (x : X) → Contains [] x → ⊥
no_element x has = omega (arith, has.1)

pub first_element : {X : Type 0} (x : X) (xs : List X) → Contains (x ∷ xs) x
first_element x xs = (0, omega arith, refl)

pub later_element : {X : Type 0} (x : X) (xs : List X) (y : X) → Contains xs y → Contains (x ∷ xs) y
later_element x xs y has = Contains-append_right (x ∷ []) xs y has

-- the list ys is xs without x
pub record IsWithout (x : Holder) (xs ys : List Holder) : Type 0 where
  pub alone : HasNoRepetition ys
  pub less : (y : Holder) → Contains ys y → Contains xs y
  pub gone : Contains ys x → ⊥
  pub rest : (y : Holder) → (x ≡ y → ⊥) → Contains xs y → Contains ys y
  pub lighter : sum_by weight xs ≡ weight x + sum_by weight ys

-- the first element is taken out
without_first : (x : Holder) (xs : List Holder) → HasNoRepetition (x ∷ xs) → IsWithout x (x ∷ xs) xs
without_first x xs alone =
    record {
      alone = alone.1;
      less = later_element x xs;
      gone = alone.0;
      rest = λ y apart. Contains-tail x xs y apart;
      lighter = sum_by-cons weight x xs;
    }

-- an element is the first of both, or is in both
in_both : (z : Holder) (xs ys : List Holder) (y : Holder) → (Contains xs y → Contains ys y) → Contains (z ∷ xs) y → Contains (z ∷ ys) y
in_both z xs ys y to has =
    by_holder z y (λ same. subst (Contains (z ∷ ys)) same (first_element z ys)) (λ apart. later_element z ys y (to (Contains-tail z xs y apart has)))

-- a later element is taken out
without_later : (x z : Holder) (xs ys : List Holder) → (z ≡ x → ⊥) → HasNoRepetition (z ∷ xs) → IsWithout x xs ys → IsWithout x (z ∷ xs) (z ∷ ys)
without_later x z xs ys apart alone without =
    record {
      alone = (λ has. alone.0 (without.less z has), without.alone);
      less = λ y. in_both z ys xs y (without.less y);
      gone = λ has. without.gone (Contains-tail z ys x apart has);
      rest = λ y other. in_both z xs ys y (without.rest y other);
      lighter = omega (arith, sum_by-cons weight z xs, sum_by-cons weight z ys, without.lighter);
    }

pub taken_out : (x : Holder) (xs : List Holder) → HasNoRepetition xs → Contains xs x → (ys : List Holder) × IsWithout x xs ys
taken_out x [] alone has = absurd (no_element x has)
taken_out x (z ∷ xs) alone has =
    let later = λ (apart : z ≡ x → ⊥). taken_out x xs alone.1 (Contains-tail z xs x apart has) in
    let first_is = λ (same : z ≡ x). subst (λ y. IsWithout y (z ∷ xs) xs) same (without_first z xs alone) in
    let later_is = λ (apart : z ≡ x → ⊥). without_later x z xs (later apart).0 apart alone (later apart).1 in
    by_holder z x (λ same. (xs, first_is same)) (λ apart. (z ∷ (later apart).0, later_is apart))

-- an element weighs no more than all
pub element_weighs : (x : Holder) (xs : List Holder) → HasNoRepetition xs → Contains xs x → (rest : ℕ) × (sum_by weight xs ≡ weight x + rest)
element_weighs x xs alone has =
    let out = taken_out x xs alone has in
    (sum_by weight out.0, out.1.lighter)

-- two elements weigh no more than all
pub elements_weigh : (x y : Holder) (xs : List Holder) → HasNoRepetition xs → (x ≡ y → ⊥) → Contains xs x → Contains xs y → (rest : ℕ) × (sum_by weight xs ≡ weight x + (weight y + rest))
elements_weigh x y xs alone apart has also =
    let out = taken_out x xs alone has in
    let more = element_weighs y out.0 out.1.alone (out.1.rest y apart also) in
    let lighter : sum_by weight xs ≡ weight x + sum_by weight out.0 = out.1.lighter in
    let other : sum_by weight out.0 ≡ weight y + more.0 = more.1 in
    (more.0, omega arith)
