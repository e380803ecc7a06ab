-- Lists without repetition, with an element more and with an element less.
use Rattle.std.proofs.Common.{◌≡◌, ℕ, ◌+◌, ◌==◌, Bool, true, false, List, [], ◌∷◌, length, refl, subst, arith}
use Rattle.std.specs.Prelude.{Contains}
use Rattle.std.proofs.lemmas.Bool.Decides.{Decides-eqb}
use Rattle.std.proofs.lemmas.List.Elements.{Contains-append_right}
use Rattle.std.proofs.lemmas.Map.Made.{Contains-tail}
use Rattle.gup_exec_plain.specs.LastWrite.{HasNoRepetition}

pub no_element : {X : Type 0} (x : X) → Contains [] x → ⊥
no_element x has = omega (arith, has.1)

pub first_element : {X : Type 0} (x : X) (xs : List X) → Contains (x ∷ xs) x
first_element x xs = (0, omega arith, refl)

pub later_element : {X : Type 0} (x : X) (xs : List X) (y : X) → Contains xs y → Contains (x ∷ xs) y
later_element x xs y has = Contains-append_right (x ∷ []) xs y has

-- two cases of a test on numbers
pub by_test : {P : Type 0} (x y : ℕ) → (x ≡ y → P) → ((x ≡ y → ⊥) → P) → P
by_test {P} x y same apart = go (x == y) refl
  where
    go : (b : Bool) → (x == y) ≡ b → P
    go true is = same ((Decides-eqb x y).0 is)
    go false is = apart (λ e. let yes : (x == y) ≡ true = (Decides-eqb x y).1 e in absurd (cc))

-- the list ys is xs without x
pub record IsWithout (x : ℕ) (xs ys : List ℕ) : Type 0 where
  pub alone : HasNoRepetition ys
  pub less : (y : ℕ) → Contains ys y → Contains xs y
  pub gone : Contains ys x → ⊥
  pub rest : (y : ℕ) → (x ≡ y → ⊥) → Contains xs y → Contains ys y
  pub shorter : length xs ≡ length ys + 1

-- the first element is taken out
without_first : (x : ℕ) (xs : List ℕ) → HasNoRepetition (x ∷ xs) → IsWithout x (x ∷ xs) xs
without_first x xs alone =
    record {
      alone = alone.1;
      less = later_element x xs;
      gone = alone.0;
      rest = λ y apart. Contains-tail x xs y apart;
      shorter = omega arith;
    }

-- an element is the first of both, or is in both
in_both : (z : ℕ) (xs ys : List ℕ) (y : ℕ) → (Contains xs y → Contains ys y) → Contains (z ∷ xs) y → Contains (z ∷ ys) y
in_both z xs ys y to has =
    by_test z y (λ same. subst (Contains (z ∷ ys)) same (first_element z ys)) (λ apart. later_element z ys y (to (Contains-tail z xs y apart has)))

-- a later element is taken out
without_later : (x z : ℕ) (xs ys : List ℕ) → (z ≡ x → ⊥) → HasNoRepetition (z ∷ xs) → IsWithout x xs ys → IsWithout x (z ∷ xs) (z ∷ ys)
without_later x z xs ys apart alone without =
    record {
      alone = (λ has. alone.0 (without.less z has), without.alone);
      less = λ y. in_both z ys xs y (without.less y);
      gone = λ has. without.gone (Contains-tail z ys x apart has);
      rest = λ y other. in_both z xs ys y (without.rest y other);
      shorter = omega (arith, without.shorter);
    }

pub taken_out : (x : ℕ) (xs : List ℕ) → HasNoRepetition xs → Contains xs x → (ys : List ℕ) × IsWithout x xs ys
taken_out x [] alone has = absurd (no_element x has)
taken_out x (z ∷ xs) alone has =
    let later = λ (apart : z ≡ x → ⊥). taken_out x xs alone.1 (Contains-tail z xs x apart has) in
    let first_is = λ (same : z ≡ x). subst (λ y. IsWithout y (z ∷ xs) xs) same (without_first z xs alone) in
    let later_is = λ (apart : z ≡ x → ⊥). without_later x z xs (later apart).0 apart alone (later apart).1 in
    by_test z x (λ same. (xs, first_is same)) (λ apart. (z ∷ (later apart).0, later_is apart))
