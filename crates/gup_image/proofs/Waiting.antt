-- A list that is gone over from its front.
use Rattle.std.proofs.Common.{◌≡◌, ℕ, ◌+◌, ◌<◌, List, ◌∷◌, length, slice_get, Some, sym, ap, ◌∙◌, suc, arith}

-- n items are over, and these are left
pub record IsOver (xs rest : List ℕ) (n : ℕ) : Type 0 where
  pub at : (k : ℕ) → slice_get xs (n + k) ≡ slice_get rest k
  pub many : n + length rest ≡ length xs

pub over_none : (xs rest : List ℕ) → rest ≡ xs → IsOver xs rest 0
over_none xs rest is =
    record {
      at = λ k. let here : 0 + k ≡ k = omega arith in ap (slice_get xs) here ∙ ap (λ (ys : List ℕ). slice_get ys k) (sym is);
      many = let same : length rest ≡ length xs = ap length is in omega arith;
    }

-- the next one is over
pub over_next : (xs rest more : List ℕ) (x n : ℕ) → rest ≡ x ∷ more → IsOver xs rest n → IsOver xs more (n + 1)
over_next xs rest more x n is over =
    record {
      at = λ k.
          let here : (n + 1) + k ≡ n + suc k = omega arith in
          ap (slice_get xs) here ∙ over.at (suc k) ∙ ap (λ (ys : List ℕ). slice_get ys (suc k)) is;
      many = let same : length rest ≡ suc (length more) = ap length is in let many = over.many in omega arith;
    }

-- and it stands there
pub next_here : (xs rest more : List ℕ) (x n : ℕ) → rest ≡ x ∷ more → IsOver xs rest n → slice_get xs n ≡ Some x
next_here xs rest more x n is over =
    let here : n ≡ n + 0 = omega arith in ap (slice_get xs) here ∙ over.at 0 ∙ ap (λ (ys : List ℕ). slice_get ys 0) is

pub next_within : (xs rest more : List ℕ) (x n : ℕ) → rest ≡ x ∷ more → IsOver xs rest n → n < length xs
next_within xs rest more x n is over = let same : length rest ≡ suc (length more) = ap length is in let many = over.many in omega arith
