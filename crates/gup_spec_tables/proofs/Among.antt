-- Numbers in a list, with one more behind them.
use Rattle.std.proofs.Common.{◌≡◌, ℕ, ◌==◌, ◌||◌, Bool, true, false, List, [], ◌∷◌, ◌++◌, refl, ◌∙◌, arith}
use Rattle.std.proofs.lemmas.Bool.Decides.{nat_tests}
use Rattle.gup_spec_tables.specs.Tables.{is_among, AreApart}

pub among_behind : (list : List ℕ) (last number : ℕ) → is_among (list ++ last ∷ []) number ≡ (is_among list number || number == last)
among_behind [] last number = go (number == last)
  where
    go : (b : Bool) → (b || false) ≡ (false || b)
    go true = refl
    go false = refl
among_behind (first ∷ rest) last number = go (number == first) (among_behind rest last number)
  where
    go : (b : Bool) → is_among (rest ++ last ∷ []) number ≡ (is_among rest number || number == last) → (b || is_among (rest ++ last ∷ []) number) ≡ ((b || is_among rest number) || number == last)
    go true is = refl
    go false is = is

pub apart_behind : (list : List ℕ) (last : ℕ) → AreApart list → is_among list last ≡ false → AreApart (list ++ last ∷ [])
apart_behind [] last apart none = (refl, tt)
apart_behind (first ∷ rest) last apart none =
    let both = parts (last == first) none in
    let other : (first == last) ≡ false = swapped first last both.0 in (
      among_behind rest last first ∙ rw (apart.0, other) refl,
      apart_behind rest last apart.1 both.1,
    )
  where
    parts : (b : Bool) → (b || is_among rest last) ≡ false → (b ≡ false) × (is_among rest last ≡ false)
    parts true none = absurd cc
    parts false none = (refl, none)

    swapped : (m n : ℕ) → (n == m) ≡ false → (m == n) ≡ false
    swapped m n test = grind (arith, nat_tests, test)
