-- Lists of slots, and how many of them are filled.
use Rattle.std.proofs.Common.{◌≡◌, ℕ, zero, suc, ◌<◌, List, [], ◌∷◌, length, replicate, count_by, Option, Some, None, is_some, IsSome, refl, arith}
use Rattle.std.proofs.Math.Path.{fun_ext}
use Rattle.std.proofs.lemmas.Grind.{common_steps}
use Rattle.gup_notify.specs.Mirrors.{Filled, mirrors_of, no_mirrors}

none_at : (n m : ℕ) → mirrors_of (replicate n None) m ≡ None
none_at zero m = refl
none_at (suc n) zero = refl
none_at (suc n) (suc m) = none_at n m

-- so many empty slots
pub none_filled : (n : ℕ) → mirrors_of (replicate n None) ≡ no_mirrors
none_filled n = fun_ext (none_at n)

-- where some are counted, one is filled
pub some_filled : (slots : List (Option Filled)) → 0 < count_by is_some slots → (m : ℕ) × (m < length slots) × IsSome (mirrors_of slots m)
some_filled [] more = absurd (omega arith)
some_filled (Some filled ∷ slots) more = (0, omega arith, refl)
some_filled (None ∷ slots) more =
    let fewer : 0 < count_by is_some slots = grind (arith, common_steps) in
    let rest = some_filled slots fewer in
    (suc rest.0, omega arith, rest.2)

-- and the other way round
pub is_counted : (slots : List (Option Filled)) (m : ℕ) → IsSome (mirrors_of slots m) → 0 < count_by is_some slots
is_counted [] m filled = absurd (cc)
is_counted (Some f ∷ slots) zero filled = grind (arith, common_steps)
is_counted (None ∷ slots) zero filled = absurd (cc)
is_counted (slot ∷ slots) (suc m) filled = let rest = is_counted slots m filled in grind (arith, common_steps)
