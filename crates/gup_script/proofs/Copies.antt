-- What a view of each element shows of a copy.
use Rattle.std.proofs.Common.{◌≡◌, List, [], ◌∷◌, map, refl}
use Rattle.std.specs.List.{AllZip}

-- copies with equal views
pub map_of_copies : {A B : Type 0} (R : A → A → Type 0) (v : A → B) → ((x y : A) → R x y → v y ≡ v x) → (xs ys : List A) → AllZip R xs ys → map v ys ≡ map v xs
map_of_copies R v same [] [] h = refl
map_of_copies R v same [] (y ∷ ys) h = absurd h
map_of_copies R v same (x ∷ xs) [] h = absurd h
map_of_copies R v same (x ∷ xs) (y ∷ ys) h =
    let first = same x y h.0 in
    let rest = map_of_copies R v same xs ys h.1 in
    cc
