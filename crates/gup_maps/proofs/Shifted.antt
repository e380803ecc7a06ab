-- Rows that stand after others which were taken out.
use Rattle.std.proofs.Common.{◌≡◌, ℕ, suc, ◌+◌, ◌≤◌, List, ◌++◌, take, drop, length, refl, ◌∙◌, arith}
use Rattle.std.specs.List.{remove}
use Rattle.std.proofs.lemmas.List.{length-take-le, drop-append-le, drop-take, drop-drop}

module _ {X : Type 0} (xs : List X) (start place : ℕ) (within : start + place ≤ length xs) where
  -- what follows a place, seen from the start on
  drop-followed : (ys : List X) → drop start (take (start + place) xs ++ ys) ≡ take place (drop start xs) ++ ys
  drop-followed ys =
      let len : length (take (start + place) xs) ≡ start + place = length-take-le (start + place) xs within in
      drop-append-le start (take (start + place) xs) ys (omega arith) ∙ rw (drop-take start place xs) refl

  pub drop-insert : (new : List X) → drop start (take (start + place) xs ++ (new ++ drop (start + place) xs)) ≡ take place (drop start xs) ++ (new ++ drop place (drop start xs))
  drop-insert new = drop-followed (new ++ drop (start + place) xs) ∙ rw (drop-drop place start xs) refl

  pub drop-remove : drop start (remove xs (start + place)) ≡ remove (drop start xs) place
  drop-remove =
      let next : start + suc place ≡ suc (start + place) = omega arith in
      drop-followed (drop (suc (start + place)) xs) ∙ rw (drop-drop (suc place) start xs, next) refl
