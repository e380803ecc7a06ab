-- What is past the end of a list of frames has no reference and no mark.
use Rattle.std.proofs.Common.{◌≡◌, ℕ, ◌+◌, ◌*◌, ◌<◌, ◌≤◌, Bool, true, false, List, length, get_or, refl, arith}
use Rattle.std.proofs.lemmas.List.{get_or_past}
use Rattle.gup_frames.specs.Frames.{word_in}
use Rattle.std.specs.Prelude.{nat_lt}
use Rattle.std.proofs.lemmas.Bool.Decides.{nat_tests}

inside_or_past : (n f : ℕ) → (n ≤ f → ⊥) → f < n
inside_or_past n f inside = go (nat_lt f n) refl
  where
    go : (b : Bool) → nat_lt f n ≡ b → f < n
    go true is = grind (arith, nat_tests)
    go false is = absurd (inside (grind (arith, nat_tests)))

pub held_there : (counts : List ℕ) (f : ℕ) → (get_or counts f 0 ≡ 0 → ⊥) → f < length counts
held_there counts f held = inside_or_past (length counts) f (λ past. held (get_or_past counts f 0 past))

pub marked_there : (marks : List Bool) (f : ℕ) → get_or marks f false ≡ true → f < length marks
marked_there marks f marked =
    inside_or_past (length marks) f (λ past. let e : get_or marks f false ≡ false = get_or_past marks f false past in cc)

pub written_there : (words : List ℕ) (frames f w : ℕ) → length words ≤ 512 * frames → (word_in words f w ≡ 0 → ⊥) → (f < frames) × (w < 512)
written_there words frames f w few written = go (nat_lt w 512) refl
  where
    go : (b : Bool) → nat_lt w 512 ≡ b → (f < frames) × (w < 512)
    go true is =
        let inside : w < 512 = grind (arith, nat_tests) in (
          inside_or_past frames f
              (λ past. written (rw is (get_or_past words (512 * f + w) 0 (omega (arith, few, past))))),
          inside,
        )
    go false is = absurd (written (rw is refl))
