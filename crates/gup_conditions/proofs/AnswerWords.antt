-- The words of answers, as the code has them.
use Rattle.std.proofs.Common.{◌≡◌, ◌==◌, ℕ, ◌<◌, ◌≤◌, Bool, true, false, cond, ◌&&◌, eqb, List, [], ◌∷◌, length, get_or, map, codes, refl, sym, ap, ◌∙◌, arith}
use Rattle.std.specs.Borrow.{Bor}
use Rattle.std.specs.List.{list_all}
use Rattle.std.specs.Str.{bytes_eq}
use Rattle.std.proofs.lemmas.List.{length-map}
use Rattle.gup_conditions.specs.Answers.{is_cause, is_number, are_moved}

abbrev pub Words : Type 0
Words = List (Bor (List ℕ))

abbrev pub texts : Words → List (List ℕ)
texts words = map (λ word. word.now) words

abbrev pub is_number_at : Bor (List ℕ) → Bool
is_number_at word = is_number word.now

-- two words, of which the first is another
pub no_cause : (words : Words) (d : Bor (List ℕ)) (same : Bool) → 2 ≤ length words → length words < 3 → same ≡ bytes_eq (get_or words 0 d).now (codes "unmovable") → same ≡ false → same ≡ is_cause (texts words)
no_cause [] d same least below is other = absurd (omega arith)
no_cause (word ∷ []) d same least below is other = absurd (omega arith)
no_cause (word ∷ count ∷ []) d same least below is other = rw (sym is ∙ other) other
no_cause (word ∷ count ∷ next ∷ words) d same least below is other = absurd (omega arith)

pub all_numbers : (words : Words) → list_all is_number_at words ≡ list_all is_number (texts words)
all_numbers [] = refl
all_numbers (word ∷ words) = ap (λ (rest : Bool). is_number word.now && rest) (all_numbers words)

-- so many words as there have to be
pub moved : (n : ℕ) (words : Words) (all : Bool) → (length words == n) ≡ true → all ≡ list_all is_number_at words → all ≡ are_moved n (texts words)
moved n words all many is = rw (length-map words (λ (word : Bor (List ℕ)). word.now), many) (is ∙ all_numbers words)
