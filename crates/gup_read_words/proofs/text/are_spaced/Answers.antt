use Rattle.std.proofs.Common.{◌≡◌, ℕ, suc, Bool, not, ◌&&◌, eqb, List, [], ◌∷◌, length, map, refl, ◌∙◌, rules, tests, arith}
use Rattle.std.specs.Borrow.{Bor}
use Rattle.std.specs.List.{list_all}
use Rattle.std.proofs.lemmas.Bool.{ne_eqb}
use Rattle.std.proofs.lemmas.Iterator.{YieldsList-from_slice}
use Rattle.std.proofs.lemmas.Iterator.Search.{all_from_yields_List}
use Rattle.gup_read_words.specs.Text.{are_spaced}
use Rattle.gup_read_words.proofs.text.are_spaced.Goals as goal

abbrev is_full : Bor (List ℕ) → Bool
is_full word = not (eqb (length word.now) 0)

full_words : (words : List (Bor (List ℕ))) → list_all is_full words ≡ are_spaced (map (λ word. word.now) words)
full_words [] = refl
full_words (word ∷ words) = head word.now (full_words words) where
  head : (text : List ℕ) → list_all is_full words ≡ are_spaced (map (λ w. w.now) words) → (not (eqb (length text) 0) && list_all is_full words) ≡ are_spaced (text ∷ map (λ w. w.now) words)
  head [] same = refl
  head (c ∷ cs) same = rw (ne_eqb (suc (length cs)) 0 (λ e. absurd (omega arith))) same

pub returns : goal.returns
returns c =
    all_from_yields_List is_full _ _ c.all.result c.all.ensures.ran (YieldsList-from_slice c.args.words.now cc) (λ x b q k. search (rules, tests))
    ∙ full_words c.args.words.now
