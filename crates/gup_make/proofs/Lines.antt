-- Lines that are written word by word.
use Rattle.std.proofs.Common.{◌≡◌, ℕ, List, [], ◌∷◌, ◌++◌, map, refl, ap, ◌∙◌}
use Rattle.std.specs.Prelude.{codes}
use Rattle.std.specs.List.{join_with_byte}
use Rattle.std.proofs.lemmas.List.{append_assoc}
use Rattle.gup_spec_grammar.specs.Said as said
use Rattle.gup_make.specs.Made.{Made, line}
use Rattle.gup_make.specs.Written.{spelled, more, next_words}
use Rattle.gup_make.specs.declared.word.Word.{Word}

more_more : (made : Made) (x y : List ℕ) → more y (more x made) ≡ more (x ++ y) made
more_more made x y = ap (λ (l : List ℕ). record made { text = l }) (append_assoc made.text x y)

join_more : (first word : said.Word) (words : List said.Word) → join_with_byte 32 ((first ++ (32 ∷ word)) ∷ words) ≡ join_with_byte 32 (first ∷ word ∷ words)
join_more first word [] = refl
join_more first word (next ∷ words) = append_assoc first (32 ∷ word) (32 ∷ join_with_byte 32 (next ∷ words))

-- a line is written by its words
pub line_written : (first : said.Word) (words : List Word) (made : Made) → more (codes "\n") (next_words words (more first made)) ≡ line (first ∷ map spelled words) made
line_written first [] made = more_more made first (codes "\n")
line_written first (word ∷ words) made =
    let one : more (spelled word) (more (codes " ") (more first made)) ≡ more (first ++ (32 ∷ spelled word)) made =
    more_more (more first made) (codes " ") (spelled word) ∙ more_more made first (32 ∷ spelled word) in
    ap (λ (m : Made). more (codes "\n") (next_words words m)) one
    ∙ line_written (first ++ (32 ∷ spelled word)) words made
    ∙ ap (λ (joined : List ℕ). more (joined ++ codes "\n") made) (join_more first (spelled word) (map spelled words))
