use Rattle.std.proofs.Common.{◌≡◌, ℕ, ◌+◌, ◌<◌, List, [], ◌∷◌, ◌++◌, codes, ◌∙◌, ap, sym, refl, append_assoc}
use Rattle.std.proofs.lemmas.Fmt.{decimal_digit}
use Rattle.gup_lines.specs.Text.{word_text}
use Rattle.gup_lines.proofs.lines.write_word.Goals as goal

-- the text of a digit is two bytes, each put on after the other
two_bytes : (old room spaced new : List ℕ) (word : ℕ) → word < 10 → room ≡ old → spaced ≡ room ++ 32 ∷ [] → new ≡ spaced ++ (48 + word) ∷ [] → new ≡ old ++ word_text word
two_bytes old room spaced new word low same space digit =
    let joined : (old ++ 32 ∷ []) ++ (48 + word) ∷ [] ≡ old ++ (codes " " ++ (48 + word) ∷ []) = rw append_assoc refl in
    digit ∙ ap (λ (xs : List ℕ). xs ++ (48 + word) ∷ []) (space ∙ ap (λ (xs : List ℕ). xs ++ 32 ∷ []) same) ∙ joined
    ∙ ap (λ (digits : List ℕ). old ++ (codes " " ++ digits)) (sym (decimal_digit word low))

pub returns-in_ok-reserve-clause-ok : goal.returns-in_ok-reserve-clause-ok
returns-in_ok-reserve-clause-ok c =
    two_bytes c.args.text.now.items c.reserve.new.self.items c.push_reserved.new.self.items c.push_reserved-then-word-lt10.new.self.items c.args.word c.if-word-lt10.true
    c.in_ok-reserve.ensures.items c.push_reserved.ensures.items c.push_reserved-then-word-lt10.ensures.items
