use Rattle.std.proofs.Common.{◌≡◌, ◌==◌, length, true, List, sym, ap, ◌∙◌, rules, tests}
use Rattle.std.proofs.lemmas.Iterator.{YieldsList-from_slice}
use Rattle.std.proofs.lemmas.Iterator.Search.{all_from_yields_List}
use Rattle.gup_base.specs.Parts.{Part, words_of}
use Rattle.gup_conditions.proofs.AnswerWords.{is_number_at, moved}
use Rattle.gup_conditions.proofs.answers.are_moved.Goals as goal

pub returns-then-has_words : goal.returns-then-has_words
returns-then-has_words c =
    let all = all_from_yields_List is_number_at _ _ c.all.result c.all.ensures.ran (YieldsList-from_slice c.args.words.now cc) (λ x b q k. search (rules, tests)) in
    let many : (length c.args.words.now == words_of c.args.parts.now) ≡ true = ap (λ (parts : List Part). length c.args.words.now == words_of parts) (sym c.as_slice.ensures) ∙ (sym c.has_words.ensures ∙ c.if-has_words.true) in
    moved (words_of c.args.parts.now) c.args.words.now c.all.result many all
