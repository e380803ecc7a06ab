use Rattle.std.proofs.Common.{◌≡◌, ℕ, List, true, false, map, refl, sym, ◌∙◌, rules}
use Rattle.std.specs.Borrow.{Bor}
use Rattle.std.specs.Prelude.{is_some}
use Rattle.std.proofs.lemmas.Iterator.{YieldsList-from_slice}
use Rattle.std.proofs.lemmas.Iterator.Search.{all_from_yields_List}
use Rattle.std.proofs.lemmas.List.Folds.{list_all-map}
use Rattle.gup_read_words.specs.Text.{turn_times}
use Rattle.gup_read.specs.Reading.{are_times}
use Rattle.gup_read.proofs.turns.fault_of.Goals as goal

pub returns-then-all : goal.returns-then-all
returns-then-all c =
    let words = c.args.words.now in
    let all = all_from_yields_List (λ (word : Bor (List ℕ)). is_some (turn_times word.now)) _ _ c.all.result c.all.ensures.ran (YieldsList-from_slice words cc) (λ x b q k. search rules) in
    let timed : are_times (map (λ word. word.now) words) ≡ true = list_all-map (λ word. is_some (turn_times word)) (λ (word : Bor (List ℕ)). word.now) words ∙ sym all ∙ c.if-all.true in
    rw timed refl

pub returns-else-all : goal.returns-else-all
returns-else-all c =
    let words = c.args.words.now in
    let all = all_from_yields_List (λ (word : Bor (List ℕ)). is_some (turn_times word.now)) _ _ c.all.result c.all.ensures.ran (YieldsList-from_slice words cc) (λ x b q k. search rules) in
    let timed : are_times (map (λ word. word.now) words) ≡ false = list_all-map (λ word. is_some (turn_times word)) (λ (word : Bor (List ℕ)). word.now) words ∙ sym all ∙ c.if-all.false in
    rw timed refl
