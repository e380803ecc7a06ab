-- Lines of turns, written and drawn: each function answers as the grammar and its faults have it.
use Rattle.std.proofs.Common.{◌≡◌, ℕ, ◌+◌, ◌≤◌, ◌||◌, true, eqb, ltb, leb, List, [], ◌∷◌, ◌++◌, length, replicate, refl, sym, ap, ap₂, subst, ◌∙◌, Option, Some, None, is_some, Decides}
use Rattle.std.specs.Prelude.{codes}
use Rattle.std.specs.List.{AllByRecursion}
use Rattle.std.proofs.lemmas.Bool.{ltb-true, lt-ltb, leb-true, le-leb}
use Rattle.std.proofs.lemmas.Bool.Decides.{Decides-eqb, Decides-or, Decides-and}
use Rattle.gup_read_words.specs.Text.{number_in, turn_name, turn_times}
use Rattle.gup_spec_grammar.specs.Spelling.{IsNumber, IsTurnWord}
use Rattle.gup_read_words.proofs.SpelledNumbers.{number_found, number_read}
use Rattle.gup_read_words.proofs.SpelledTurns.{turn_found, turn_read}
use Rattle.gup_spec_grammar.specs.Names.{find}
use Rattle.gup_spec_grammar.specs.declared.fault.Reason.TheVariants.{Number, Name, Twice, Limit}
use Rattle.gup_spec_grammar.specs.Outline.{Outline, with_turns, draws}
use Rattle.gup_script.specs.Limits.{most_turns}
use Rattle.gup_spec_grammar.specs.Said.{Word, some_turns, random_turns}
use Rattle.gup_spec_grammar.specs.Grammar.{HasTimes, TurnsAnActor, AreTurnWords, NamesActor, SaidNames, SaidLimits}
use Rattle.gup_read_outline.specs.Named.{actor_of}
use Rattle.gup_read.specs.Reading.{turner, are_times, are_turners, or_zero, turns_of, turns_in, random_in}
use Rattle.gup_read.proofs.Verdicts.{checked, skipped, needed, ended, merged}
use Rattle.gup_read.proofs.Known.{number_finds, actor_finds}
use Rattle.gup_read.proofs.Declaring.{one_found}
use Rattle.gup_read.proofs.Places.{JudgesSaid, JudgesTests, placed, misplaced}

-- ---- written turns

value_of : {A : Type 0} (o : Option A) → is_some o ≡ true → (a : A) × (o ≡ Some a)
value_of (Some a) e = (a, refl)
value_of None e = absurd cc

given_some : {A : Type 0} (o : Option A) (a : A) → o ≡ Some a → is_some o ≡ true
given_some o a e = ap is_some e

times_decides : (word : Word) → Decides (is_some (turn_times word)) (HasTimes word)
times_decides word = (
  λ e. let t = value_of (turn_times word) e in (turn_name word, t.0, turn_found word t.0 t.1),
  λ h. given_some (turn_times word) h.1 (turn_read word h.0 h.1 h.2).1,
)

pub times_decide : (words : List Word) → Decides (are_times words) (AllByRecursion HasTimes words)
times_decide [] = (λ _. tt, λ _. refl)
times_decide (word ∷ words) = Decides-and (is_some (turn_times word)) (are_times words) (times_decides word) (times_decide words)

turner_decides : (st : Outline) (word : Word) → HasTimes word → Decides (is_some (turner st word)) (TurnsAnActor st word)
turner_decides st word timed =
    let t = turn_read word timed.0 timed.1 timed.2 in (
      λ e. let a = value_of (turner st word) e in (turn_name word, timed.1, a.0, turn_found word timed.1 t.1, (actor_finds st (turn_name word)).0 a.0 a.1),
      λ h. let name_is = (turn_read word h.0 h.1 h.3).0 in given_some (turner st word) h.2 (ap (λ n. actor_of (find st.names n)) name_is ∙ (actor_finds st h.0).1 h.2 h.4),
    )

pub turners_decide : (st : Outline) (words : List Word) → AllByRecursion HasTimes words → Decides (are_turners st words) (AllByRecursion (TurnsAnActor st) words)
turners_decide st [] timed = (λ _. tt, λ _. refl)
turners_decide st (word ∷ words) timed = Decides-and (is_some (turner st word)) (are_turners st words) (turner_decides st word timed.0) (turners_decide st words timed.1)

-- of a word: how often, and who
times_are : (word name : Word) (times : ℕ) → IsTurnWord word name times → or_zero (turn_times word) ≡ times
times_are word name times h = ap or_zero (turn_read word name times h).1

turner_is : (st : Outline) (word name : Word) (times a : ℕ) → IsTurnWord word name times → NamesActor st name a → or_zero (turner st word) ≡ a
turner_is st word name times a h named = ap or_zero (ap (λ n. actor_of (find st.names n)) (turn_read word name times h).0 ∙ (actor_finds st name).1 a named)

pub are_turns : (st : Outline) (words : List Word) → AllByRecursion (TurnsAnActor st) words → AreTurnWords st words (turns_of st words)
are_turns st [] h = refl
are_turns st (word ∷ words) h =
    let t = h.0 in
    let turns = ap₂ (λ n a. replicate n a ++ turns_of st words) (times_are word t.0 t.1 t.3) (turner_is st word t.0 t.1 t.2 t.3 t.4) in
    (t.0, t.1, t.2, turns_of st words, t.3, t.4, are_turns st words h.1, turns)

pub turns_are : (st : Outline) (words : List Word) (actors : List ℕ) → AreTurnWords st words actors → actors ≡ turns_of st words
turns_are st [] actors h = h
turns_are st (word ∷ words) actors h =
    let rest = turns_are st words h.3 h.6 in
    let times = times_are word h.0 h.1 h.4 in
    let turner = turner_is st word h.0 h.1 h.2 h.4 h.5 in
    h.7 ∙ ap (λ (r : List ℕ). replicate h.1 h.2 ++ r) rest ∙ sym (ap₂ (λ n a. replicate n a ++ turns_of st words) times turner)

turns_tests : (st : Outline) (first : Word) (more : List Word) → JudgesTests st (some_turns first more) (turns_in st (first ∷ more))
unfolding turns_in
turns_tests st first more =
    let words : List Word = first ∷ more in
    checked Number (are_times words) _ (times_decide words) λ timed.
    checked Name (are_turners st words) _ (turners_decide st words timed) λ turning.
    skipped Twice _ (ended Limit (leb (length st.script.turns + length (turns_of st words)) most_turns) (with_turns (turns_of st words) st) (few turning)
    (λ _. (turns_of st words, are_turns st words turning, refl))
    (λ x _ h. h.2 ∙ ap (λ actors. with_turns actors st) (turns_are st words h.0 h.1)))
  where
    few : AllByRecursion (TurnsAnActor st) (first ∷ more) → Decides (leb (length st.script.turns + length (turns_of st (first ∷ more))) most_turns) (SaidLimits st (some_turns first more))
    few turning = (
      λ e. (turns_of st (first ∷ more), are_turns st (first ∷ more) turning, leb-true _ _ e),
      λ h. le-leb _ _ (subst (λ (actors : List ℕ). length st.script.turns + length actors ≤ most_turns) (turns_are st (first ∷ more) h.0 h.1) h.2),
    )

pub judged_turns : (st : Outline) (fields : List Word) → JudgesSaid st (codes "turns") fields (turns_in st fields)
unfolding turns_in
judged_turns st [] = misplaced st (codes "turns") [] refl
judged_turns st (first ∷ more) = placed st (codes "turns") (first ∷ more) (some_turns first more) _ refl (turns_tests st first more)

-- ---- turns that are drawn

random_tests : (st : Outline) (start count : Word) → JudgesTests st (random_turns start count) (random_in st (start ∷ count ∷ []))
unfolding random_in
random_tests st start count =
    merged Number _ (λ x n. (x.0, n.0, x.1, n.1)) (λ h. (h.0, h.2)) (λ h. (h.1, h.3))
    (needed Number (number_in start) _ (number_finds start) λ x is_x.
    needed Number (number_in count) _ (number_finds count) λ n is_n.
    checked Name (eqb n 0 || ltb 0 (length st.script.actors)) _ (someone n is_n) λ _.
    skipped Twice _ (ended Limit (leb (length st.script.turns + n) most_turns) (with_turns (draws n (length st.script.actors) x) st) (few n is_n)
    (λ _. (x, n, number_found start x is_x, number_found count n is_n, refl))
    (λ next _ h. h.4 ∙ ap₂ (λ c b. with_turns (draws c (length st.script.actors) b) st) (same count h.1 n h.3 is_n) (same start h.0 x h.2 is_x))))
  where
    same : (word : Word) (m n : ℕ) → IsNumber word m → number_in word ≡ Some n → m ≡ n
    same word m n h is = one_found (number_in word) m n (number_read word m h) is

    someone : (n : ℕ) → number_in count ≡ Some n → Decides (eqb n 0 || ltb 0 (length st.script.actors)) (SaidNames st (random_turns start count))
    someone n is = Decides-or (eqb n 0) (ltb 0 (length st.script.actors)) (none n is) (ltb-true _ _, lt-ltb _ _) where
      none : (n : ℕ) → number_in count ≡ Some n → Decides (eqb n 0) (IsNumber count 0)
      none n is = (
        λ e. number_found count 0 (is ∙ ap (λ (k : ℕ). Some k) ((Decides-eqb n 0).0 e)),
        λ h. (Decides-eqb n 0).1 (sym (same count 0 n h is)),
      )

    few : (n : ℕ) → number_in count ≡ Some n → Decides (leb (length st.script.turns + n) most_turns) (SaidLimits st (random_turns start count))
    few n is = (
      λ e. (n, number_found count n is, leb-true _ _ e),
      λ h. le-leb _ _ (subst (λ (m : ℕ). length st.script.turns + m ≤ most_turns) (same count h.0 n h.1 is) h.2),
    )

pub judged_random : (st : Outline) (fields : List Word) → JudgesSaid st (codes "random") fields (random_in st fields)
unfolding random_in
judged_random st [] = misplaced st (codes "random") [] refl
judged_random st (start ∷ []) = misplaced st (codes "random") (start ∷ []) refl
judged_random st (start ∷ count ∷ []) = placed st (codes "random") (start ∷ count ∷ []) (random_turns start count) _ refl (random_tests st start count)
judged_random st (start ∷ count ∷ other ∷ more) = misplaced st (codes "random") (start ∷ count ∷ other ∷ more) refl
