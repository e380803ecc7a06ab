-- A written turn's word: what is found in it is spelled by it, and what it spells is read from it.
use Rattle.std.specs.Prelude.{decimal}
use Rattle.std.proofs.Common.{◌≡◌, ℕ, ◌≤◌, Bool, true, false, cond, ltb, List, Some, length, refl, sym, ap, subst, ◌∙◌, inl, inr, lit<}
use Rattle.std.specs.List.{position_or_len, before_first, after_first}
use Rattle.gup_read_words.specs.Text.{count_in, is_star, most_times, turn_name, turn_times}
use Rattle.gup_spec_grammar.specs.Spelling.{Lacks, turn_word, IsTurnWord}
use Rattle.gup_read_words.proofs.Steps.{same_given}
use Rattle.gup_read_words.proofs.Cuts.{joined, cut_found, cut_read, uncut_found, uncut_read}
use Rattle.gup_read_words.proofs.SpelledNumbers.{count_found, count_read}

pub turn_found : (word : List ℕ) (times : ℕ) → turn_times word ≡ Some times → IsTurnWord word (turn_name word) times
unfolding turn_times turn_name
turn_found word times e = way (ltb (position_or_len is_star word) (length word)) refl e where
  way : (b : Bool) → ltb (position_or_len is_star word) (length word) ≡ b → cond b (count_in 1 most_times (after_first is_star word)) (Some 1) ≡ Some times → IsTurnWord word (before_first is_star word) times
  way true holds t =
      let cut = cut_found 42 word holds in
      let n = count_found 1 most_times (after_first is_star word) times t in
      (cut.1, inr (cut.0 ∙ ap (joined 42 (before_first is_star word)) n.0, n.1, n.2))
  way false past t =
      let whole = uncut_found 42 word past in
      (subst (Lacks 42) (sym whole.0) whole.1, inl (sym whole.0, sym (same_given 1 times t)))

once_read : (name : List ℕ) → Lacks 42 name → (turn_name name ≡ name) × (turn_times name ≡ Some 1)
unfolding turn_times turn_name
once_read name lacks =
    let whole = uncut_read 42 name lacks in
    (whole.1, rw whole.0 refl)

times_read : (name : List ℕ) (times : ℕ) → Lacks 42 name → 1 ≤ times → times ≤ most_times → (turn_name (turn_word name times) ≡ name) × (turn_times (turn_word name times) ≡ Some times)
unfolding turn_times turn_name
times_read name times lacks low high =
    let cut = cut_read 42 name (decimal times) lacks in
    (cut.before_is, rw (cut.within, cut.after_is) (count_read 1 most_times (decimal times) times (lit< tt) (refl, low, high)))

pub turn_read : (word name : List ℕ) (times : ℕ) → IsTurnWord word name times → (turn_name word ≡ name) × (turn_times word ≡ Some times)
turn_read word name times h =
    elim h.1 [
      | inl once ↦
          let r = once_read name h.0 in
          (ap turn_name once.0 ∙ r.0, ap turn_times once.0 ∙ r.1 ∙ ap (λ (n : ℕ). Some n) (sym once.1))
      | inr more ↦
          let r = times_read name times h.0 more.1 more.2 in
          (ap turn_name more.0 ∙ r.0, ap turn_times more.0 ∙ r.1)
    ]
