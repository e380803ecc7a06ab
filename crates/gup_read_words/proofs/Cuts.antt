-- A text that is cut at its first byte c, as `split_once` cuts it.
use Rattle.std.specs.Prelude.{◌≢◌, ◌==◌, decimal}
use Rattle.std.proofs.Common.{◌≡◌, ℕ, suc, ◌+◌, ◌^◌, ◌<◌, ◌≤◌, Bool, true, false, ltb, eqb, List, [], ◌∷◌, ◌++◌, length, get_or, take, drop, refl, sym, ap, subst, ◌∙◌, append_assoc, take_all, arith}
use Rattle.std.specs.List.{position_or_len, before_first, after_first}
use Rattle.std.proofs.lemmas.Bool.{ltb-true, ltb-false, lt-ltb, le-ltb, eqb-true, eq-eqb, ne_eqb}
use Rattle.std.proofs.lemmas.List.{length-append, get_or_append_left, get_or_at, take_at, drop_at, get_or-take, length-take}
use Rattle.std.proofs.lemmas.List.Elements.{All-from_get_or, All-get_or}
use Rattle.std.proofs.lemmas.List.Sums.{position_or_len_is, fails_before_first, passes_at_first, split_at_first}
use Rattle.std.proofs.lemmas.Fmt.{decimal_is_IsNumeral}
use Rattle.std.proofs.lemmas.Str.Parse.{digit_at}
use Rattle.gup_spec_grammar.specs.Spelling.{IsDigit, Lacks}

abbrev pub is_byte : ℕ → ℕ → Bool
is_byte c b = b == c

-- one text, the byte, and another
abbrev pub joined : ℕ → List ℕ → List ℕ → List ℕ
joined c before after = before ++ (c ∷ []) ++ after

-- the text holds the byte, and these stand before and after the first
pub record IsCut (c : ℕ) (text before after : List ℕ) : Type 0 where
  pub within : ltb (position_or_len (is_byte c) text) (length text) ≡ true
  pub before_is : before_first (is_byte c) text ≡ before
  pub after_is : after_first (is_byte c) text ≡ after

other_byte : (a b : ℕ) → eqb a b ≡ false → a ≢ b
other_byte a b other same = let e : eqb a b ≡ true = eq-eqb a b same in absurd cc

lacks_before : (c : ℕ) (text : List ℕ) → Lacks c (before_first (is_byte c) text)
lacks_before c text =
    let at : ℕ = position_or_len (is_byte c) text in
    All-from_get_or (λ b. b ≢ c) (take at text) 0 (λ k h.
    let lt : k < at = omega (arith, length-take at text) in
    rw (get_or-take at text k 0 lt) (other_byte _ c (fails_before_first (is_byte c) text k 0 lt)))

pub cut_found : (c : ℕ) (text : List ℕ) → ltb (position_or_len (is_byte c) text) (length text) ≡ true → (text ≡ joined c (before_first (is_byte c) text) (after_first (is_byte c) text)) × Lacks c (before_first (is_byte c) text)
cut_found c text within =
    let at : ℕ = position_or_len (is_byte c) text in
    let before : List ℕ = before_first (is_byte c) text in
    let after : List ℕ = after_first (is_byte c) text in
    let lt : at < length text = ltb-true at (length text) within in
    let here : get_or text at 0 ≡ c = eqb-true _ _ (passes_at_first (is_byte c) text 0 lt) in
    (split_at_first (is_byte c) text 0 lt ∙ ap (λ b. before ++ (b ∷ after)) here ∙ sym (append_assoc before (c ∷ []) after), lacks_before c text)

pub uncut_found : (c : ℕ) (text : List ℕ) → ltb (position_or_len (is_byte c) text) (length text) ≡ false → (before_first (is_byte c) text ≡ text) × Lacks c text
uncut_found c text past =
    let at : ℕ = position_or_len (is_byte c) text in
    let le : length text ≤ at = ltb-false at (length text) past in
    let whole : before_first (is_byte c) text ≡ text = take_all at text le in
    (whole, subst (Lacks c) whole (lacks_before c text))

pub cut_read : (c : ℕ) (before after : List ℕ) → Lacks c before → IsCut c (joined c before after) before after
cut_read c before after lacks =
    let text : List ℕ = before ++ (c ∷ after) in
    let regrouped : joined c before after ≡ text = append_assoc before (c ∷ []) after in
    let len : length text ≡ length before + suc (length after) = length-append before (c ∷ after) in
    let fails : (k : ℕ) → k < length before → is_byte c (get_or text k 0) ≡ false = λ k h.
    let other = All-get_or (λ b. b ≢ c) before k 0 h lacks in
    rw (get_or_append_left before (c ∷ after) 0 k h) (ne_eqb (get_or before k 0) c other) in
    let passes : length before < length text → is_byte c (get_or text (length before) 0) ≡ true = λ h. rw (get_or_at before c after 0 (length before) refl) (eq-eqb c c refl) in
    let at : position_or_len (is_byte c) text ≡ length before = position_or_len_is (is_byte c) text (length before) 0 (omega arith) fails passes in
    let behind : drop (length before + 1) (joined c before after) ≡ after = drop_at (before ++ (c ∷ [])) after (length before + 1) (length-append before (c ∷ [])) in
    subst (λ t. IsCut c t before after) (sym regrouped) (record {
      within = lt-ltb _ _ (omega arith);
      before_is = rw at (take_at before (c ∷ after) (length before) refl);
      after_is = rw at (ap (drop (length before + 1)) (sym regrouped) ∙ behind);
    })

pub uncut_read : (c : ℕ) (text : List ℕ) → Lacks c text → (ltb (position_or_len (is_byte c) text) (length text) ≡ false) × (before_first (is_byte c) text ≡ text)
uncut_read c text lacks =
    let fails : (k : ℕ) → k < length text → is_byte c (get_or text k 0) ≡ false = λ k h. ne_eqb (get_or text k 0) c (All-get_or (λ b. b ≢ c) text k 0 h lacks) in
    let at : position_or_len (is_byte c) text ≡ length text = position_or_len_is (is_byte c) text (length text) 0 (omega arith) fails (λ h. absurd (omega arith)) in
    (le-ltb _ _ (omega arith), take_all _ text (omega arith))

-- the decimal text of a number holds digits alone
pub decimal_lacks : (c n : ℕ) → (IsDigit c → ⊥) → n < 2 ^ 64 → Lacks c (decimal n)
decimal_lacks c n other lt =
    All-from_get_or (λ b. b ≢ c) (decimal n) 0 (λ k h. λ same.
    let d = digit_at (decimal n) k (decimal_is_IsNumeral n lt).0.1 h in
    other (subst IsDigit same (omega arith, omega arith)))
