-- What `parse` answers, and the number in a word.
use Rattle.std.specs.Prelude.{decimal}
use Rattle.std.proofs.Common.{◌≡◌, ◌≢◌, ℕ, zero, suc, ◌^◌, ◌<◌, ◌⊎◌, true, false, List, [], ◌∷◌, length, get_or, Option, Some, None, Result, Ok, Err, refl, sym, ap, subst, ◌∙◌, inl, inr, arith}
use Rattle.std.specs.Str.Parse.{ParsesUnsigned, AllDigits, digits_value}
use Rattle.std.specs.Result.{OkIff}
use Rattle.std.proofs.lemmas.Fmt.{parse-decimal, decimal_is_IsNumeral, first_decimal, decimal_digit, decimal-digits_value}
use Rattle.std.proofs.lemmas.Str.Parse.{IsNumeralModel, numerals_by_value, tells_digits, digit_from_value, parse_plain}
use Rattle.std.proofs.lemmas.Bool.Decides.{nat_tests}
use Rattle.gup_read_words.specs.Text.{number_in, is_padded}
use Rattle.gup_spec_grammar.specs.Spelling.{IsNumber}
use Rattle.gup_read_words.proofs.SpelledNumbers.{number_found, number_read}

number_cases : (word : List ℕ) → ((n : ℕ) × IsNumber word n) ⊎ (number_in word ≡ None)
number_cases word = read (number_in word) refl where
  read : (o : Option ℕ) → number_in word ≡ o → ((n : ℕ) × IsNumber word n) ⊎ (number_in word ≡ None)
  read (Some n) e = inl (n, number_found word n e)
  read None e = inr e

digits : IsNumeralModel (AllDigits 10) (digits_value 10)
digits = numerals_by_value _ tells_digits

bare_front : (word : List ℕ) → is_padded word ≡ false → (get_or word 0 0 ≢ 43) × (get_or word 0 0 ≡ 48 → length word ≡ 1)
unfolding is_padded
bare_front [] bare = ((λ e. absurd (omega (arith, e))), (λ e. absurd (omega (arith, e))))
bare_front (c ∷ cs) bare = ((λ e. grind (arith, nat_tests)), (λ e. grind (arith, nat_tests)))

digits_are_bare : (word : List ℕ) → AllDigits 10 word → (get_or word 0 0 ≡ 48 → length word ≡ 1) → is_padded word ≡ true → ⊥
unfolding is_padded
digits_are_bare [] all lead padded = cc
digits_are_bare (c ∷ cs) all lead padded =
    let first = digit_from_value c all.0 in
    let lead_here : c ≡ 48 → suc (length cs) ≡ 1 = lead in
    grind (arith, nat_tests)

decimal_front : (n : ℕ) → n < 2 ^ 64 → get_or (decimal n) 0 0 ≡ 48 → length (decimal n) ≡ 1
decimal_front zero lt e = ap length (decimal_digit 0 (omega arith))
decimal_front (suc n) lt e = absurd (omega (arith, e, first_decimal (suc n) (omega arith) lt))

decimal_is_bare : (n : ℕ) → n < 2 ^ 64 → is_padded (decimal n) ≡ true → ⊥
decimal_is_bare n lt padded = digits_are_bare (decimal n) (decimal_is_IsNumeral n lt).0.1 (decimal_front n lt) padded

-- what `parse` refuses is no number
pub none_from_parse : {E : Type 0} (word : List ℕ) (r : Result ℕ E) (d : E) → ParsesUnsigned 64 10 word r → r ≡ Err d → number_in word ≡ None
none_from_parse word r d h e =
    elim (number_cases word) [
      | inl x ↦ let f : r ≡ Ok x.0 = parse-decimal 64 x.0 word r x.1.1 x.1.1 x.1.0 h in absurd cc
      | inr none ↦ none
    ]

-- a text with a plus or a zero too many in front is no number
pub none_from_padded : (word : List ℕ) → is_padded word ≡ true → number_in word ≡ None
none_from_padded word padded =
    elim (number_cases word) [
      | inl x ↦ absurd (decimal_is_bare x.0 x.1.1 (subst (λ w. is_padded w ≡ true) x.1.0 padded))
      | inr none ↦ none
    ]

-- what `parse` gives of any other text is its number
pub number_from_parse : {E : Type 0} (word : List ℕ) (r : Result ℕ E) (n : ℕ) → ParsesUnsigned 64 10 word r → r ≡ Ok n → is_padded word ≡ false → number_in word ≡ Some n
number_from_parse word r n h e bare =
    let front = bare_front word bare in
    let plain = parse_plain digits 64 word r h front.0 in
    let read = subst (λ x. OkIff x (AllDigits 10 word × (0 < length word) × (digits_value 10 word < 2 ^ 64)) (digits_value 10 word)) e plain in
    let spelled : decimal (digits_value 10 word) ≡ word = decimal-digits_value digits word read.0.0 read.0.1 front.1 read.0.2 in
    number_read word (digits_value 10 word) (sym spelled, read.0.2) ∙ ap Some (sym read.1)
