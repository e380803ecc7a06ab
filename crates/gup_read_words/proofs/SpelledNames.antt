-- Printable bytes and names: what is found is spelled so, and what is spelled so is found.
use Rattle.std.specs.Prelude.{IsUtf8}
use Rattle.std.proofs.Common.{◌≡◌, ℕ, ◌<◌, ◌≤◌, ◌⊎◌, Bool, true, false, ltb, List, [], ◌∷◌, length, refl, inl, inr, arith}
use Rattle.std.specs.Char.{is_ascii_lowercase, is_ascii_digit}
use Rattle.std.specs.List.{list_all, AllByRecursion}
use Rattle.std.proofs.lemmas.Bool.Decides.{nat_tests}
use Rattle.std.proofs.lemmas.List.Elements.{All-from_recursion, recursion_from_All}
use Rattle.std.proofs.lemmas.Str.{IsUtf8-from_ascii}
use Rattle.std.proofs.lemmas.Str.Ascii.{IsAscii-from_all}
use Rattle.gup_read_words.specs.Text.{is_printable, is_printable_byte, is_name, is_name_byte}
use Rattle.gup_spec_grammar.specs.Spelling.{IsPrintable, IsLetter, IsDigit, IsName}

-- ---- printable bytes

printable_bytes : (line : List ℕ) → is_printable line ≡ true → AllByRecursion (λ b. (32 ≤ b) × (b ≤ 126)) line
printable_bytes [] e = tt
printable_bytes (b ∷ line) e =
    let here : is_printable_byte b ≡ true = grind arith in
    let rest : is_printable line ≡ true = grind arith in
    ((grind (arith, nat_tests), grind (arith, nat_tests)), printable_bytes line rest)

pub printable_found : (line : List ℕ) → is_printable line ≡ true → IsPrintable line
printable_found line e = All-from_recursion (λ b. (32 ≤ b) × (b ≤ 126)) line (printable_bytes line e)

bytes_printable : (line : List ℕ) → AllByRecursion (λ b. (32 ≤ b) × (b ≤ 126)) line → is_printable line ≡ true
bytes_printable [] h = refl
bytes_printable (b ∷ line) h =
    let low = h.0.0 in
    let high = h.0.1 in
    let here : is_printable_byte b ≡ true = grind (arith, nat_tests) in
    rw here (bytes_printable line h.1)

pub printable_read : (line : List ℕ) → IsPrintable line → is_printable line ≡ true
printable_read line h = bytes_printable line (recursion_from_All (λ b. (32 ≤ b) × (b ≤ 126)) line h)

-- printable bytes are text

ascii_bytes : (line : List ℕ) → AllByRecursion (λ b. (32 ≤ b) × (b ≤ 126)) line → AllByRecursion (λ b. b < 128) line
ascii_bytes [] h = tt
ascii_bytes (b ∷ line) h = (omega (arith, h.0.1), ascii_bytes line h.1)

pub printable_text : (line : List ℕ) → IsPrintable line → IsUtf8 line
printable_text line h =
    IsUtf8-from_ascii line (IsAscii-from_all line (All-from_recursion (λ b. b < 128) line (ascii_bytes line (recursion_from_All (λ b. (32 ≤ b) × (b ≤ 126)) line h))))

-- ---- names

letter_or_digit : (b : ℕ) → is_name_byte b ≡ true → IsLetter b ⊎ IsDigit b
letter_or_digit b h = letter (is_ascii_lowercase b) refl where
  letter : (t : Bool) → is_ascii_lowercase b ≡ t → IsLetter b ⊎ IsDigit b
  letter true e = inl (grind (arith, nat_tests), grind (arith, nat_tests))
  letter false e =
      let digit : is_ascii_digit b ≡ true = grind arith in
      inr (grind (arith, nat_tests), grind (arith, nat_tests))

rest_found : (cs : List ℕ) → list_all is_name_byte cs ≡ true → AllByRecursion (λ b. IsLetter b ⊎ IsDigit b) cs
rest_found [] e = tt
rest_found (c ∷ cs) e =
    let here : is_name_byte c ≡ true = grind arith in
    let rest : list_all is_name_byte cs ≡ true = grind arith in
    (letter_or_digit c here, rest_found cs rest)

rest_read : (cs : List ℕ) → AllByRecursion (λ b. IsLetter b ⊎ IsDigit b) cs → list_all is_name_byte cs ≡ true
rest_read [] h = refl
rest_read (c ∷ cs) h =
    let here : is_name_byte c ≡ true = elim h.0 [ inl l ↦ grind (arith, nat_tests) | inr d ↦ grind (arith, nat_tests) ] in
    rw here (rest_read cs h.1)

pub name_found : (word : List ℕ) → is_name word ≡ true → IsName word
unfolding is_name
name_found [] e = absurd cc
name_found (c ∷ cs) e =
    let low : 97 ≤ c = grind (arith, nat_tests) in
    let high : c ≤ 122 = grind (arith, nat_tests) in
    let short : length cs < 16 = grind (arith, nat_tests) in
    let rest : list_all is_name_byte cs ≡ true = grind (arith, nat_tests) in
    ((low, high), All-from_recursion (λ b. IsLetter b ⊎ IsDigit b) cs (rest_found cs rest), short)

pub name_read : (word : List ℕ) → IsName word → is_name word ≡ true
unfolding is_name
name_read [] h = absurd h
name_read (c ∷ cs) h =
    let l = h.0 in
    let short = h.2 in
    let rest = rest_read cs (recursion_from_All (λ b. IsLetter b ⊎ IsDigit b) cs h.1) in
    let first : is_ascii_lowercase c ≡ true = grind (arith, nat_tests) in
    let within : ltb (length cs) 16 ≡ true = grind (arith, nat_tests) in
    rw (first, within, rest) refl
