-- Numbers in decimal are plain words, and so are the names of handles and the addresses that are made of them.
use Rattle.std.proofs.Common.{◌≡◌, ◌≢◌, ℕ, ◌^◌, ◌<◌, ◌≤◌, ◌⊎◌, true, leb, [], ◌∷◌, ◌++◌, length, decimal, All, refl, inr, arith}
use Rattle.std.specs.List.{list_all, AllByRecursion}
use Rattle.std.proofs.lemmas.Bool.Decides.{nat_tests}
use Rattle.std.proofs.lemmas.List.{length-append}
use Rattle.std.proofs.lemmas.List.Elements.{All-from_get_or, recursion_from_All, All-weaker}
use Rattle.std.proofs.lemmas.Fmt.{decimal_is_IsNumeral, length-decimal-le, decimal_injective}
use Rattle.std.proofs.lemmas.Str.Parse.{digit_at}
use Rattle.gup_spec_grammar.specs.Spelling.{IsDigit, IsLetter, IsName, address}
use Rattle.gup_spec_grammar.specs.Said.{Word}
use Rattle.gup_make.specs.Made.{pin_name, reference_name}
use Rattle.gup_law_made.proofs.Texts.{is_plain_byte, IsPlain}

digits : (n : ℕ) → n < 2 ^ 64 → All IsDigit (decimal n)
digits n lt = All-from_get_or IsDigit (decimal n) 0 (λ k h. let d = digit_at (decimal n) k (decimal_is_IsNumeral n lt).0.1 h in (omega (arith, d), omega (arith, d)))

digits_plain : (word : Word) → AllByRecursion IsDigit word → list_all is_plain_byte word ≡ true
digits_plain [] h = refl
digits_plain (b ∷ word) h =
    let low = h.0.0 in
    let high = h.0.1 in
    let here : is_plain_byte b ≡ true = grind (arith, nat_tests) in
    rw here (digits_plain word h.1)

decimal_bytes : (n : ℕ) → n < 2 ^ 64 → list_all is_plain_byte (decimal n) ≡ true
decimal_bytes n lt = digits_plain (decimal n) (recursion_from_All IsDigit (decimal n) (digits n lt))

bytes_append : (word more : Word) → list_all is_plain_byte word ≡ true → list_all is_plain_byte more ≡ true → list_all is_plain_byte (word ++ more) ≡ true
bytes_append [] more g h = h
bytes_append (b ∷ word) more g h =
    let here : is_plain_byte b ≡ true = grind arith in
    let rest : list_all is_plain_byte word ≡ true = grind arith in
    rw here (bytes_append word more rest h)

plain : (word : Word) → list_all is_plain_byte word ≡ true → length word ≤ 30 → IsPlain word
plain word each short =
    let few : leb (length word) 30 ≡ true = grind (arith, nat_tests) in
    rw (each, few) refl

pub decimal_plain : (n : ℕ) → n < 2 ^ 64 → IsPlain (decimal n)
decimal_plain n lt = plain (decimal n) (decimal_bytes n lt) (omega (arith, length-decimal-le 20 n (omega arith) (omega arith) lt))

decimal_short : (n : ℕ) → n < 10000 → length (decimal n) ≤ 4
decimal_short n lt = length-decimal-le 4 n (omega arith) (omega arith) (omega arith)

pub address_plain : (page w : ℕ) → page < 10000 → w < 10000 → IsPlain (address page w)
address_plain page w p v =
    let before : Word = decimal page ++ 46 ∷ [] in
    let dotted : list_all is_plain_byte before ≡ true = bytes_append (decimal page) (46 ∷ []) (decimal_bytes page (omega arith)) refl in
    let short = decimal_short page p in
    let brief = decimal_short w v in
    plain (before ++ decimal w) (bytes_append before (decimal w) dotted (decimal_bytes w (omega arith))) (omega (arith, length-append before (decimal w), length-append (decimal page) (46 ∷ [])))

-- ---- the names of handles

pub pin_name_plain : (k : ℕ) → k < 10000 → IsPlain (pin_name k)
pin_name_plain k lt =
    let short = decimal_short k lt in
    plain (102 ∷ decimal k) (decimal_bytes k (omega arith)) (omega arith)

pub reference_name_plain : (k : ℕ) → k < 10000 → IsPlain (reference_name k)
reference_name_plain k lt =
    let short = decimal_short k lt in
    plain (103 ∷ decimal k) (decimal_bytes k (omega arith)) (omega arith)

name : (c k : ℕ) → IsLetter c → k < 10000 → IsName (c ∷ decimal k)
name c k letter lt =
    let short = decimal_short k lt in
    (letter, All-weaker IsDigit (λ b. IsLetter b ⊎ IsDigit b) (λ b d. inr d) (decimal k) (digits k (omega arith)), omega arith)

pub pin_name_right : (k : ℕ) → k < 10000 → IsName (pin_name k)
pin_name_right k lt = name 102 k (omega arith, omega arith) lt

pub reference_name_right : (k : ℕ) → k < 10000 → IsName (reference_name k)
reference_name_right k lt = name 103 k (omega arith, omega arith) lt

other : (c j k : ℕ) → j ≢ k → j < 2 ^ 64 → k < 2 ^ 64 → c ∷ decimal j ≢ c ∷ decimal k
other c j k ne p q same =
    let tails : decimal j ≡ decimal k = cc in
    ne (decimal_injective j k p q tails)

pub pin_name_other : (j k : ℕ) → j ≢ k → j < 2 ^ 64 → k < 2 ^ 64 → pin_name j ≢ pin_name k
pin_name_other j k ne p q = other 102 j k ne p q

pub reference_name_other : (j k : ℕ) → j ≢ k → j < 2 ^ 64 → k < 2 ^ 64 → reference_name j ≢ reference_name k
reference_name_other j k ne p q = other 103 j k ne p q
