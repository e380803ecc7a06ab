-- A number that is found in a word is spelled by it, and a word that spells a number is read as it.
use Rattle.std.specs.Prelude.{decimal}
use Rattle.std.proofs.Common.{◌≡◌, ℕ, ◌^◌, ◌<◌, ◌&&◌, Bool, true, cond, ltb, leb, List, Some, None, refl, sym, ap, subst, ◌∙◌, arith}
use Rattle.std.specs.Str.{bytes_eq}
use Rattle.std.specs.Str.Parse.{digits_value}
use Rattle.std.proofs.lemmas.Bool.{ltb-true, lt-ltb}
use Rattle.std.proofs.lemmas.Bool.Decides.{nat_tests}
use Rattle.std.proofs.lemmas.Slice.Eq.{bytes_eq-Decides}
use Rattle.std.proofs.lemmas.Fmt.{decimal_is_IsNumeral}
use Rattle.gup_read_words.specs.Text.{◌>>=◌, number_in, count_in, index_in, page_in, word_no_in}
use Rattle.gup_spec_grammar.specs.Spelling.{IsNumber, IsCount, IsIndex, IsPage, IsWordNo}
use Rattle.gup_read_words.proofs.Steps.{step_taken, test_passed}

pub number_found : (word : List ℕ) (n : ℕ) → number_in word ≡ Some n → IsNumber word n
unfolding number_in
number_found word n e =
    let m = digits_value 10 word in
    let g = test_passed (ltb m (2 ^ 64) && bytes_eq (decimal m) word) m n e in
    let below : ltb m (2 ^ 64) ≡ true = grind arith in
    let same : bytes_eq (decimal m) word ≡ true = grind arith in
    let spelled : decimal m ≡ word = (bytes_eq-Decides (decimal m) word).0 same in
    (sym spelled ∙ ap decimal g.1, subst (λ (k : ℕ). k < 2 ^ 64) g.1 (ltb-true m (2 ^ 64) below))

pub decimal_read : (n : ℕ) → n < 2 ^ 64 → number_in (decimal n) ≡ Some n
unfolding number_in
decimal_read n lt =
    let value : digits_value 10 (decimal n) ≡ n = (decimal_is_IsNumeral n lt).1 in
    let below : ltb n (2 ^ 64) ≡ true = lt-ltb n (2 ^ 64) lt in
    let same : bytes_eq (decimal n) (decimal n) ≡ true = (bytes_eq-Decides (decimal n) (decimal n)).1 refl in
    rw (value, below, same) refl

pub number_read : (word : List ℕ) (n : ℕ) → IsNumber word n → number_in word ≡ Some n
number_read word n h = ap number_in h.0 ∙ decimal_read n h.1

-- ---- numbers that have to pass a test

tested_found : (test : ℕ → Bool) (word : List ℕ) (n : ℕ) → (number_in word >>= λ m. cond (test m) (Some m) None) ≡ Some n → IsNumber word n × (test n ≡ true)
tested_found test word n e =
    let s = step_taken (number_in word) (λ m. cond (test m) (Some m) None) n e in
    let g = test_passed (test s.0) s.0 n s.2 in
    subst (λ (k : ℕ). IsNumber word k × (test k ≡ true)) g.1 (number_found word s.0 s.1, g.0)

tested_read : (test : ℕ → Bool) (word : List ℕ) (n : ℕ) → IsNumber word n → test n ≡ true → (number_in word >>= λ m. cond (test m) (Some m) None) ≡ Some n
tested_read test word n h passed = rw (number_read word n h, passed) refl

pub count_found : (least most : ℕ) (word : List ℕ) (n : ℕ) → count_in least most word ≡ Some n → IsCount least most word n
unfolding count_in
count_found least most word n e =
    let h = tested_found (λ m. leb least m && leb m most) word n e in
    let passed = h.1 in
    (h.0.0, grind (arith, nat_tests), grind (arith, nat_tests))

pub count_read : (least most : ℕ) (word : List ℕ) (n : ℕ) → most < 2 ^ 64 → IsCount least most word n → count_in least most word ≡ Some n
unfolding count_in
count_read least most word n lt h =
    let low = h.1 in
    let high = h.2 in
    tested_read (λ m. leb least m && leb m most) word n (h.0, omega arith) (grind (arith, nat_tests))

pub index_found : (word : List ℕ) (n : ℕ) → index_in word ≡ Some n → IsIndex word n
unfolding index_in
index_found word n e =
    let h = tested_found (λ m. ltb m (2 ^ 32)) word n e in
    (h.0.0, ltb-true n (2 ^ 32) h.1)

pub index_read : (word : List ℕ) (n : ℕ) → IsIndex word n → index_in word ≡ Some n
unfolding index_in
index_read word n h = tested_read (λ m. ltb m (2 ^ 32)) word n (h.0, omega (arith, h.1)) (lt-ltb n (2 ^ 32) h.1)

pub page_found : (word : List ℕ) (page : ℕ) → page_in word ≡ Some page → IsPage word page
unfolding page_in
page_found word page e =
    let h = tested_found (λ m. ltb m (2 ^ 35)) word page e in
    (h.0.0, ltb-true page (2 ^ 35) h.1)

pub page_read : (word : List ℕ) (page : ℕ) → IsPage word page → page_in word ≡ Some page
unfolding page_in
page_read word page h = tested_read (λ m. ltb m (2 ^ 35)) word page (h.0, omega (arith, h.1)) (lt-ltb page (2 ^ 35) h.1)

pub word_no_found : (word : List ℕ) (w : ℕ) → word_no_in word ≡ Some w → IsWordNo word w
unfolding word_no_in
word_no_found word w e =
    let h = tested_found (λ m. ltb m 512) word w e in
    (h.0.0, ltb-true w 512 h.1)

pub word_no_read : (word : List ℕ) (w : ℕ) → IsWordNo word w → word_no_in word ≡ Some w
unfolding word_no_in
word_no_read word w h = tested_read (λ m. ltb m 512) word w (h.0, omega (arith, h.1)) (lt-ltb w 512 h.1)
