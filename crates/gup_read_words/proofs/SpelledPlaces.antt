-- Addresses, ranges and segments: what is found is spelled by its text, and what a text spells is read from it.
use Rattle.std.specs.Prelude.{decimal}
use Rattle.std.proofs.Common.{◌≡◌, ℕ, ◌+◌, ◌^◌, ◌<◌, ◌≤◌, ◌&&◌, true, cond, ltb, leb, List, Some, None, length, refl, ap, subst, ◌∙◌, lit<, arith}
use Rattle.std.specs.List.{position_or_len, before_first, after_first}
use Rattle.std.proofs.lemmas.Bool.Decides.{nat_tests}
use Rattle.gup_read_words.specs.Text.{◌>>=◌, number_in, count_in, index_in, page_in, word_no_in, page_and_word_in, is_dot, address_in, range_in, index_and_count_in, is_colon, segment_in}
use Rattle.gup_spec_grammar.specs.Spelling.{IsCount, IsIndex, IsPage, IsWordNo, address, IsAddress, IsRange, segment, IsSegment}
use Rattle.gup_read_words.proofs.Steps.{step_taken, test_passed, way_taken, same_given}
use Rattle.gup_read_words.proofs.Cuts.{cut_found, cut_read, decimal_lacks}
use Rattle.gup_read_words.proofs.SpelledNumbers.{number_found, number_read, count_found, count_read, index_found, index_read, page_found, page_read, word_no_found, word_no_read}

-- ---- addresses

page_and_word_found : (before after : List ℕ) (page w : ℕ) → page_and_word_in before after ≡ Some (page, w) → IsPage before page × IsWordNo after w
unfolding page_and_word_in
page_and_word_found before after page w e =
    let s = step_taken (page_in before) (λ p. word_no_in after >>= λ v. Some (p, v)) (page, w) e in
    let t = step_taken (word_no_in after) (λ v. Some (s.0, v)) (page, w) s.2 in
    let same = same_given (s.0, t.0) (page, w) t.2 in
    (subst (IsPage before) (ap (λ x. x.0) same) (page_found before s.0 s.1), subst (IsWordNo after) (ap (λ x. x.1) same) (word_no_found after t.0 t.1))

pub address_found : (text : List ℕ) (page w : ℕ) → address_in text ≡ Some (page, w) → IsAddress text page w
unfolding address_in
address_found text page w e =
    let before : List ℕ = before_first is_dot text in
    let after : List ℕ = after_first is_dot text in
    let way = way_taken (ltb (position_or_len is_dot text) (length text)) (page_and_word_in before after) (page, w) e in
    let h = page_and_word_found before after page w way.1 in
    ((cut_found 46 text way.0).0 ∙ rw (h.0.0, h.1.0) refl, h.0.1, h.1.1)

address_again : (page w : ℕ) → page < 2 ^ 35 → w < 512 → address_in (address page w) ≡ Some (page, w)
unfolding address_in page_and_word_in
address_again page w p v =
    let cut = cut_read 46 (decimal page) (decimal w) (decimal_lacks 46 page (λ d. absurd (omega (arith, d.0))) (omega arith)) in
    rw (cut.within, cut.before_is, cut.after_is, page_read (decimal page) page (refl, p), word_no_read (decimal w) w (refl, v)) refl

pub address_read : (text : List ℕ) (page w : ℕ) → IsAddress text page w → address_in text ≡ Some (page, w)
address_read text page w h = ap address_in h.0 ∙ address_again page w h.1 h.2

-- ---- ranges

pub range_found : (most : ℕ) (first count : List ℕ) (page n : ℕ) → range_in most first count ≡ Some (page, n) → IsRange most first count page n
unfolding range_in
range_found most first count page n e =
    let s = step_taken (page_in first) (λ p. number_in count >>= λ m. cond (leb 1 m && (leb m most && leb (p + m) (2 ^ 35))) (Some (p, m)) None) (page, n) e in
    let t = step_taken (number_in count) (λ m. cond (leb 1 m && (leb m most && leb (s.0 + m) (2 ^ 35))) (Some (s.0, m)) None) (page, n) s.2 in
    let g = test_passed (leb 1 t.0 && (leb t.0 most && leb (s.0 + t.0) (2 ^ 35))) (s.0, t.0) (page, n) t.2 in
    let p = page_found first s.0 s.1 in
    let m = number_found count t.0 t.1 in
    let passed = g.0 in
    let low : 1 ≤ t.0 = grind (arith, nat_tests) in
    let high : t.0 ≤ most = grind (arith, nat_tests) in
    let end : s.0 + t.0 ≤ 2 ^ 35 = grind (arith, nat_tests) in
    subst (λ (x : ℕ × ℕ). IsRange most first count x.0 x.1) g.1 (p.0, m.0, low, high, end)

pub range_read : (most : ℕ) (first count : List ℕ) (page n : ℕ) → IsRange most first count page n → range_in most first count ≡ Some (page, n)
unfolding range_in
range_read most first count page n h =
    let low = h.2 in
    let high = h.3 in
    let end = h.4 in
    let passes : (leb 1 n && (leb n most && leb (page + n) (2 ^ 35))) ≡ true = grind (arith, nat_tests) in
    rw (page_read first page (h.0, omega arith), number_read count n (h.1, omega arith), passes) refl

-- ---- segments

index_and_count_found : (before after : List ℕ) (index n : ℕ) → index_and_count_in before after ≡ Some (index, n) → IsIndex before index × IsCount 1 64 after n
unfolding index_and_count_in
index_and_count_found before after index n e =
    let s = step_taken (index_in before) (λ i. count_in 1 64 after >>= λ m. Some (i, m)) (index, n) e in
    let t = step_taken (count_in 1 64 after) (λ m. Some (s.0, m)) (index, n) s.2 in
    let same = same_given (s.0, t.0) (index, n) t.2 in
    (subst (IsIndex before) (ap (λ x. x.0) same) (index_found before s.0 s.1), subst (IsCount 1 64 after) (ap (λ x. x.1) same) (count_found 1 64 after t.0 t.1))

pub segment_found : (text : List ℕ) (index n : ℕ) → segment_in text ≡ Some (index, n) → IsSegment text index n
unfolding segment_in
segment_found text index n e =
    let before : List ℕ = before_first is_colon text in
    let after : List ℕ = after_first is_colon text in
    let way = way_taken (ltb (position_or_len is_colon text) (length text)) (index_and_count_in before after) (index, n) e in
    let h = index_and_count_found before after index n way.1 in
    ((cut_found 58 text way.0).0 ∙ rw (h.0.0, h.1.0) refl, h.0.1, h.1.1, h.1.2)

segment_again : (index n : ℕ) → index < 2 ^ 32 → 1 ≤ n → n ≤ 64 → segment_in (segment index n) ≡ Some (index, n)
unfolding segment_in index_and_count_in
segment_again index n i low high =
    let cut = cut_read 58 (decimal index) (decimal n) (decimal_lacks 58 index (λ d. absurd (omega (arith, d.1))) (omega arith)) in
    rw (cut.within, cut.before_is, cut.after_is, index_read (decimal index) index (refl, i), count_read 1 64 (decimal n) n (lit< tt) (refl, low, high)) refl

pub segment_read : (text : List ℕ) (index n : ℕ) → IsSegment text index n → segment_in text ≡ Some (index, n)
segment_read text index n h = ap segment_in h.0 ∙ segment_again index n h.1 h.2 h.3
