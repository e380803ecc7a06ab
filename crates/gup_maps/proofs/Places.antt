-- Ordered pages, and the place of a page among them.
use Rattle.std.proofs.Common.{◌≡◌, ℕ, zero, suc, ◌+◌, ◌-◌, ◌^◌, ◌<◌, ◌≤◌, ltb, cond, List, ◌++◌, take, drop, length, get_or, refl, ◌∙◌, ⊎_elim, arith, length-append, length-take, length-drop}
use Rattle.std.specs.List.{remove}
use Rattle.std.proofs.lemmas.List.{length-take-le, get_or_append_left, get_or-append_right, get_or-take, get_or-drop}
use Rattle.std.proofs.lemmas.List.Edits.{length-remove, get_or-remove_below, get_or-remove_above}
use Rattle.std.proofs.lemmas.Bool.{cases_lt}
use Rattle.std.proofs.lemmas.Bool.Decides.{nat_tests}
use Rattle.gup_plain.specs.Pages.{page_numbers}
use Rattle.gup_maps.specs.Table.{IsOrdered, AreNumbered, IsPlace, IsThere, IsGap, IsRun}

module _ (pages : List ℕ) (ordered : IsOrdered pages) where
  -- a page is not below those before it
  pub rises : (i j : ℕ) → i ≤ j → j < length pages → get_or pages i 0 ≤ get_or pages j 0
  rises i j le within = grind (arith, ordered i j)

  -- k places on, a page is k above at least
  pub climbs : (i k : ℕ) → i + k < length pages → get_or pages i 0 + k ≤ get_or pages (i + k) 0
  climbs i zero within = grind arith
  climbs i (suc k) within =
      let before : get_or pages i 0 + k ≤ get_or pages (i + k) 0 = climbs i k (omega arith) in
      let next : get_or pages (i + k) 0 < get_or pages (i + suc k) 0 = ordered (i + k) (i + suc k) (omega arith) within in
      omega arith

  -- a step of the search, by whether the page in the middle is below
  pub low_before : (page low half : ℕ) → 0 < half → low + half ≤ length pages → get_or pages (low + half - 1) 0 < page → (i : ℕ) → i < low + half → get_or pages i 0 < page
  low_before page low half some within below i h =
      let le : get_or pages i 0 ≤ get_or pages (low + half - 1) 0 = rises i (low + half - 1) (omega arith) (omega arith) in
      omega arith

  pub low_behind : (page low half rest : ℕ) → 0 < half → half ≤ rest + 1 → page ≤ get_or pages (low + half - 1) 0 → (i : ℕ) → low + rest ≤ i → i < length pages → page ≤ get_or pages i 0
  low_behind page low half rest some halves above i h within =
      let le : get_or pages (low + half - 1) 0 ≤ get_or pages i 0 = rises (low + half - 1) i (omega arith) within in
      omega arith

  -- the page's own place, if it is there, and the places that no search finds: the first, and behind all
  pub place_there : (page i : ℕ) → IsThere pages page i → IsPlace pages page i
  place_there page i there =
      record {
        within = omega (arith, there.0);
        before = λ j less. let below : get_or pages j 0 < get_or pages i 0 = ordered j i less there.0 in omega (arith, there.1);
        behind = λ j above inside. let le : get_or pages i 0 ≤ get_or pages j 0 = rises i j above inside in omega (arith, there.1);
      }

  pub place_first : (page : ℕ) → page ≤ get_or pages 0 0 → IsPlace pages page 0
  place_first page first =
      record {
        within = omega arith;
        before = λ j less. absurd (omega arith);
        behind = λ j above inside. let le : get_or pages 0 0 ≤ get_or pages j 0 = rises 0 j above inside in omega arith;
      }

  pub place_past : (page last n : ℕ) → length pages ≡ n → last + 1 ≡ n → get_or pages last 0 < page → IsPlace pages page n
  place_past page last n len ends below =
      record {
        within = omega arith;
        before = λ j less. let le : get_or pages j 0 ≤ get_or pages last 0 = rises j last (omega arith) (omega arith) in omega arith;
        behind = λ j above inside. absurd (omega arith);
      }

  -- the place of the next page
  pub place_more : (page i : ℕ) → IsPlace pages page i → IsThere pages page i → IsPlace pages (page + 1) (i + 1)
  place_more page i h there =
      record {
        within = omega arith;
        before = λ j less. let le : get_or pages j 0 ≤ get_or pages i 0 = rises j i (omega arith) there.0 in omega (arith, there.1);
        behind = λ j above within.
            let more : get_or pages i 0 < get_or pages j 0 = ordered i j (omega arith) within in omega (arith, there.1);
      }

  -- a page n - 1 above at n - 1 places on: the pages between are there, too
  pub run_from_last : (page n i : ℕ) → IsPlace pages page i → i + n < length pages → get_or pages (i + n) 0 ≡ page + n → IsRun pages page (n + 1) i
  run_from_last page n i h within last =
      record {
        within = omega arith;
        each = λ k less.
            let first : page ≤ get_or pages i 0 = h.behind i (omega arith) (omega arith) in
            let low : get_or pages i 0 + k ≤ get_or pages (i + k) 0 = climbs i k (omega arith) in
            let high : get_or pages (i + k) 0 + (n - k) ≤ get_or pages (i + k + (n - k)) 0 = climbs (i + k) (n - k) (omega arith) in
            let at_last : i + k + (n - k) ≡ i + n = omega arith in
            let high' : get_or pages (i + k) 0 + (n - k) ≤ get_or pages (i + n) 0 = rw at_last at high in
            omega arith;
      }

  -- ---- a page is taken out

  removed_at : (i j : ℕ) → i < length pages → get_or (remove pages i) j 0 ≡ get_or pages (cond (ltb j i) j (j + 1)) 0
  removed_at i j within =
      ⊎_elim
      (λ less. grind (arith, nat_tests, get_or-remove_below pages i 0 j less within))
      (λ above. grind (arith, nat_tests, get_or-remove_above pages i 0 j above within))
      (cases_lt j i)

  pub ordered-remove : (i : ℕ) → i < length pages → IsOrdered (remove pages i)
  ordered-remove i within j k less inside =
      let len : length (remove pages i) + 1 ≡ length pages = length-remove pages i within in
      let after : cond (ltb j i) j (j + 1) < cond (ltb k i) k (k + 1) = grind (arith, nat_tests) in
      let small : cond (ltb k i) k (k + 1) < length pages = grind (arith, nat_tests) in
      rw (removed_at i j within, removed_at i k within) (ordered (cond (ltb j i) j (j + 1)) (cond (ltb k i) k (k + 1)) after small)

-- each stays a page's number
pub numbered-remove : (pages : List ℕ) (i : ℕ) → i < length pages → AreNumbered pages → AreNumbered (remove pages i)
numbered-remove pages i within numbered j inside =
    let len : length (remove pages i) + 1 ≡ length pages = length-remove pages i within in
    ⊎_elim
    (λ less. rw (get_or-remove_below pages i 0 j less within) (numbered j (omega arith)))
    (λ above. rw (get_or-remove_above pages i 0 j above within) (numbered (j + 1) (omega arith)))
    (cases_lt j i)

-- ---- pages are put in

below_numbers : (page n : ℕ) → page + n ≤ 2 ^ 35 → page + n ≤ page_numbers
unfolding page_numbers
below_numbers page n below = below

module _ (pages new : List ℕ) (i : ℕ) (within : i ≤ length pages) where
  inserted_below : (j : ℕ) → j < i → get_or (take i pages ++ (new ++ drop i pages)) j 0 ≡ get_or pages j 0
  inserted_below j less =
      let len : length (take i pages) ≡ i = length-take-le i pages within in
      get_or_append_left (take i pages) (new ++ drop i pages) 0 j (omega arith) ∙ get_or-take i pages j 0 less

  inserted_behind : (j : ℕ) → i ≤ j → get_or (take i pages ++ (new ++ drop i pages)) j 0 ≡ get_or (new ++ drop i pages) (j - i) 0
  inserted_behind j above = get_or-append_right (take i pages) (new ++ drop i pages) i j 0 (length-take-le i pages within) above

  inserted_new : (j : ℕ) → i ≤ j → j < i + length new → get_or (take i pages ++ (new ++ drop i pages)) j 0 ≡ get_or new (j - i) 0
  inserted_new j above less = inserted_behind j above ∙ get_or_append_left new (drop i pages) 0 (j - i) (omega arith)

  inserted_above : (j : ℕ) → i + length new ≤ j → get_or (take i pages ++ (new ++ drop i pages)) j 0 ≡ get_or pages (j - length new) 0
  inserted_above j above =
      let index : i + (j - i - length new) ≡ j - length new = omega arith in
      inserted_behind j (omega arith)
      ∙ get_or-append_right new (drop i pages) (length new) (j - i) 0 refl (omega arith)
      ∙ get_or-drop i pages (j - i - length new) 0
      ∙ rw index refl

  inserted_length : length (take i pages ++ (new ++ drop i pages)) ≡ length pages + length new
  inserted_length = simp (length-append, length-take, length-drop) (omega arith)

pub ordered-insert : (pages new : List ℕ) (page n i : ℕ) → IsOrdered pages → IsGap pages page n i → length new ≡ n → ((k : ℕ) → k < n → get_or new k 0 ≡ page + k) → IsOrdered (take i pages ++ (new ++ drop i pages))
ordered-insert pages new page n i ordered gap len each j k less inside =
    let within = gap.stands.within in
    let all : length (take i pages ++ (new ++ drop i pages)) ≡ length pages + length new = inserted_length pages new i within in
    ⊎_elim
    (λ k_below. rw (inserted_below pages new i within j (omega arith), inserted_below pages new i within k k_below) (ordered j k less (omega arith)))
    (λ k_behind.
    ⊎_elim
    (λ k_new.
    let at_k = inserted_new pages new i within k k_behind k_new ∙ each (k - i) (omega arith) in
    ⊎_elim
    (λ j_below. rw (inserted_below pages new i within j j_below, at_k) (omega (arith, gap.stands.before j j_below)))
    (λ j_new. rw (inserted_new pages new i within j j_new (omega arith) ∙ each (j - i) (omega arith), at_k) (omega arith))
    (cases_lt j i))
    (λ k_above.
    let at_k = inserted_above pages new i within k k_above in
    ⊎_elim
    (λ j_below. rw (inserted_below pages new i within j j_below, at_k) (ordered j (k - length new) (omega arith) (omega arith)))
    (λ j_behind.
    ⊎_elim
    (λ j_new.
    rw (inserted_new pages new i within j j_behind j_new ∙ each (j - i) (omega arith), at_k)
    (omega (arith, gap.behind (k - length new) (omega arith) (omega arith))))
    (λ j_above. rw (inserted_above pages new i within j j_above, at_k) (ordered (j - length new) (k - length new) (omega arith) (omega arith)))
    (cases_lt j (i + length new)))
    (cases_lt j i))
    (cases_lt k (i + length new)))
    (cases_lt k i)

pub numbered-insert : (pages new : List ℕ) (page n i : ℕ) → i ≤ length pages → AreNumbered pages → length new ≡ n → ((k : ℕ) → k < n → get_or new k 0 ≡ page + k) → page + n ≤ 2 ^ 35 → AreNumbered (take i pages ++ (new ++ drop i pages))
numbered-insert pages new page n i within numbered len each below j inside =
    let all : length (take i pages ++ (new ++ drop i pages)) ≡ length pages + length new = inserted_length pages new i within in
    let last : page + n ≤ page_numbers = below_numbers page n below in
    ⊎_elim
    (λ j_below. rw (inserted_below pages new i within j j_below) (numbered j (omega arith)))
    (λ j_behind.
    ⊎_elim
    (λ j_new. rw (inserted_new pages new i within j j_behind j_new ∙ each (j - i) (omega arith)) (omega arith))
    (λ j_above. rw (inserted_above pages new i within j j_above) (numbered (j - length new) (omega arith)))
    (cases_lt j (i + length new)))
    (cases_lt j i)
