-- Whether pages next to each other have values.
use Rattle.std.proofs.Common.{add-zero, take, drop, ◌++◌, length-append, length-take, length-drop, ◌≡◌, ℕ, zero, suc, ◌+◌, ◌-◌, ◌^◌, ◌<◌, ◌≤◌, eqb, Bool, true, false, not, MatchBool, List, length, get_or, None, is_some, refl, ap, sym, ◌∙◌, inl, inr, ◌⊎◌, ⊎_elim, arith}
use Rattle.std.specs.List.{remove}
use Rattle.std.proofs.lemmas.List.Edits.{length-remove}
use Rattle.std.proofs.lemmas.Bool.{cases_lt, cases_eq, cases_Bool, false≢true, or_parts, or_from, or_left, or_right, eqb-true, eqb-false}
use Rattle.gup_plain.specs.Denial.{any_below}
use Rattle.gup_maps.specs.Table.{at, pages_of, any_present, any_absent, IsOrdered, AreNumbered, IsPlace, IsThere, IsGap, IsRun, IsNextPage, IsKept, run}
use Rattle.gup_maps.proofs.Places.{rises, place_more, run_from_last, ordered-remove, ordered-insert, numbered-remove, numbered-insert}
use Rattle.gup_maps.proofs.Values.{length-pages, at_none, nowhere, is_somewhere, pages-remove, pages-insert, length-run, page-run}

pub any_below_none : (n : ℕ) (test : ℕ → Bool) → ((k : ℕ) → k < n → test k ≡ false) → any_below n test ≡ false
any_below_none zero test none = refl
any_below_none (suc n) test none = or_from (any_below n test) (test n) (any_below_none n test (λ k h. none k (omega arith))) (none n (omega arith))

pub any_below_some : (n : ℕ) (test : ℕ → Bool) (k : ℕ) → k < n → test k ≡ true → any_below n test ≡ true
any_below_some zero test k less some = absurd (omega arith)
any_below_some (suc n) test k less some =
    ⊎_elim
    (λ (h : k < n). or_left (any_below n test) (test n) (any_below_some n test k h some))
    (λ (h : n ≤ k). let e : k ≡ n = omega arith in or_right (any_below n test) (test n) (rw e at some))
    (cases_lt k n)

module _ {V : Type 0} (rows : List (ℕ × V)) (ordered : IsOrdered (pages_of rows)) where
  -- a page is at its place, or nowhere
  pub there : (page i : ℕ) → IsPlace (pages_of rows) page i → IsThere (pages_of rows) page i ⊎ (at rows page ≡ None)
  there page i place =
      ⊎_elim
      (λ (h : i < length (pages_of rows)).
      ⊎_elim (λ (e : get_or (pages_of rows) i 0 ≡ page). inl (h, e)) (λ (e : get_or (pages_of rows) i 0 ≡ page → ⊥). inr (nowhere rows ordered page i place (λ t. e t.1))) (cases_eq (get_or (pages_of rows) i 0) page))
      (λ (h : length (pages_of rows) ≤ i). inr (nowhere rows ordered page i place (λ t. let less : i < length (pages_of rows) = t.0 in omega arith)))
      (cases_lt i (length (pages_of rows)))

  -- ---- none has a value

  pub gap_absent : (page n i : ℕ) → IsGap (pages_of rows) page n i → any_present (at rows) page n ≡ false
  gap_absent page n i gap =
      let len : length (pages_of rows) ≡ length rows = length-pages rows in
      any_below_none n (λ k. is_some (at rows (page + k)))
      (λ k less.
      ap is_some
      (at_none rows (page + k)
      (λ j inside is.
      ⊎_elim
      (λ (h : j < i). let below : get_or (pages_of rows) j 0 < page = gap.stands.before j h in omega arith)
      (λ (h : i ≤ j). let above : page + n ≤ get_or (pages_of rows) j 0 = gap.behind j h (omega arith) in omega arith)
      (cases_lt j i))))

  pub gap_from_next : (page n i : ℕ) → IsPlace (pages_of rows) page i → (i < length rows → page + n ≤ get_or (pages_of rows) i 0) → IsGap (pages_of rows) page n i
  gap_from_next page n i place next =
      let len : length (pages_of rows) ≡ length rows = length-pages rows in
      record {
        stands = place;
        behind = λ j above inside.
            let first : page + n ≤ get_or (pages_of rows) i 0 = next (omega arith) in
            let le : get_or (pages_of rows) i 0 ≤ get_or (pages_of rows) j 0 = rises (pages_of rows) ordered i j above inside in
            omega arith;
      }

  pub present_at : (page n i : ℕ) → i < length rows → page ≤ get_or (pages_of rows) i 0 → get_or (pages_of rows) i 0 < page + n → any_present (at rows) page n ≡ true
  present_at page n i inside above below =
      let k = get_or (pages_of rows) i 0 - page in
      any_below_some n (λ k. is_some (at rows (page + k))) k (omega arith)
      (is_somewhere rows ordered i (page + k) inside (omega arith))

  pub gap_from_absent : (page n i : ℕ) → IsPlace (pages_of rows) page i → any_present (at rows) page n ≡ false → IsGap (pages_of rows) page n i
  gap_from_absent page n i place absent =
      let len : length (pages_of rows) ≡ length rows = length-pages rows in
      gap_from_next page n i place
      (λ inside.
      ⊎_elim
      (λ (h : get_or (pages_of rows) i 0 < page + n).
      absurd (false≢true (sym absent ∙ present_at page n i inside (place.behind i (omega arith) (omega arith)) h)))
      (λ (h : page + n ≤ get_or (pages_of rows) i 0). h)
      (cases_lt (get_or (pages_of rows) i 0) (page + n)))

  -- ---- each has a value

  pub run_present : (page n i : ℕ) → IsRun (pages_of rows) page n i → any_absent (at rows) page n ≡ false
  run_present page n i run =
      let len : length (pages_of rows) ≡ length rows = length-pages rows in
      let inside : i + n ≤ length (pages_of rows) = run.within in
      any_below_none n (λ k. not (is_some (at rows (page + k))))
      (λ k less. ap not (is_somewhere rows ordered (i + k) (page + k) (omega arith) (run.each k less)))

  run_while_present : (page n i : ℕ) → IsPlace (pages_of rows) page i → any_absent (at rows) page n ≡ false → IsRun (pages_of rows) page n i × IsPlace (pages_of rows) (page + n) (i + n)
  run_while_present page zero i place present =
      (record { within = simp add-zero place.within; each = λ k less. absurd (omega arith) }, simp add-zero place)
  run_while_present page (suc n) i place present =
      let parts = or_parts (any_absent (at rows) page n) (not (is_some (at rows (page + n)))) present in
      let before = run_while_present page n i place parts.0 in
      let run = before.0 in
      ⊎_elim
      (λ (t : IsThere (pages_of rows) (page + n) (i + n)).
      let inside : i + n < length (pages_of rows) = t.0 in
      let next_page : page + suc n ≡ page + n + 1 = omega arith in
      let next_place : i + suc n ≡ i + n + 1 = omega arith in (
        record {
          within = omega arith;
          each = λ k less.
              ⊎_elim (λ (h : k < n). run.each k h) (λ (h : n ≤ k). let e : k ≡ n = omega arith in rw e t.1) (cases_lt k n);
        },
        rw (next_page, next_place) (place_more (pages_of rows) ordered (page + n) (i + n) before.1 t),
      ))
      (λ (none : at rows (page + n) ≡ None). absurd (false≢true (sym parts.1 ∙ ap (λ o. not (is_some o)) none)))
      (there (page + n) (i + n) before.1)

  -- the pages are there, or one has no value
  pub run_or_absent : (page n i : ℕ) → IsPlace (pages_of rows) page i → (IsRun (pages_of rows) page n i → ⊥) → any_absent (at rows) page n ≡ true
  run_or_absent page n i place no_run =
      ⊎_elim
      (λ (e : any_absent (at rows) page n ≡ true). e)
      (λ (e : any_absent (at rows) page n ≡ false). absurd (no_run (run_while_present page n i place e).0))
      (cases_Bool (any_absent (at rows) page n))

  -- by the last of them
  pub run_by_last : (page n i : ℕ) → IsPlace (pages_of rows) page i → i + n < length rows → (last : Bool) → last ≡ eqb (get_or (pages_of rows) (i + n) 0) (page + n) → MatchBool last (IsRun (pages_of rows) page (n + 1) i × (any_absent (at rows) page (n + 1) ≡ false)) (any_absent (at rows) page (n + 1) ≡ true)
  run_by_last page n i place inside true is =
      let len : length (pages_of rows) ≡ length rows = length-pages rows in
      let run = run_from_last (pages_of rows) ordered page n i place (omega arith) (eqb-true (get_or (pages_of rows) (i + n) 0) (page + n) (sym is)) in
      (run, run_present page (n + 1) i run)
  run_by_last page n i place inside false is =
      run_or_absent page (n + 1) i place (λ run. eqb-false (get_or (pages_of rows) (i + n) 0) (page + n) (sym is) (run.each n (omega arith)))

  -- ---- the least page at or above another

  pub next_is : (from i : ℕ) → IsPlace (pages_of rows) from i → i < length rows → IsNextPage (at rows) from (get_or (pages_of rows) i 0)
  next_is from i place inside =
      let len : length (pages_of rows) ≡ length rows = length-pages rows in
      record {
        mapped = is_somewhere rows ordered i (get_or (pages_of rows) i 0) inside refl;
        above = place.behind i (omega arith) (omega arith);
        least = λ page above below.
            at_none rows page
            (λ j h is.
            ⊎_elim
            (λ (b : j < i). let less : get_or (pages_of rows) j 0 < from = place.before j b in omega arith)
            (λ (b : i ≤ j). let le : get_or (pages_of rows) i 0 ≤ get_or (pages_of rows) j 0 = rises (pages_of rows) ordered i j b (omega arith) in omega arith)
            (cases_lt j i));
      }

  pub none_from : (from i : ℕ) → IsPlace (pages_of rows) from i → length rows ≤ i → (page : ℕ) → from ≤ page → at rows page ≡ None
  none_from from i place past page above =
      at_none rows page (λ j h is. let less : get_or (pages_of rows) j 0 < from = place.before j (omega arith) in omega arith)

  -- ---- the rows stay as a table keeps them

  pub kept-remove : (page i : ℕ) → IsKept rows → IsPlace (pages_of rows) page i → IsThere (pages_of rows) page i → IsKept (remove rows i)
  kept-remove page i kept place there =
      let len : length (pages_of rows) ≡ length rows = length-pages rows in
      let inside : i < length (pages_of rows) = there.0 in
      record {
        ordered = rw (pages-remove rows i) (ordered-remove (pages_of rows) ordered i inside);
        numbered = rw (pages-remove rows i) (numbered-remove (pages_of rows) i inside kept.numbered);
        few = let less : length (remove rows i) + 1 ≡ length rows = length-remove rows i (omega arith) in let few : length rows ≤ 1024 = kept.few in omega arith;
      }

  pub kept-insert : (page n i : ℕ) (value : V) → IsGap (pages_of rows) page n i → AreNumbered (pages_of rows) → page + n ≤ 2 ^ 35 → length rows + n ≤ 1024 → IsKept (take i rows ++ (run page n value ++ drop i rows))
  kept-insert page n i value gap numbered below few =
      let len : length (pages_of rows) ≡ length rows = length-pages rows in
      let len_run : length (run page n value) ≡ n = length-run page n value in
      let inside : i ≤ length (pages_of rows) = gap.stands.within in
      record {
        ordered =
            rw (pages-insert rows (run page n value) i)
            (ordered-insert (pages_of rows) (pages_of (run page n value)) page n i ordered gap (length-pages (run page n value) ∙ len_run) (page-run page n value));
        numbered =
            rw (pages-insert rows (run page n value) i)
            (numbered-insert (pages_of rows) (pages_of (run page n value)) page n i inside numbered (length-pages (run page n value) ∙ len_run) (page-run page n value) below);
        few = simp (length-append, length-take, length-drop) (omega arith);
      }

  pub length-inserted : (page n i : ℕ) (value : V) → i ≤ length (pages_of rows) → length (take i rows ++ (run page n value ++ drop i rows)) ≡ length rows + n
  length-inserted page n i value inside =
      let len : length (pages_of rows) ≡ length rows = length-pages rows in
      let len_run : length (run page n value) ≡ n = length-run page n value in
      simp (length-append, length-take, length-drop) (omega arith)

  pub length-same : (new : List (ℕ × V)) → pages_of new ≡ pages_of rows → length new ≡ length rows
  length-same new same = sym (length-pages new) ∙ ap length same ∙ length-pages rows

  -- ---- one page

  pub run_one : (page i : ℕ) → IsThere (pages_of rows) page i → IsRun (pages_of rows) page 1 i
  run_one page i there =
      let inside : i < length (pages_of rows) = there.0 in
      record {
        within = omega arith;
        each = λ k less. let e : k ≡ 0 = omega arith in rw (e, add-zero i, add-zero page) there.1;
      }

  pub gap_one : (page i : ℕ) → IsPlace (pages_of rows) page i → at rows page ≡ None → IsGap (pages_of rows) page 1 i
  gap_one page i place none =
      let len : length (pages_of rows) ≡ length rows = length-pages rows in
      gap_from_next page 1 i place
      (λ inside.
      let above : page ≤ get_or (pages_of rows) i 0 = place.behind i (omega arith) (omega arith) in
      ⊎_elim
      (λ (e : get_or (pages_of rows) i 0 ≡ page). absurd (false≢true (sym (ap is_some none) ∙ is_somewhere rows ordered i page inside e)))
      (λ (e : get_or (pages_of rows) i 0 ≡ page → ⊥). omega arith)
      (cases_eq (get_or (pages_of rows) i 0) page))
