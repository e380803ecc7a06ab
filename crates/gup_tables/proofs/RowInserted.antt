-- A table is put in, behind all rows.
use Rattle.std.proofs.Common.{◌≡◌, ◌≢◌, ℕ, ◌+◌, ◌*◌, ◌<◌, ◌≤◌, ◌==◌, nat_lt, true, false, cond, List, [], ◌∷◌, ◌++◌, length, length-append, get_or, set, get_or-set_same, get_or-set_other, Some, refl, ap, sym, ◌∙◌, ⊎_elim, arith}
use Rattle.std.proofs.Math.Path.{fun_ext}
use Rattle.std.proofs.lemmas.Bool.{cases_eq, cases_lt}
use Rattle.std.proofs.lemmas.Bool.Decides.{nat_tests}
use Rattle.std.proofs.lemmas.List.{get_or_append_left, get_or_push}
use Rattle.gup_plain.specs.Put.{put}
use Rattle.gup_spec_tables.specs.declared.place.Place.{Place}
use Rattle.gup_tables.specs.Rows.{RowLists, IsKept, nowhere, place_in, word_in}
use Rattle.gup_tables.proofs.RowLists.{HasRow, has_row, no_row, same_place, same_words}

module _ (l : RowLists) (table : ℕ) (place : Place) (words : List ℕ) (for_numbers for_places for_words : ℕ) (kept : IsKept l for_numbers for_places for_words) (numbered : table < 8192) (absent : (r : ℕ) → HasRow l table r → ⊥) (same : (k : ℕ) → k < 512 * length l.numbers → get_or words k 0 ≡ get_or l.words k 0) (zero : (k : ℕ) → 512 * length l.numbers ≤ k → k < 512 * (length l.numbers + 1) → get_or words k 0 ≡ 0) where
  abbrev pub inserted : RowLists
  inserted = record {
    numbers = l.numbers ++ table ∷ [];
    places = l.places ++ place ∷ [];
    words = words;
    rows = set l.rows table (length l.numbers);
    room = l.room;
  }

  longer : length inserted.numbers ≡ length l.numbers + 1
  longer = length-append l.numbers (table ∷ [])

  -- its row is the last
  own_row : HasRow inserted table (length l.numbers)
  own_row = record {
    within = omega (arith, longer);
    row = get_or-set_same l.rows table (length l.numbers) 0 (omega (arith, kept.rows));
    number = get_or_push l.numbers table 0 (length l.numbers) refl;
  }

  -- each other table has the row that it had
  module _ (other : ℕ) (apart : other ≢ table) where
    rows_same : get_or inserted.rows other 0 ≡ get_or l.rows other 0
    rows_same = get_or-set_other l.rows table other (length l.numbers) 0 apart

    over : (r : ℕ) → HasRow l other r → HasRow inserted other r
    over r h = record {
      within = omega (arith, longer, h.within);
      row = rows_same ∙ h.row;
      number = get_or_append_left l.numbers (table ∷ []) 0 r h.within ∙ h.number;
    }

    back : (r : ℕ) → HasRow inserted other r → HasRow l other (get_or l.rows other 0)
    back r h =
        let is : get_or l.rows other 0 ≡ r = sym rows_same ∙ h.row in
        ⊎_elim
        (λ (inside : r < length l.numbers). record {
          within = omega (arith, is, inside);
          row = refl;
          number = rw is (sym (get_or_append_left l.numbers (table ∷ []) 0 r inside) ∙ h.number);
        })
        (λ (past : length l.numbers ≤ r).
        let last : r ≡ length l.numbers = omega (arith, past, h.within, longer) in
        let is_own : get_or inserted.numbers r 0 ≡ table = rw last (get_or_push l.numbers table 0 (length l.numbers) refl) in
        absurd (apart (sym h.number ∙ is_own)))
        (cases_lt r (length l.numbers))

  inserted_place_at : (other : ℕ) → place_in inserted other ≡ put table (Some place) (place_in l) other
  inserted_place_at other =
      ⊎_elim
      (λ (here : other ≡ table).
      let test : (other == table) ≡ true = grind (arith, nat_tests) in
      rw (test, here, has_row inserted table (length l.numbers) own_row)
      (ap Some (get_or_push l.places place nowhere (length l.numbers) kept.places)))
      (λ (apart : other ≢ table).
      let test : (other == table) ≡ false = grind (arith, nat_tests) in
      rw test
      (same_place l inserted other (λ r. r) (over other apart) (back other apart)
      (λ r h. get_or_append_left l.places (place ∷ []) nowhere r (omega (arith, h.within, kept.places)))))
      (cases_eq other table)

  pub inserted_places : place_in inserted ≡ put table (Some place) (place_in l)
  inserted_places = fun_ext inserted_place_at

  inserted_word_at : (other i : ℕ) → word_in inserted other i ≡ word_in l other i
  inserted_word_at other i =
      ⊎_elim
      (λ (here : other ≡ table).
      rw (here, has_row inserted table (length l.numbers) own_row, no_row l table absent)
      (⊎_elim
      (λ (inside : i < 512). ap (λ w. cond (nat_lt i 512) w 0) (zero (512 * length l.numbers + i) (omega arith) (omega (arith, inside))) ∙ grind (arith, nat_tests))
      (λ (past : 512 ≤ i). grind (arith, nat_tests))
      (cases_lt i 512)))
      (λ (apart : other ≢ table).
      same_words l inserted other (λ r. r) (over other apart) (back other apart) i
      (λ r h inside. same (512 * r + i) (omega (arith, h.within, inside))))
      (cases_eq other table)

  pub inserted_words : word_in inserted ≡ word_in l
  inserted_words = fun_ext (λ other. fun_ext (inserted_word_at other))
