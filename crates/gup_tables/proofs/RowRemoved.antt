-- A table is taken out, and the last row takes the place of its row.
use Rattle.std.proofs.Common.{◌≡◌, ◌≢◌, ℕ, ◌+◌, ◌*◌, ◌<◌, ◌==◌, true, false, cond, List, length, get_or, set, get_or-set_same, get_or-set_other, length-set, None, refl, sym, ◌∙◌, ⊎_elim, arith}
use Rattle.std.proofs.Math.Path.{fun_ext}
use Rattle.std.proofs.lemmas.Bool.{cases_eq}
use Rattle.std.proofs.lemmas.Bool.Decides.{nat_tests}
use Rattle.gup_plain.specs.Put.{put}
use Rattle.gup_spec_tables.specs.declared.place.Place.{Place}
use Rattle.gup_tables.specs.Rows.{RowLists, IsKept, nowhere, place_in, word_in}
use Rattle.gup_tables.proofs.RowLists.{HasRow, no_row, same_place, same_words}

-- what becomes of the lists
pub record IsRemoval (l : RowLists) (own_row : ℕ) (numbers : List ℕ) (places : List Place) (words : List ℕ) : Type 0 where
  pub fewer : length numbers + 1 ≡ length l.numbers
  pub fewer_places : length places + 1 ≡ length l.places
  pub fewer_words : length words ≡ 512 * length numbers
  pub moved_number : own_row < length numbers → get_or numbers own_row 0 ≡ get_or l.numbers (length numbers) 0
  pub same_numbers : (r : ℕ) → r ≢ own_row → r < length numbers → get_or numbers r 0 ≡ get_or l.numbers r 0
  pub moved_place : own_row < length numbers → get_or places own_row nowhere ≡ get_or l.places (length numbers) nowhere
  pub other_places : (r : ℕ) → r ≢ own_row → r < length numbers → get_or places r nowhere ≡ get_or l.places r nowhere
  pub moved_words : (i : ℕ) → own_row < length numbers → i < 512 → get_or words (512 * own_row + i) 0 ≡ get_or l.words (512 * length numbers + i) 0
  pub other_words : (r i : ℕ) → r ≢ own_row → r < length numbers → i < 512 → get_or words (512 * r + i) 0 ≡ get_or l.words (512 * r + i) 0

module _ (l : RowLists) (table row : ℕ) (numbers : List ℕ) (places : List Place) (words : List ℕ) (for_numbers for_places for_words : ℕ) (kept : IsKept l for_numbers for_places for_words) (own : HasRow l table row) (now : IsRemoval l row numbers places words) where
  abbrev pub removed : RowLists
  removed = record {
    numbers = numbers;
    places = places;
    words = words;
    rows = set l.rows (get_or l.numbers (length numbers) 0) row;
    room = l.room;
  }

  moved_below : get_or l.numbers (length numbers) 0 < length l.rows
  moved_below = let below = kept.numbered (length numbers) (omega (arith, now.fewer)) in omega (arith, below, kept.rows)

  -- the last row is known to its table
  last_known : get_or l.rows (get_or l.numbers (length numbers) 0) 0 ≡ length numbers
  last_known = kept.known (length numbers) (omega (arith, now.fewer))

  module _ (other : ℕ) (apart : other ≢ table) where
    over : (r : ℕ) → HasRow l other r → HasRow removed other (cond (r == length numbers) row r)
    over r h =
        let elsewhere : r ≢ row = λ e. apart (sym h.number ∙ rw e own.number) in
        ⊎_elim
        (λ (is_last : r ≡ length numbers).
        let test : (r == length numbers) ≡ true = grind (arith, nat_tests) in
        let is_moved : other ≡ get_or l.numbers (length numbers) 0 = rw is_last at (sym h.number) in
        let inside : row < length numbers = omega (arith, elsewhere, is_last, own.within, now.fewer) in
        rw test
        (record {
          within = inside;
          row = rw is_moved (get_or-set_same l.rows (get_or l.numbers (length numbers) 0) row 0 moved_below);
          number = now.moved_number inside ∙ sym is_moved;
        }))
        (λ (before : r ≢ length numbers).
        let test : (r == length numbers) ≡ false = grind (arith, nat_tests) in
        let inside : r < length numbers = omega (arith, before, h.within, now.fewer) in
        let not_moved : other ≢ get_or l.numbers (length numbers) 0 = λ e. before (sym h.row ∙ (rw e last_known)) in
        rw test
        (record {
          within = inside;
          row = get_or-set_other l.rows (get_or l.numbers (length numbers) 0) other row 0 not_moved ∙ h.row;
          number = now.same_numbers r elsewhere inside ∙ h.number;
        }))
        (cases_eq r (length numbers))

    back : (r : ℕ) → HasRow removed other r → HasRow l other (get_or l.rows other 0)
    back r h =
        ⊎_elim
        (λ (here : r ≡ row).
        let inside : row < length numbers = rw here at h.within in
        let is_moved : get_or l.numbers (length numbers) 0 ≡ other = sym (now.moved_number inside) ∙ (rw here at h.number) in
        let known : get_or l.rows other 0 ≡ length numbers = rw is_moved at last_known in
        record {
          within = omega (arith, known, now.fewer);
          row = refl;
          number = rw known is_moved;
        })
        (λ (away : r ≢ row).
        let number : get_or l.numbers r 0 ≡ other = sym (now.same_numbers r away h.within) ∙ h.number in
        let within_was : r < length l.numbers = omega (arith, h.within, now.fewer) in
        let known : get_or l.rows other 0 ≡ r = rw number at (kept.known r within_was) in
        record {
          within = omega (arith, known, within_was);
          row = refl;
          number = rw known number;
        })
        (cases_eq r row)

  gone : (r : ℕ) → HasRow removed table r → ⊥
  gone r h =
      ⊎_elim
      (λ (here : r ≡ row).
      let inside : row < length numbers = rw here at h.within in
      let is_moved : get_or l.numbers (length numbers) 0 ≡ table = sym (now.moved_number inside) ∙ (rw here at h.number) in
      let known : get_or l.rows table 0 ≡ length numbers = rw is_moved at last_known in
      omega (arith, known, own.row, inside))
      (λ (away : r ≢ row).
      let number : get_or l.numbers r 0 ≡ table = sym (now.same_numbers r away h.within) ∙ h.number in
      let known : get_or l.rows table 0 ≡ r = rw number at (kept.known r (omega (arith, h.within, now.fewer))) in
      away (sym known ∙ own.row))
      (cases_eq r row)

  removed_place_at : (other : ℕ) → place_in removed other ≡ put table None (place_in l) other
  removed_place_at other =
      ⊎_elim
      (λ (here : other ≡ table). let test : (other == table) ≡ true = grind (arith, nat_tests) in rw (test, here, no_row removed table gone) refl)
      (λ (apart : other ≢ table).
      let test : (other == table) ≡ false = grind (arith, nat_tests) in
      rw test
      (same_place l removed other (λ r. cond (r == length numbers) row r) (over other apart) (back other apart)
      (λ r h. place_of_row r (λ e. apart (sym h.number ∙ rw e own.number)) h.within)))
      (cases_eq other table)
    where
      place_of_row : (r : ℕ) → r ≢ row → r < length l.numbers → get_or places (cond (r == length numbers) row r) nowhere ≡ get_or l.places r nowhere
      place_of_row r elsewhere within =
          ⊎_elim
          (λ (is_last : r ≡ length numbers).
          let test : (r == length numbers) ≡ true = grind (arith, nat_tests) in
          rw (test, is_last) (now.moved_place (omega (arith, elsewhere, is_last, own.within, now.fewer))))
          (λ (before : r ≢ length numbers).
          let test : (r == length numbers) ≡ false = grind (arith, nat_tests) in
          rw test (now.other_places r elsewhere (omega (arith, before, within, now.fewer))))
          (cases_eq r (length numbers))

  pub removed_places : place_in removed ≡ put table None (place_in l)
  removed_places = fun_ext removed_place_at

  module _ (empty : (i : ℕ) → word_in l table i ≡ 0) where
    removed_word_at : (other i : ℕ) → word_in removed other i ≡ word_in l other i
    removed_word_at other i =
        ⊎_elim
        (λ (here : other ≡ table). rw (here, no_row removed table gone) (sym (empty i)))
        (λ (apart : other ≢ table).
        same_words l removed other (λ r. cond (r == length numbers) row r) (over other apart) (back other apart) i
        (λ r h inside. word_of_row r (λ e. apart (sym h.number ∙ rw e own.number)) h.within inside))
        (cases_eq other table)
      where
        word_of_row : (r : ℕ) → r ≢ row → r < length l.numbers → i < 512 → get_or words (512 * cond (r == length numbers) row r + i) 0 ≡ get_or l.words (512 * r + i) 0
        word_of_row r elsewhere within inside =
            ⊎_elim
            (λ (is_last : r ≡ length numbers).
            let test : (r == length numbers) ≡ true = grind (arith, nat_tests) in
            rw (test, is_last) (now.moved_words i (omega (arith, elsewhere, is_last, own.within, now.fewer)) inside))
            (λ (before : r ≢ length numbers).
            let test : (r == length numbers) ≡ false = grind (arith, nat_tests) in
            rw test (now.other_words r i elsewhere (omega (arith, before, within, now.fewer)) inside))
            (cases_eq r (length numbers))

    pub removed_words : word_in removed ≡ word_in l
    removed_words = fun_ext (λ other. fun_ext (removed_word_at other))

  pub removed_kept : IsKept removed for_numbers for_places for_words
  removed_kept = record {
    few = kept.few;
    within = omega (arith, kept.within, now.fewer);
    places = omega (arith, kept.places, now.fewer, now.fewer_places);
    words = now.fewer_words;
    rows = length-set l.rows (get_or l.numbers (length numbers) 0) row ∙ kept.rows;
    known = λ r inside.
        ⊎_elim
        (λ (here : r ≡ row).
        rw (here, now.moved_number (rw here at inside)) (get_or-set_same l.rows (get_or l.numbers (length numbers) 0) row 0 moved_below))
        (λ (away : r ≢ row).
        let known : get_or l.rows (get_or l.numbers r 0) 0 ≡ r = kept.known r (omega (arith, inside, now.fewer)) in
        let not_moved : get_or l.numbers r 0 ≢ get_or l.numbers (length numbers) 0 = λ e. let is : r ≡ length numbers = sym known ∙ rw e last_known in omega (arith, is, inside) in
        rw (now.same_numbers r away inside) (get_or-set_other l.rows (get_or l.numbers (length numbers) 0) (get_or l.numbers r 0) row 0 not_moved ∙ known))
        (cases_eq r row);
    numbered = λ r inside.
        ⊎_elim
        (λ (here : r ≡ row). rw (here, now.moved_number (rw here at inside)) (kept.numbered (length numbers) (omega (arith, now.fewer))))
        (λ (away : r ≢ row). rw (now.same_numbers r away inside) (kept.numbered r (omega (arith, inside, now.fewer))))
        (cases_eq r row);
    numbers_room = kept.numbers_room;
    places_room = kept.places_room;
    words_room = kept.words_room;
  }
