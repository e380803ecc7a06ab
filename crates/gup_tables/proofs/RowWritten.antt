-- A word of a table is written.
use Rattle.std.proofs.Common.{◌≡◌, ◌≢◌, ℕ, ◌+◌, ◌*◌, ◌<◌, ◌==◌, true, false, get_or, set, get_or-set_same, get_or-set_other, refl, sym, ◌∙◌, ⊎_elim, arith}
use Rattle.std.proofs.Math.Path.{fun_ext}
use Rattle.std.proofs.lemmas.Bool.{cases_eq}
use Rattle.std.proofs.lemmas.Bool.Decides.{nat_tests}
use Rattle.gup_plain.specs.Put.{put2}
use Rattle.gup_tables.specs.Rows.{RowLists, IsKept, word_in}
use Rattle.gup_tables.proofs.RowLists.{HasRow, has_row, same_words}

module _ (l : RowLists) (table row i word : ℕ) (for_numbers for_places for_words : ℕ) (kept : IsKept l for_numbers for_places for_words) (own : HasRow l table row) (within : i < 512) where
  abbrev pub written : RowLists
  written = record {
    numbers = l.numbers;
    places = l.places;
    words = set l.words (512 * row + i) word;
    rows = l.rows;
    room = l.room;
  }

  written_here : get_or written.words (512 * row + i) 0 ≡ word
  written_here = get_or-set_same l.words (512 * row + i) word 0 (omega (arith, kept.words, own.within, within))

  written_word_at : (other j : ℕ) → word_in written other j ≡ put2 table i word (word_in l) other j
  written_word_at other j =
      ⊎_elim
      (λ (here : other ≡ table).
      let test : (other == table) ≡ true = grind (arith, nat_tests) in
      let now = has_row written table row (record { within = own.within; row = own.row; number = own.number }) in
      rw (test, here, now)
      (⊎_elim
      (λ (same : j ≡ i). let same_test : (j == i) ≡ true = grind (arith, nat_tests) in rw (same_test, same, written_here) (grind (arith, nat_tests, within)))
      (λ (away : j ≢ i).
      let away_test : (j == i) ≡ false = grind (arith, nat_tests) in
      let read : get_or written.words (512 * row + j) 0 ≡ get_or l.words (512 * row + j) 0 = get_or-set_other l.words (512 * row + i) (512 * row + j) word 0 (λ e. away (omega (arith, e))) in
      rw (away_test, read) refl)
      (cases_eq j i)))
      (λ (apart : other ≢ table).
      let test : (other == table) ≡ false = grind (arith, nat_tests) in
      rw test
      (same_words l written other (λ r. r) (λ r h. record { within = h.within; row = h.row; number = h.number })
      (λ r h. record { within = rw h.row h.within; row = refl; number = rw h.row h.number })
      j
      (λ r h inside.
      let elsewhere : r ≢ row = λ e. apart (sym h.number ∙ rw e own.number) in
      get_or-set_other l.words (512 * row + i) (512 * r + j) word 0 (λ e. elsewhere (omega (arith, e, inside, within))))))
      (cases_eq other table)

  pub written_words : word_in written ≡ put2 table i word (word_in l)
  written_words = fun_ext (λ other. fun_ext (written_word_at other))
