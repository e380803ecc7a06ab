-- There are as many rows as tables that have one.
use Rattle.std.proofs.Common.{◌≡◌, ℕ, zero, suc, ◌<◌, ◌≤◌, ◌==◌, ◌&&◌, nat_lt, Bool, true, false, length, get_or, is_some, refl, sym, ◌∙◌, arith}
use Rattle.std.proofs.lemmas.Bool.Decides.{nat_tests}
use Rattle.gup_plain.proofs.Sums.{passing, none_passing, one_more_passing, same_passing}
use Rattle.gup_spec_tables.specs.Tables.{table_numbers, placed_tables}
use Rattle.gup_tables.specs.Rows.{RowLists, IsKept, is_row, place_in}

module _ (l : RowLists) (for_numbers for_places for_words : ℕ) (kept : IsKept l for_numbers for_places for_words) where
  -- has the table one of the first n rows?
  abbrev in_first : ℕ → ℕ → Bool
  in_first n table = nat_lt (get_or l.rows table 0) n && get_or l.numbers (get_or l.rows table 0) 0 == table

  numbered : (row : ℕ) → row < length l.numbers → get_or l.numbers row 0 < table_numbers
  unfolding table_numbers
  numbered row less = kept.numbered row less

  first_rows : (n : ℕ) → n ≤ length l.numbers → passing table_numbers (in_first n) ≡ n
  first_rows zero few = none_passing table_numbers (in_first zero) (λ table. grind (arith, nat_tests))
  first_rows (suc n) few =
      let row : get_or l.rows (get_or l.numbers n 0) 0 ≡ n = kept.known n (omega (arith, few)) in
      let before : in_first n (get_or l.numbers n 0) ≡ false = rw row (grind (arith, nat_tests)) in
      let after : in_first (suc n) (get_or l.numbers n 0) ≡ true = rw row (grind (arith, nat_tests)) in
      let more = one_more_passing table_numbers (in_first n) (in_first (suc n)) (get_or l.numbers n 0) (numbered n (omega (arith, few))) before after (other n) in
      omega (arith, more, first_rows n (omega (arith, few)))
    where
      other : (n table : ℕ) → (table == get_or l.numbers n 0) ≡ false → in_first (suc n) table ≡ in_first n table
      other n table apart = go (get_or l.rows table 0) refl
        where
          go : (row : ℕ) → get_or l.rows table 0 ≡ row → in_first (suc n) table ≡ in_first n table
          go row is = rw is (grind (arith, nat_tests, apart))

  has_place : (table : ℕ) → in_first (length l.numbers) table ≡ is_some (place_in l table)
  has_place table = go (is_row l table (get_or l.rows table 0)) refl
    where
      go : (b : Bool) → is_row l table (get_or l.rows table 0) ≡ b → in_first (length l.numbers) table ≡ is_some (place_in l table)
      go true is = rw is refl
      go false is = rw is refl

  pub counted_rows : placed_tables (place_in l) ≡ length l.numbers
  counted_rows =
      sym (same_passing table_numbers (in_first (length l.numbers)) (λ table. is_some (place_in l table)) (λ table less. has_place table))
      ∙ first_rows (length l.numbers) (omega arith)
