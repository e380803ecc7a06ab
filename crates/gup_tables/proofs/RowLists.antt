-- Tables in rows: which row a table has, and what stands there after a table is put in or taken out.
use Rattle.std.proofs.Common.{◌≡◌, ℕ, ◌+◌, ◌*◌, ◌<◌, ◌≤◌, nat_lt, Bool, true, false, cond, length, get_or, Option, Some, None, IsSome, is_some, refl, ap, ⊎_elim, arith}
use Rattle.std.proofs.lemmas.Bool.{cases_lt}
use Rattle.std.proofs.lemmas.Bool.Decides.{nat_tests}
use Rattle.gup_tables.specs.Rows.{RowLists, is_row, row_of, nowhere, place_at, word_at, place_in, word_in}

-- the table has this row
pub record HasRow (l : RowLists) (table r : ℕ) : Type 0 where
  pub within : r < length l.numbers
  pub row : get_or l.rows table 0 ≡ r
  pub number : get_or l.numbers r 0 ≡ table

pub row_has : (l : RowLists) (table r : ℕ) → row_of l table ≡ Some r → HasRow l table r
row_has l table r is = go (is_row l table (get_or l.rows table 0)) refl is
  where
    go : (b : Bool) → is_row l table (get_or l.rows table 0) ≡ b → cond b (Some (get_or l.rows table 0)) None ≡ Some r → HasRow l table r
    go true test is =
        let here : get_or l.rows table 0 ≡ r = cc in
        record {
          within = rw (← here) (grind (arith, nat_tests, test));
          row = here;
          number = rw (← here) (grind (arith, nat_tests, test));
        }
    go false test is = absurd cc

pub has_row : (l : RowLists) (table r : ℕ) → HasRow l table r → row_of l table ≡ Some r
has_row l table r h =
    let test : is_row l table (get_or l.rows table 0) ≡ true = rw h.row (grind (arith, nat_tests, h.within, h.number)) in
    rw test (ap Some h.row)

-- tables in other lists, with the rows that `to` gives them, stand where they stood, and have the words that they had
module _ (l m : RowLists) (table : ℕ) (to : ℕ → ℕ) (over : (r : ℕ) → HasRow l table r → HasRow m table (to r)) (back : (r : ℕ) → HasRow m table r → HasRow l table (get_or l.rows table 0)) where
  both_none : row_of l table ≡ None → row_of m table ≡ None
  both_none none = go (row_of m table) refl
    where
      go : (o : Option ℕ) → row_of m table ≡ o → row_of m table ≡ None
      go None is = is
      go (Some r) is = let there = has_row l table (get_or l.rows table 0) (back r (row_has m table r is)) in absurd (cc (none, there))

  pub same_place : ((r : ℕ) → HasRow l table r → get_or m.places (to r) nowhere ≡ get_or l.places r nowhere) → place_in m table ≡ place_in l table
  same_place places = go (row_of l table) refl
    where
      go : (o : Option ℕ) → row_of l table ≡ o → place_in m table ≡ place_in l table
      go None is = rw (is, both_none is) refl
      go (Some r) is = let h = row_has l table r is in rw (is, has_row m table (to r) (over r h)) (ap Some (places r h))

  pub same_words : (i : ℕ) → ((r : ℕ) → HasRow l table r → i < 512 → get_or m.words (512 * to r + i) 0 ≡ get_or l.words (512 * r + i) 0) → word_in m table i ≡ word_in l table i
  same_words i words = go (row_of l table) refl
    where
      at : (r : ℕ) → HasRow l table r → cond (nat_lt i 512) (get_or m.words (512 * to r + i) 0) 0 ≡ cond (nat_lt i 512) (get_or l.words (512 * r + i) 0) 0
      at r h = ⊎_elim (λ (inside : i < 512). ap (λ w. cond (nat_lt i 512) w 0) (words r h inside)) (λ (past : 512 ≤ i). grind (arith, nat_tests)) (cases_lt i 512)

      go : (o : Option ℕ) → row_of l table ≡ o → word_in m table i ≡ word_in l table i
      go None is = rw (is, both_none is) refl
      go (Some r) is = let h = row_has l table r is in rw (is, has_row m table (to r) (over r h)) (at r h)

-- a table without a row
pub no_row : (l : RowLists) (table : ℕ) → ((r : ℕ) → HasRow l table r → ⊥) → row_of l table ≡ None
no_row l table none = go (row_of l table) refl
  where
    go : (o : Option ℕ) → row_of l table ≡ o → row_of l table ≡ None
    go None is = is
    go (Some r) is = absurd (none r (row_has l table r is))

pub placed_row : (l : RowLists) (table : ℕ) → IsSome (place_in l table) → HasRow l table (get_or l.rows table 0)
placed_row l table some = go (row_of l table) refl
  where
    go : (o : Option ℕ) → row_of l table ≡ o → HasRow l table (get_or l.rows table 0)
    go None is = let some_none : is_some (place_at l None) ≡ true = rw is at some in absurd cc
    go (Some r) is = let h = row_has l table r is in rw (← h.row) at h

pub unplaced_row : (l : RowLists) (table r : ℕ) → place_in l table ≡ None → HasRow l table r → ⊥
unplaced_row l table r none h = let is = has_row l table r h in let there : place_in l table ≡ Some (get_or l.places r nowhere) = rw is refl in absurd cc

-- a table that stands nowhere has no words
pub blank : (l : RowLists) (table i : ℕ) → place_in l table ≡ None → word_in l table i ≡ 0
blank l table i none = go (row_of l table) refl
  where
    go : (o : Option ℕ) → row_of l table ≡ o → word_in l table i ≡ 0
    go None is = rw is refl
    go (Some r) is = absurd (unplaced_row l table r none (row_has l table r is))

-- no table has words past its 512
pub no_word : (l : RowLists) (table i : ℕ) → 512 ≤ i → word_in l table i ≡ 0
no_word l table i past = go (row_of l table)
  where
    go : (o : Option ℕ) → word_at l o i ≡ 0
    go None = refl
    go (Some r) = grind (arith, nat_tests, past)
