-- Tables in rows: the number of each, where it stands, and its words.
use Rattle.std.specs.Prelude.{◌≡◌, ℕ, ◌+◌, ◌*◌, ◌==◌, ◌&&◌, ◌<◌, ◌≤◌, Bool, nat_lt, if◌then◌else◌, List, length, slice_index, slice_index_or, Option, None, Some}
use Rattle.gup_spec_tables.specs.declared.place.Place.{Place}

-- Row by row the tables' numbers, their places and 512 words of each; and by number, in which row a table is. What that list
-- says of a table without a row means nothing.
pub record RowLists : Type 0 where
  pub numbers : List ℕ
  pub places : List Place
  pub words : List ℕ
  pub rows : List ℕ
  pub room : ℕ

-- is this row the table's? The row has its number
abbrev pub is_row : RowLists → (table row : ℕ) → Bool
is_row l table row = nat_lt row (length l.numbers) && slice_index l.numbers row == table

abbrev pub row_of : RowLists → (table : ℕ) → Option ℕ
row_of l table = if is_row l table (slice_index l.rows table) then Some (slice_index l.rows table) else None

abbrev pub nowhere : Place
nowhere = record { level = 0; span = 0 }

-- where the table of a row stands, and its words: there are none past the 512
abbrev pub place_at : RowLists → Option ℕ → Option Place
place_at l None = None
place_at l (Some row) = Some (slice_index_or l.places row nowhere)

abbrev pub word_at : RowLists → Option ℕ → ℕ → ℕ
word_at l None i = 0
word_at l (Some row) i = if nat_lt i 512 then slice_index l.words (512 * row + i) else 0

-- where each table stands that has a row, and the words of each table: of one without a row they are 0
abbrev pub place_in : RowLists → ℕ → Option Place
place_in l table = place_at l (row_of l table)

abbrev pub word_in : RowLists → ℕ → ℕ → ℕ
word_in l table = word_at l (row_of l table)

-- what is true of the lists: each row has a table, that table knows its row, and there is room for as many as there may be
pub record IsKept (l : RowLists) (for_numbers for_places for_words : ℕ) : Type 0 where
  pub few : l.room ≤ 8192
  pub within : length l.numbers ≤ l.room
  pub places : length l.places ≡ length l.numbers
  pub words : length l.words ≡ 512 * length l.numbers
  pub rows : length l.rows ≡ 8192
  pub known : (row : ℕ) → row < length l.numbers → slice_index l.rows (slice_index l.numbers row) ≡ row
  pub numbered : (row : ℕ) → row < length l.numbers → slice_index l.numbers row < 8192
  pub numbers_room : l.room ≤ for_numbers
  pub places_room : l.room ≤ for_places
  pub words_room : 512 * l.room ≤ for_words
