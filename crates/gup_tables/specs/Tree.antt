-- The tree that rows of tables are.
use Rattle.std.specs.Prelude.{ℕ, ◌%◌, length, Option, None, Some}
use Rattle.gup_base.specs.Packing.{unpack_of}
use Rattle.gup_base.specs.declared.entry.Entry.{Entry}
use Rattle.gup_spec_tables.specs.Tables.{TreeValue, table_at, on_path}
use Rattle.gup_spec_tables.specs.declared.place.Place.{Place}
use Rattle.gup_tables.specs.Rows.{RowLists, place_in, word_in}

-- the entry that the table with entries has of the page
abbrev pub entry_at : (word : ℕ → ℕ → ℕ) → Option ℕ → (page : ℕ) → Option Entry
entry_at word None page = None
entry_at word (Some table) page = unpack_of (word table (page % 512))

-- the tree of tables that stand at these places, with these words
abbrev pub tree_by : (place : ℕ → Option Place) → (word : ℕ → ℕ → ℕ) → (tables room : ℕ) → TreeValue
tree_by place word tables room =
    record {
      entry = λ page. entry_at word (table_at place (on_path 1 page)) page;
      place = place;
      tables = tables;
      room = room;
    }

abbrev pub tree_of : RowLists → TreeValue
tree_of rows = tree_by (place_in rows) (word_in rows) (length rows.numbers) rows.room
