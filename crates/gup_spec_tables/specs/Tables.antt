-- Page tables in a tree: where each stands, and what its words are.
use Rattle.std.specs.Prelude.{◌≡◌, ℕ, ◌+◌, ◌-◌, ◌*◌, ◌/◌, ◌%◌, ◌^◌, ◌==◌, ◌&&◌, ◌||◌, Bool, true, false, not, is_some, nat_lt, if◌then◌else◌, List, [], ◌∷◌, Option, None, Some, zero, suc}
use Rattle.gup_base.specs.Packing.{pack_of}
use Rattle.gup_base.specs.declared.entry.Entry.{Entry}
use Rattle.gup_plain.specs.Denial.{any_below}
use Rattle.gup_plain.specs.Pages.{sum_below}
use Rattle.gup_plain.specs.Put.{put, lowest}
use Rattle.gup_spec_tables.specs.declared.place.Place.{Place}

-- What a tree is: the entry of each page that has one; by its number, where each of its tables stands; how many these are, and
-- how many there may be.
pub record TreeValue : Type 0 where
  pub entry : ℕ → Option Entry
  pub place : ℕ → Option Place
  pub tables : ℕ
  pub room : ℕ

abbrev pub no_tree : (room : ℕ) → TreeValue
no_tree room = record { entry = λ _. None; place = λ _. None; tables = 0; room = room }

-- how many words a table has, and how many numbers of tables there are
unfoldable pub table_words : ℕ
table_words = 512

unfoldable pub table_numbers : ℕ
table_numbers = 8192

-- how many tables stand somewhere
abbrev pub placed_tables : (ℕ → Option Place) → ℕ
placed_tables place = sum_below table_numbers (λ table. if is_some (place table) then 1 else 0)

-- the place of this level on the page's path: that of the table whose span has the page
abbrev pub on_path : (level page : ℕ) → Place
on_path level page = record { level = level; span = page / 512 ^ level }

-- the place to which word i of a table that stands here leads, and the one whose table leads here
abbrev pub below : Place → (i : ℕ) → Place
below p i = record { level = p.level - 1; span = 512 * p.span + i }

abbrev pub above : Place → Place
above p = record { level = p.level + 1; span = p.span / 512 }

-- does it stand at this place?
abbrev pub is_at : Place → Option Place → Bool
is_at p None = false
is_at p (Some q) = q.level == p.level && q.span == p.span

-- the table that stands at a place, if one does
abbrev pub table_at : (ℕ → Option Place) → Place → Option ℕ
table_at place p = lowest 0 table_numbers (λ table. is_at p (place table))

-- The word that leads to a table: it is packed as an entry that may be written and has the table's number for a frame.
abbrev pub link_to : Option ℕ → ℕ
link_to None = 0
link_to (Some table) = pack_of (Some (record { frame = table; writable = true }))

-- word i of a table that stands at this place: at level 1 the entry of its page i, above that the way to the table below
abbrev pub word_here : TreeValue → Place → (i : ℕ) → ℕ
word_here v p i = if p.level == 1 then pack_of (v.entry (512 * p.span + i)) else link_to (table_at v.place (below p i))

abbrev pub word_where : TreeValue → Option Place → (i : ℕ) → ℕ
word_where v None i = 0
word_where v (Some p) i = word_here v p i

-- word i of a table: of one that isn't in the tree it is 0
abbrev pub word_of : TreeValue → (table i : ℕ) → ℕ
word_of v table i = word_where v (v.place table) i

-- what is read by way of a word
abbrev pub read_next : (ℕ → ℕ) → (word : ℕ) → ℕ
read_next next word = if word == 0 then 0 else next (word / 4096)

-- What is read on a page's path from a table of this level on. At level 1 it is the word of the page's entry. Above that a word leads to
-- the table whose number it has as an entry has its frame's; one that is 0 leads nowhere.
abbrev pub read_on : (word : ℕ → ℕ → ℕ) → (level table page : ℕ) → ℕ
read_on word zero table page = 0
read_on word (suc zero) table page = word table (page % 512)
read_on word (suc (suc level)) table page = read_next (λ next. read_on word (suc level) next page) (word table (page / 512 ^ suc level % 512))

-- is each word of the table 0?
abbrev pub is_empty : TreeValue → (table : ℕ) → Bool
is_empty v table = not (any_below table_words (λ i. not (word_of v table i == 0)))

-- how many of the four tables of the page's path are missing
abbrev pub missing : TreeValue → (level page : ℕ) → ℕ
missing v level page = if is_some (table_at v.place (on_path level page)) then 0 else 1

abbrev pub lacks : TreeValue → (page : ℕ) → ℕ
lacks v page = missing v 1 page + missing v 2 page + missing v 3 page + missing v 4 page

-- the table is put in at the highest place that is missing on the page's path
abbrev pub with_table : (table page : ℕ) → TreeValue → TreeValue
with_table table page v = record v { place = put table (Some (on_path (lacks v page) page)) v.place; tables = v.tables + 1 }

abbrev pub without_table : (table : ℕ) → TreeValue → TreeValue
without_table table v = record v { place = put table None v.place; tables = v.tables - 1 }

abbrev pub with_entry : (page : ℕ) → Option Entry → TreeValue → TreeValue
with_entry page entry v = record v { entry = put page entry v.entry }

-- the table, if each of its words is 0
abbrev pub if_empty : TreeValue → Option ℕ → Option ℕ
if_empty v None = None
if_empty v (Some table) = if is_empty v table then Some table else None

-- the lowest table of the page's path, unless it is the root or has a word that isn't 0
abbrev pub detachable : TreeValue → (page : ℕ) → Option ℕ
detachable v page = if nat_lt (lacks v page) 3 then if_empty v (table_at v.place (on_path (lacks v page + 1) page)) else None

-- is the number among these?
abbrev pub is_among : List ℕ → (number : ℕ) → Bool
is_among [] number = false
is_among (first ∷ rest) number = number == first || is_among rest number

-- no number stands there twice
abbrev pub AreApart : List ℕ → Type 0
AreApart [] = Unit {0}
AreApart (first ∷ rest) = (is_among rest first ≡ false) × AreApart rest
