-- One process: its mappings, its page tables with their entries, and what forks, pins and locks keep of it.
use Rattle.std.specs.Prelude.{◌≡◌, ℕ, ◌+◌, ◌-◌, ◌<◌, ◌||◌, Bool, true, false, is_some, if◌then◌else◌, List, [], length, Option, Some, None, IsSome}
use Rattle.gup_base.specs.declared.entry.Entry.{Entry}
use Rattle.gup_base.specs.declared.entry.Rights.{Rights}
use Rattle.gup_plain.specs.Put.{put, spread}
use Rattle.gup_maps.specs.Table.{at}
use Rattle.gup_page_tables.specs.PageTables.{TablesParts, tables_of}
use Rattle.gup_spec_tables.specs.Tables.{TreeValue, lacks, is_among}
use Rattle.gup_spec_tables.specs.declared.place.Place.{Place}
use Rattle.gup_tables.specs.Pool.{PoolValue}

pub record SpaceValue : Type 0 where
  -- the rights of each mapped page, and how many pages are mapped
  pub right : ℕ → Option Rights
  pub pages : ℕ
  -- the entry of each page that has one
  pub entry : ℕ → Option Entry
  -- where each page table of its tree stands, and which ones it has taken out of that, the longest ago first
  pub place : ℕ → Option Place
  pub retired : List ℕ
  -- raised at the beginning of a fork and at its end; has it ever pinned?
  pub sequence : ℕ
  pub has_pinned : Bool
  -- the actors that hold its structure lock and its table lock
  pub structure : Option ℕ
  pub table : Option ℕ
  -- how many lockless walks run in it
  pub walks : ℕ

abbrev pub no_space : SpaceValue
no_space =
    record {
      right = λ _. None;
      pages = 0;
      entry = λ _. None;
      place = λ _. None;
      retired = [];
      sequence = 0;
      has_pinned = false;
      structure = None;
      table = None;
      walks = 0;
    }

-- What a process is kept as: rows of the mapped pages, page tables, and the rest.
pub record SpaceParts : Type 0 where
  pub rights : List (ℕ × Rights)
  pub tables : TablesParts
  pub sequence : ℕ
  pub has_pinned : Bool
  pub structure : Option ℕ
  pub table : Option ℕ

-- the process that is kept so
abbrev pub space_of : SpaceParts → SpaceValue
space_of s =
    record {
      right = at s.rights;
      pages = length s.rights;
      entry = (tables_of s.tables).tree.entry;
      place = (tables_of s.tables).tree.place;
      retired = (tables_of s.tables).limbo.retired;
      sequence = s.sequence;
      has_pinned = s.has_pinned;
      structure = s.structure;
      table = s.table;
      walks = (tables_of s.tables).limbo.walks;
    }

-- the page gets this entry, or has none any more
abbrev pub with_entry : (page : ℕ) → Option Entry → SpaceValue → SpaceValue
with_entry page e s = record s { entry = put page e s.entry }

-- n pages get these rights
abbrev pub with_rights : (page n : ℕ) → Rights → SpaceValue → SpaceValue
with_rights page n rights s = record s { right = spread page n (λ _. Some rights) s.right }

-- n pages that were not mapped get these rights
abbrev pub with_pages : (page n : ℕ) → Rights → SpaceValue → SpaceValue
with_pages page n rights s = record (with_rights page n rights s) { pages = s.pages + n }

-- the page is not mapped any more
abbrev pub without_page : (page : ℕ) → SpaceValue → SpaceValue
without_page page s =
    record s { right = put page None s.right; pages = s.pages - (if is_some (s.right page) then 1 else 0) }

-- each page with an entry is mapped
abbrev pub AreMapped : SpaceValue → Type 0
AreMapped s = (page : ℕ) (e : Entry) → s.entry page ≡ Some e → IsSome (s.right page)

-- its page tables, not counted
abbrev pub tables_in : SpaceValue → TreeValue
tables_in s = record { entry = s.entry; place = s.place; tables = 0; room = 0 }

-- how many of the four tables of the page's path are missing
abbrev pub lacking : SpaceValue → (page : ℕ) → ℕ
lacking s page = lacks (tables_in s) page

-- the page lacks none, if it is mapped
abbrev pub HasPath : SpaceValue → (page : ℕ) → Type 0
HasPath s page = IsSome (s.right page) → lacking s page ≡ 0

-- does the process have the table, in its tree or taken out of it?
abbrev pub has_table : SpaceValue → (table : ℕ) → Bool
has_table s table = is_some (s.place table) || is_among s.retired table

-- the tables of the process are of this pool, and aren't free there
abbrev pub OwnsTables : SpaceValue → PoolValue → Type 0
OwnsTables s pool = (table : ℕ) → has_table s table ≡ true → (table < pool.tables) × (pool.free table ≡ false)
