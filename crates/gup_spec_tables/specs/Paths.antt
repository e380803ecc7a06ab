-- What is read of page tables down a page's path, one word after another: at first a word of the root, then one of each table to which the
-- word before leads. Meanwhile tables may be taken out.
use Rattle.std.specs.Prelude.{◌≡◌, ◌⊎◌, ℕ, ◌-◌, ◌==◌, ◌&&◌, nat_lt, Bool, true, false, if◌then◌else◌, List, [], ◌∷◌, length, Option, Some, None}
use Rattle.gup_base.specs.declared.entry.Entry.{Entry}
use Rattle.gup_spec_tables.specs.Tables.{TreeValue, on_path, is_at, table_at}

-- A path is the tables below the root to which words have led, the last one first. Does that one still stand where it stood? The root,
-- where a path begins, always does.
abbrev pub is_there : TreeValue → (path : List ℕ) → (page : ℕ) → Bool
is_there v [] page = true
is_there v (table ∷ path) page = is_at (on_path (3 - length path) page) (v.place table)

-- The table to which the word leads that is read there, if it leads to one. A table that was taken out has no word but 0.
abbrev pub link_at : TreeValue → (path : List ℕ) → (page : ℕ) → Option ℕ
link_at v path page = if is_there v path page && nat_lt (length path) 3 then table_at v.place (on_path (3 - length path) page) else None

-- the entry in the word that is read at the end of a whole path
abbrev pub entry_at : TreeValue → (path : List ℕ) → (page : ℕ) → Option Entry
entry_at v path page = if is_there v path page && (length path == 3) then v.entry page else None

-- does the word above still lead to the table that comes last?
abbrev pub is_this : (table : ℕ) → Option ℕ → Bool
is_this table None = false
is_this table (Some other) = table == other

abbrev pub leads_still : TreeValue → (path : List ℕ) → (page : ℕ) → Bool
leads_still v [] page = true
leads_still v (table ∷ path) page = is_this table (link_at v path page)

-- the tables of the page's path, as far as there are
abbrev pub and_table : Option ℕ → List ℕ → List ℕ
and_table None path = path
and_table (Some table) path = table ∷ path

abbrev pub path_to : TreeValue → (page : ℕ) → List ℕ
path_to v page =
    and_table (table_at v.place (on_path 1 page))
    (and_table (table_at v.place (on_path 2 page)) (and_table (table_at v.place (on_path 3 page)) []))

-- Each table of the path stands where it stood, or isn't in the tree: none has become another page's.
abbrev pub KeepsPath : TreeValue → (path : List ℕ) → (page : ℕ) → Type 0
KeepsPath v [] page = Unit {0}
KeepsPath v (table ∷ path) page =
    ((v.place table ≡ None) ⊎ (v.place table ≡ Some (on_path (3 - length path) page))) × KeepsPath v path page
