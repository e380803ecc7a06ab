-- What is read on a page's path in a state is what is read there in the process that it shows.
use Rattle.std.proofs.Common.{◌≡◌, ℕ, ◌-◌, ◌==◌, ◌&&◌, nat_lt, Bool, if◌then◌else◌, List, [], ◌∷◌, length, Option, None, refl, ap, ◌∙◌}
use Rattle.gup_base.specs.declared.entry.Entry.{Entry}
use Rattle.gup_spec_tables.specs.declared.place.Place.{Place}
use Rattle.gup_spec_tables.specs.Tables.{TreeValue, on_path, is_at, table_at}
use Rattle.gup_spec_tables.specs.Paths.{is_there, link_at, entry_at, is_this, leads_still, and_table, path_to}

module _ (v w : TreeValue) (page : ℕ) (places : v.place ≡ w.place) where
  there : (path : List ℕ) → is_there v path page ≡ is_there w path page
  there [] = refl
  there (table ∷ path) =
      ap (λ (place : ℕ → Option Place). is_at (on_path (3 - length path) page) (place table)) places

  link : (path : List ℕ) → link_at v path page ≡ link_at w path page
  link path =
      ap (λ (b : Bool). if b && nat_lt (length path) 3 then table_at v.place (on_path (3 - length path) page) else None) (there path)
      ∙ ap (λ (place : ℕ → Option Place). if is_there w path page && nat_lt (length path) 3 then table_at place (on_path (3 - length path) page) else None) places

  pub leads_shown : (path : List ℕ) → leads_still v path page ≡ leads_still w path page
  leads_shown [] = refl
  leads_shown (table ∷ path) = ap (is_this table) (link path)

  pub entry_shown : (path : List ℕ) → v.entry page ≡ w.entry page → entry_at v path page ≡ entry_at w path page
  entry_shown path entries =
      ap (λ (b : Bool). if b && (length path == 3) then v.entry page else None) (there path)
      ∙ ap (λ (o : Option Entry). if is_there w path page && (length path == 3) then o else None) entries

  pub path_shown : path_to v page ≡ path_to w page
  path_shown =
      ap (λ (place : ℕ → Option Place). and_table (table_at place (on_path 1 page)) (and_table (table_at place (on_path 2 page)) (and_table (table_at place (on_path 3 page)) []))) places
