-- What is read down a page's path while nobody comes between.
use Rattle.std.specs.Prelude.{◌≡◌, ℕ, List, [], ◌∷◌, Some, None, IsSome}
use Rattle.gup_spec_tables.specs.Tables.{TreeValue, lacks}
use Rattle.gup_spec_tables.specs.Paths.{link_at, entry_at}

-- words lead from the root to each table of the path, one after another
abbrev pub Leads : TreeValue → (page : ℕ) → (path : List ℕ) → Type 0
Leads v page [] = Unit {0}
Leads v page (table ∷ path) = (link_at v path page ≡ Some table) × Leads v page path

-- and no further; where a page with an entry lacks no table, what is read at the end is the page's entry
pub record IsDown (v : TreeValue) (page : ℕ) (path : List ℕ) : Type 0 where
  pub leads : Leads v page path
  pub ends : link_at v path page ≡ None
  pub reads : (IsSome (v.entry page) → lacks v page ≡ 0) → entry_at v path page ≡ v.entry page
