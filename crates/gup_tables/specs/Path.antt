-- The tables of a page's path.
use Rattle.std.specs.Prelude.{ℕ, List, [], ◌∷◌}
use Rattle.gup_tables.specs.declared.path.Path.{Path}

-- those below the root, the last one first
abbrev pub tables_on : Path → List ℕ
tables_on p = p.last ∷ p.second ∷ p.third ∷ []
