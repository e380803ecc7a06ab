-- What is true of the tables of a tree.
use Rattle.std.specs.Prelude.{◌≡◌, ℕ, ◌-◌, ◌^◌, ◌<◌, ◌≤◌, Option, None, Some, IsSome}
use Rattle.gup_spec_tables.specs.declared.place.Place.{Place}
use Rattle.gup_tables.specs.declared.tree.Step.{Step}
use Rattle.gup_spec_tables.specs.Tables.{table_numbers, TreeValue, table_at, above, on_path, word_here}
use Rattle.gup_tables.specs.Tree.{tree_by}

-- Tables stand at different places of the four levels, over pages that there are, each but the root below another. Their words
-- are those that lead to the tables below, and those of entries.
pub record IsTree (place : ℕ → Option Place) (word : ℕ → ℕ → ℕ) (root : Option ℕ) : Type 0 where
  pub root_there : root ≡ table_at place (on_path 4 0)
  pub numbered : (table : ℕ) (p : Place) → place table ≡ Some p → table < table_numbers
  pub levels : (table : ℕ) (p : Place) → place table ≡ Some p → (0 < p.level) × (p.level ≤ 4)
  pub root_span : (table : ℕ) (p : Place) → place table ≡ Some p → p.level ≡ 4 → p.span ≡ 0
  pub leaf_span : (table : ℕ) (p : Place) → place table ≡ Some p → p.level ≡ 1 → p.span < 2 ^ 26
  pub apart : (table other : ℕ) (p : Place) → place table ≡ Some p → place other ≡ Some p → table ≡ other
  pub linked : (table : ℕ) (p : Place) → place table ≡ Some p → p.level < 4 → IsSome (table_at place (above p))
  pub words : (table i : ℕ) (p : Place) → place table ≡ Some p → i < 512 → word table i ≡ word_here (tree_by place word 0 0) p i

-- what is found on the page's path, no lower than the bottom: a table and its level, below which none stands
pub record IsLowest (v : TreeValue) (page bottom : ℕ) (found : Step) : Type 0 where
  pub there : v.place found.table ≡ Some (on_path found.level page)
  pub within : (bottom ≤ found.level) × (found.level ≤ 4)
  pub last : bottom < found.level → table_at v.place (on_path (found.level - 1) page) ≡ None

-- no page from this one on has an entry, up to one behind it
pub record IsUntouchedUntil (v : TreeValue) (page behind : ℕ) : Type 0 where
  pub further : page < behind
  pub none : (other : ℕ) → page ≤ other → other < behind → v.entry other ≡ None
