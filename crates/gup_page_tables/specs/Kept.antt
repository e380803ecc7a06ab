-- What is true of the page tables of a process.
use Rattle.std.specs.Prelude.{◌≡◌, ℕ, ◌+◌, ◌≤◌, true, length, Option, None, IfSome}
use Rattle.gup_page_tables.specs.PageTables.{TablesValue}
use Rattle.gup_spec_tables.specs.Tables.{TreeValue, lacks, is_among, AreApart}

-- no table is in the tree and taken out of it, or was taken out twice; and there is room for all, wherever they are
pub record IsKept (v : TablesValue) : Type 0 where
  pub apart : AreApart v.limbo.retired
  pub gone : (table : ℕ) → is_among v.limbo.retired table ≡ true → v.tree.place table ≡ None
  pub few : v.tree.tables + length v.limbo.retired ≤ v.tree.room
  pub room : v.limbo.room ≡ v.tree.room

-- the page, if there is one, lacks no table
abbrev pub LacksNone : TreeValue → Option ℕ → Type 0
LacksNone v whole = IfSome whole (λ page. lacks v page ≡ 0)
