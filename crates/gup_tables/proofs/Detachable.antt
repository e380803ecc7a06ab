-- What can be taken out of a tree.
use Rattle.std.proofs.Common.{◌≡◌, ℕ, ◌+◌, ◌<◌, nat_lt, Bool, true, false, cond, Option, Some, None, refl}
use Rattle.gup_spec_tables.specs.Tables.{table_numbers, TreeValue, table_at, on_path, lacks, is_empty, if_empty, detachable}
use Rattle.gup_tables.proofs.Places.{at_some}

if_found : (v : TreeValue) (o : Option ℕ) (table : ℕ) → if_empty v o ≡ Some table → o ≡ Some table
if_found v None table is = absurd cc
if_found v (Some other) table is = go (is_empty v other) refl is
  where
    go : (b : Bool) → is_empty v other ≡ b → cond b (Some other) None ≡ Some table → Some other ≡ Some table
    go true test is = is
    go false test is = absurd cc

-- what can be taken out is in the tree
pub stands : (v : TreeValue) (page table : ℕ) → detachable v page ≡ Some table → (table < table_numbers) × (v.place table ≡ Some (on_path (lacks v page + 1) page))
stands v page table is = go (nat_lt (lacks v page) 3) refl is
  where
    go : (b : Bool) → nat_lt (lacks v page) 3 ≡ b → cond b (if_empty v (table_at v.place (on_path (lacks v page + 1) page))) None ≡ Some table → (table < table_numbers) × (v.place table ≡ Some (on_path (lacks v page + 1) page))
    go true test is = at_some v.place (on_path (lacks v page + 1) page) table (if_found v (table_at v.place (on_path (lacks v page + 1) page)) table is)
    go false test is = absurd cc
