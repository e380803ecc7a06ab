use Rattle.std.proofs.Common.{◌-◌, ◌≡◌, ◌≤◌, Some}
use Rattle.gup_spec_tables.specs.Tables.{on_path}
use Rattle.gup_tables.specs.Tree.{tree_of}
use Rattle.gup_tables.proofs.tree.Tree.descend.Given as goal

-- the table is the one of this level on the page's path
abbrev pub invariant-loop-level : goal.invariant-loop-level
invariant-loop-level l = record {
  there : (tree_of l.self).place l.table ≡ Some (on_path l.level l.page);
  within : (l.bottom ≤ l.level) × (l.level ≤ 4);
}

abbrev pub decreases-loop-level : goal.decreases-loop-level
decreases-loop-level l = l.level - l.bottom
