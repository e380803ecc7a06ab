use Rattle.std.proofs.Common.{◌≡◌, ℕ, ◌+◌, ◌-◌, ◌≤◌}
use Rattle.gup_tables.specs.Pool.{pool_of, free_tables}
use Rattle.gup_spec_tables.specs.Tables.{lacks}
use Rattle.gup_tables.specs.Tree.{tree_of}
use Rattle.gup_page_tables.specs.PageTables.{some_of, all_of, IsOf, grows}
use Rattle.gup_page_tables.specs.Kept.{IsKept}
use Rattle.gup_page_tables.proofs.page_tables.take_all.Given as goal

-- what comes of the tables that the page still lacks is what comes of all that it lacked
abbrev pub invariant-loop-k : goal.invariant-loop-k
invariant-loop-k l = record {
  left : lacks (tree_of l.tree) l.page + l.k ≡ l.lacking;
  enough : l.lacking ≤ free_tables (pool_of l.pool) + l.k;
  grown : grows l.page (l.lacking - l.k) (all_of l.tree l.limbo (pool_of l.pool)) ≡ grows l.page l.lacking (all_of l.initial.tree l.limbo (pool_of l.initial.pool));
  entries : (tree_of l.tree).entry ≡ (tree_of l.initial.tree).entry;
  room : (tree_of l.tree).room ≡ (tree_of l.initial.tree).room;
  full : (g : ℕ) → lacks (tree_of l.initial.tree) g ≡ 0 → lacks (tree_of l.tree) g ≡ 0;
  own : IsOf (all_of l.tree l.limbo (pool_of l.pool));
  kept : IsKept (some_of l.tree l.limbo);
}
