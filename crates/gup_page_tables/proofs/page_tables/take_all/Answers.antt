use Rattle.std.proofs.Common.{◌≡◌, ℕ, ◌+◌, ◌<◌, ◌≤◌, false, Some, ap, sym, ◌∙◌, arith}
use Rattle.std.proofs.lemmas.Option.{MatchOption-at_some}
use Rattle.gup_plain.specs.Put.{lowest}
use Rattle.gup_tables.specs.Pool.{PoolValue, pool_of, with_free, free_tables}
use Rattle.gup_spec_tables.specs.Tables.{TreeValue, lacks, with_table}
use Rattle.gup_tables.specs.Tree.{tree_of}
use Rattle.gup_page_tables.specs.PageTables.{Both, all_of, takes}
use Rattle.gup_page_tables.proofs.Taken.{some_free, unplaced, fits, fewer, takes_own, takes_kept, step_grown, own_is, kept_is}
use Rattle.gup_page_tables.proofs.Fuller.{fuller}
use Rattle.gup_page_tables.proofs.page_tables.take_all.Goals as goal

some : (free k end : ℕ) → end ≤ free + k → k < end → 0 < free
some free k end enough less = omega (arith, enough, less)

pub unwrap-table-requires : goal.unwrap-table-requires
unwrap-table-requires c =
    let b = all_of c.loop-k.tree c.args.limbo.now (pool_of c.loop-k.pool) in
    let free = some_free b c.loop-k.invariant.own c.loop-k.invariant.kept c.is_counted.ensures (some _ c.loop-k.k c.args.lacking c.loop-k.invariant.enough c.loop-k-test.true) in
    rw c.take.ensures.table free

lowest_is : (c : goal.After-add) → lowest 0 (pool_of c.loop-k.pool).tables (pool_of c.loop-k.pool).free ≡ Some c.unwrap-table.result
lowest_is c = sym c.take.ensures.table ∙ c.unwrap-table.ensures

pub add-requires-clause-room : goal.add-requires-clause-room
add-requires-clause-room c =
    let b = all_of c.loop-k.tree c.args.limbo.now (pool_of c.loop-k.pool) in
    fits b c.loop-k.invariant.own c.loop-k.invariant.kept c.is_counted.ensures c.unwrap-table.result c.args.page (sym c.take.ensures.table ∙ c.unwrap-table.ensures)

pub add-requires-clause-other : goal.add-requires-clause-other
add-requires-clause-other c =
    let b = all_of c.loop-k.tree c.args.limbo.now (pool_of c.loop-k.pool) in
    unplaced b c.loop-k.invariant.own c.loop-k.invariant.kept c.is_counted.ensures c.unwrap-table.result c.args.page (sym c.take.ensures.table ∙ c.unwrap-table.ensures)

abbrev with_tree : Both → TreeValue → PoolValue → Both
with_tree b tree pool = record { tables = record (b.tables) { tree = tree }; pool = pool }

new_is : (c : goal.After-add) → all_of c.add.new.self c.args.limbo.now (pool_of c.take.new.self) ≡ takes c.args.page (Some c.unwrap-table.result) (all_of c.loop-k.tree c.args.limbo.now (pool_of c.loop-k.pool))
new_is c =
    let b = all_of c.loop-k.tree c.args.limbo.now (pool_of c.loop-k.pool) in
    let taken = MatchOption-at_some _ (λ t. pool_of c.take.new.self ≡ with_free t false (pool_of c.loop-k.pool)) c.unwrap-table.result c.unwrap-table.ensures c.take.ensures.taken in
    ap (λ t. with_tree b t (pool_of c.take.new.self)) c.add.ensures.tree
    ∙ ap (with_tree b (with_table c.unwrap-table.result c.args.page (tree_of c.loop-k.tree))) taken

pub loop-k-preserved : goal.loop-k-preserved
loop-k-preserved c =
    let b = all_of c.loop-k.tree c.args.limbo.now (pool_of c.loop-k.pool) in
    let i = c.loop-k.invariant in
    let is = new_is c in
    let low = lowest_is c in
    let table = c.unwrap-table.result in
    let new = unplaced b i.own i.kept c.is_counted.ensures table c.args.page low in
    let less = fewer b i.own i.kept c.is_counted.ensures table c.args.page low in
    let free_is : free_tables (pool_of c.take.new.self) ≡ free_tables (takes c.args.page (Some table) b).pool = ap (λ (x : Both). free_tables x.pool) is in
    record {
      left = omega (arith, i.left, c.add.ensures.lacks);
      enough = omega (arith, i.enough, less, free_is);
      grown = step_grown b _ _ c.args.page table c.loop-k.k c.args.lacking low is c.loop-k-test.true i.grown;
      entries = ap (λ (t : TreeValue). t.entry) c.add.ensures.tree ∙ i.entries;
      room = ap (λ (t : TreeValue). t.room) c.add.ensures.tree ∙ i.room;
      full = λ g none. ap (λ (t : TreeValue). lacks t g) c.add.ensures.tree ∙ fuller (tree_of c.loop-k.tree) table c.args.page g new (i.full g none);
      own = own_is _ _ is (takes_own b i.own i.kept c.is_counted.ensures table c.args.page low);
      kept = kept_is _ _ is (takes_kept b i.own i.kept c.is_counted.ensures table c.args.page low);
    }
