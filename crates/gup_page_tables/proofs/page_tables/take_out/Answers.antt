use Rattle.std.proofs.Common.{◌≡◌, ℕ, Some, ap, sym, ◌∙◌}
use Rattle.gup_limbo.specs.Limbo.{LimboValue}
use Rattle.gup_spec_tables.specs.Tables.{TreeValue, without_table}
use Rattle.gup_tables.specs.Tree.{tree_of}
use Rattle.gup_page_tables.specs.PageTables.{TablesValue, some_of, has_table, retires}
use Rattle.gup_page_tables.specs.Kept.{IsKept}
use Rattle.gup_page_tables.proofs.TakenOut.{waits, same_has, retires_kept}
use Rattle.gup_page_tables.proofs.page_tables.take_out.Goals as goal

pub retire-requires : goal.retire-requires
retire-requires c =
    waits (some_of c.args.tree.now c.args.limbo.now) c.requires.kept c.is_counted.ensures c.args.page c.in-Some.table (sym c.in-Some.ensures.table)

abbrev tables_with : TreeValue → LimboValue ℕ → TablesValue
tables_with tree limbo = record { tree = tree; limbo = limbo }

new_is : (c : goal.After-retire) → some_of c.detach.new.self c.retire.new.self ≡ retires (Some c.in-Some.table) (some_of c.args.tree.now c.args.limbo.now)
new_is c = ap (λ t. tables_with t c.retire.new.self) c.in-Some.ensures.tree ∙ ap (tables_with (without_table c.in-Some.table (tree_of c.args.tree.now))) c.retire.ensures

kept_by : (v w : TablesValue) → v ≡ w → IsKept w → IsKept v
kept_by v w is kept = rw is kept

pub returns-clause-same : goal.returns-clause-same
returns-clause-same c = λ t.
    ap (λ v. has_table v t) (new_is c)
    ∙ same_has (some_of c.args.tree.now c.args.limbo.now) c.requires.kept c.is_counted.ensures c.args.page c.in-Some.table (sym c.in-Some.ensures.table) t

pub returns-clause-kept : goal.returns-clause-kept
returns-clause-kept c =
    kept_by _ _ (new_is c) (retires_kept (some_of c.args.tree.now c.args.limbo.now) c.requires.kept c.is_counted.ensures c.args.page c.in-Some.table (sym c.in-Some.ensures.table))

pub returns-in_default-clause-same : goal.returns-in_default-clause-same
returns-in_default-clause-same c = λ t. ap (λ tree. has_table (tables_with tree c.args.limbo.now) t) c.in_default.ensures.tree
