use Rattle.std.proofs.Common.{length, ap, sym, ◌∙◌}
use Rattle.gup_tables.specs.Kept.{IsLowest}
use Rattle.gup_tables.specs.Rows.{RowLists, place_in, word_in}
use Rattle.gup_spec_tables.specs.Tables.{lacks}
use Rattle.gup_tables.specs.Tree.{tree_of}
use Rattle.gup_tables.proofs.Lacks.{lacks_all, lowest_lacks}
use Rattle.gup_tables.proofs.tree.Tree.lacks.Goals as goal

pub returns-in-Some : goal.returns-in-Some
returns-in-Some c =
    let rows = c.self.inside.rows in
    let low : IsLowest (tree_of rows) c.args.page 1 c.in-Some.last = rw (← c.self.view_is) at c.in-Some.ensures in
    sym (ap (λ (r : RowLists). lacks (tree_of r) c.args.page) (sym c.self.view_is)
    ∙ lowest_lacks (place_in rows) (word_in rows) c.self.inside.root c.self.invariant c.args.page (length rows.numbers) rows.room c.in-Some.last.table c.in-Some.last.level low)

pub returns-in-None : goal.returns-in-None
returns-in-None c =
    let rows = c.self.inside.rows in
    let none = rw (← c.self.view_is) at c.in-None.ensures in
    sym (ap (λ (r : RowLists). lacks (tree_of r) c.args.page) (sym c.self.view_is)
    ∙ lacks_all (place_in rows) (word_in rows) c.self.inside.root c.self.invariant c.args.page (length rows.numbers) rows.room none)
