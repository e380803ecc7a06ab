use Rattle.std.proofs.Common.{rules, length, refl}
use Rattle.gup_tables.specs.Rows.{place_in, word_in}
use Rattle.gup_tables.proofs.PathRead.{path_read}
use Rattle.gup_tables.proofs.tree.Tree.path_is_read.Goals as goal

pub returns : goal.returns
returns c =
    let rows = c.self.inside.rows in
    rw (← c.self.view_is) (path_read (place_in rows) (word_in rows) c.self.inside.root c.self.invariant (length rows.numbers) rows.room c.args.page (search rules) _ refl)
