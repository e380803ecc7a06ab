use Rattle.std.proofs.Common.{length, refl}
use Rattle.gup_tables.specs.Rows.{place_in, word_in}
use Rattle.gup_tables.proofs.Lacks.{entered_lacks}
use Rattle.gup_tables.proofs.tree.Tree.has_path.Goals as goal

pub returns : goal.returns
returns c =
    let rows = c.self.inside.rows in
    rw (← c.self.view_is) (entered_lacks (place_in rows) (word_in rows) c.self.inside.root c.self.invariant c.args.page (length rows.numbers) rows.room _ refl)
