use Rattle.gup_tables.proofs.RowLists.{row_has}
use Rattle.gup_tables.proofs.RowWritten.{written_words}
use Rattle.gup_tables.proofs.rows.Rows.set_word.Goals as goal

pub returns-clause-words : goal.returns-clause-words
returns-clause-words c =
    let own = row_has _ c.args.table c.row-row.result (rw (← c.self.view_is) at c.row-row.ensures) in
    rw (← c.self.view_is) (written_words _ c.args.table c.row-row.result c.args.i c.args.word _ _ _ c.self.invariant own c.requires.within)
