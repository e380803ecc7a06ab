use Rattle.std.proofs.Common.{◌≡◌, ◌%◌, length, ap, ◌∙◌, arith}
use Rattle.gup_base.specs.Packing.{unpack_of}
use Rattle.gup_spec_tables.specs.Tables.{word_of}
use Rattle.gup_tables.specs.Rows.{RowLists, place_in, word_in}
use Rattle.gup_tables.specs.Tree.{tree_of}
use Rattle.gup_page_tables.proofs.PathWords.{entry_read}
use Rattle.gup_page_tables.proofs.page_tables.PageTables.entry_by.Goals as goal

pub returns : goal.returns
returns c =
    let rows : RowLists = c.args.self.now.rows in
    let path = c.args.path.now in
    let index : c.index.result ≡ c.args.page % 512 = c.index.ensures ∙ omega arith in
    c.unpack.ensures.value
    ∙ ap unpack_of (c.word_at.ensures ∙ ap (word_of (tree_of rows) path.last) index)
    ∙ entry_read (place_in rows) (word_in rows) (length rows.numbers) rows.room path.last path.second path.third c.args.page c.requires.0
