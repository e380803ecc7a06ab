use Rattle.std.proofs.Common.{◌≡◌, ◌%◌, ◌<◌, ap, sym, ◌∙◌, rules, arith}
use Rattle.std.specs.Option.{ForSome}
use Rattle.gup_plain.specs.Put.{put2}
use Rattle.gup_tables.specs.Kept.{IsLowest}
use Rattle.gup_tables.specs.Rows.{RowLists, word_in}
use Rattle.gup_spec_tables.specs.Tables.{lacks, with_entry}
use Rattle.gup_tables.specs.Tree.{tree_of}
use Rattle.gup_tables.proofs.SetRows.{HasSet, set_rows}
use Rattle.gup_tables.proofs.tree.Tree.set.Goals as goal

small : (c : goal.After-set_word) → ForSome c.args.entry (λ e. e.frame < 16384)
small c = search rules

written : (c : goal.After-set_word) → HasSet c.self.inside.rows c.set_word.new.self c.self.inside.root c.args.page c.args.entry
written c =
    let rows = c.self.inside.rows in
    let low : IsLowest (tree_of rows) c.args.page 1 c.in-Some.last = rw (← c.self.view_is) at c.in-Some.ensures in
    let same : lacks (tree_of c.args.self.now) c.args.page ≡ lacks (tree_of rows) c.args.page = ap (λ (r : RowLists). lacks (tree_of r) c.args.page) (sym c.self.view_is) in
    let complete = sym same ∙ c.requires in
    let words =
    c.set_word.ensures.words
    ∙ ap (λ i. put2 c.in-Some.last.table i c.pack.result (word_in rows)) (c.index.ensures ∙ omega arith)
    ∙ ap (λ w. put2 c.in-Some.last.table (c.args.page % 512) w (word_in rows)) c.pack.ensures in
    set_rows rows c.set_word.new.self c.self.inside.root c.self.invariant c.args.page c.in-Some.last low complete c.args.entry (small c) c.set_word.ensures.places words c.set_word.ensures.len c.set_word.ensures.room

pub invariant_of-self : goal.invariant_of-self
invariant_of-self c = (written c).tree

pub returns-in-Some : goal.returns-in-Some
returns-in-Some c = (written c).value ∙ ap (λ (r : RowLists). with_entry c.args.page c.args.entry (tree_of r)) c.self.view_is
