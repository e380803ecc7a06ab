use Rattle.std.proofs.Common.{◌+◌, ◌/◌, ◌%◌, ◌^◌, None, Some, true, false, refl, ap, sym, ◌∙◌, arith}
use Rattle.gup_plain.specs.Put.{put, put2}
use Rattle.gup_tables.specs.Kept.{IsLowest}
use Rattle.gup_tables.specs.Rows.{RowLists, word_in}
use Rattle.gup_spec_tables.specs.Tables.{without_table}
use Rattle.gup_tables.specs.Tree.{tree_of}
use Rattle.gup_tables.proofs.Shrunk.{HasShrunk, not_detachable, root_stays, detachable_by, still_zero, shrunk}
use Rattle.gup_tables.proofs.tree.Tree.detach.Goals as goal

pub returns-in_default-clause-table : goal.returns-in_default-clause-table
returns-in_default-clause-table c =
    let none = rw (← c.self.view_is) at c.in_default.ensures in
    rw (← c.self.view_is) (sym (not_detachable c.self.inside.rows c.self.inside.root c.self.invariant c.args.page none))

pub returns-then-last-eq-ROOT-clause-table : goal.returns-then-last-eq-ROOT-clause-table
returns-then-last-eq-ROOT-clause-table c =
    let low : IsLowest (tree_of c.self.inside.rows) c.args.page 1 c.in-Some.last = rw (← c.self.view_is) at c.in-Some.ensures in
    rw (← c.self.view_is) (sym (root_stays c.self.inside.rows c.self.inside.root c.self.invariant c.args.page c.in-Some.last low c.if-last-eq-ROOT.true))

pub returns-then-not-is_empty-clause-table : goal.returns-then-not-is_empty-clause-table
returns-then-not-is_empty-clause-table c =
    let low : IsLowest (tree_of c.self.inside.rows) c.args.page 1 c.in-Some.last = rw (← c.self.view_is) at c.in-Some.ensures in
    rw (← c.self.view_is) (sym (detachable_by c.self.inside.rows c.self.inside.root c.self.invariant c.args.page c.in-Some.last low false c.if-last-eq-ROOT.false (sym c.if-not-is_empty.true ∙ c.is_empty.ensures)))

pub returns-in_default-descend-clause-table : goal.returns-in_default-descend-clause-table
returns-in_default-descend-clause-table c =
    let none = rw (← c.self.view_is) at c.in_default-descend.ensures in
    rw (← c.self.view_is) (sym (not_detachable c.self.inside.rows c.self.inside.root c.self.invariant c.args.page none))

pub remove-requires-clause-table : goal.remove-requires-clause-table
remove-requires-clause-table c =
    let low : IsLowest (tree_of c.self.inside.rows) c.args.page 1 c.in-Some.last = rw (← c.self.view_is) at c.in-Some.ensures in
    let there = ap (λ f. f c.in-Some.last.table) c.set_word.ensures.places ∙ low.there in
    rw there refl

pub remove-requires-clause-empty : goal.remove-requires-clause-empty
remove-requires-clause-empty c =
    let rows = c.self.inside.rows in
    let low : IsLowest (tree_of rows) c.args.page 1 c.in-Some.last = rw (← c.self.view_is) at c.in-Some.ensures in
    let over : IsLowest (tree_of rows) c.args.page (c.in-Some.last.level + 1) c.in-Some-descend.over = rw (← c.self.view_is) at c.in-Some-descend.ensures in
    let words = c.set_word.ensures.words ∙ ap (λ i. put2 c.in-Some-descend.over.table i 0 (word_in rows)) (c.index-2.ensures ∙ ap (λ k. c.args.page / 512 ^ k % 512) (omega arith)) in
    λ i.
    ap (λ f. f c.in-Some.last.table i) words
    ∙ still_zero rows c.self.inside.root c.self.invariant c.args.page c.in-Some.last low c.in-Some-descend.over over c.if-last-eq-ROOT.false (sym c.if-not-is_empty.false ∙ c.is_empty.ensures) i

cut : (c : goal.After-of) → HasShrunk c.self.inside.rows c.remove.new.self c.self.inside.root c.in-Some.last.table
cut c =
    let rows = c.self.inside.rows in
    let low : IsLowest (tree_of rows) c.args.page 1 c.in-Some.last = rw (← c.self.view_is) at c.in-Some.ensures in
    let over : IsLowest (tree_of rows) c.args.page (c.in-Some.last.level + 1) c.in-Some-descend.over = rw (← c.self.view_is) at c.in-Some-descend.ensures in
    let words =
    c.remove.ensures.words ∙ c.set_word.ensures.words
    ∙ ap (λ i. put2 c.in-Some-descend.over.table i 0 (word_in rows)) (c.index-2.ensures ∙ ap (λ k. c.args.page / 512 ^ k % 512) (omega arith)) in
    let places = c.remove.ensures.places ∙ ap (put c.in-Some.last.table None) c.set_word.ensures.places in
    shrunk rows c.self.inside.root c.self.invariant c.args.page c.in-Some.last low c.in-Some-descend.over over c.if-last-eq-ROOT.false (sym c.if-not-is_empty.false ∙ c.is_empty.ensures) c.remove.new.self places words
    (c.remove.ensures.len ∙ c.set_word.ensures.len)
    (c.remove.ensures.room ∙ c.set_word.ensures.room)

pub invariant_of-self : goal.invariant_of-self
invariant_of-self c = (cut c).tree

pub returns-clause-table : goal.returns-clause-table
returns-clause-table c =
    let low : IsLowest (tree_of c.self.inside.rows) c.args.page 1 c.in-Some.last = rw (← c.self.view_is) at c.in-Some.ensures in
    rw (← c.self.view_is)
    (ap Some c.of.ensures
    ∙ sym (detachable_by c.self.inside.rows c.self.inside.root c.self.invariant c.args.page c.in-Some.last low true c.if-last-eq-ROOT.false (sym c.if-not-is_empty.false ∙ c.is_empty.ensures)))

pub returns-clause-tree : goal.returns-clause-tree
returns-clause-tree c =
    (cut c).value
    ∙ ap (λ t. without_table t (tree_of c.self.inside.rows)) (sym c.of.ensures)
    ∙ ap (λ (r : RowLists). without_table c.of.result (tree_of r)) c.self.view_is
