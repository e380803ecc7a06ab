use Rattle.std.proofs.Common.{◌≡◌, ◌-◌, ◌%◌, Some, length, ap, sym, ◌∙◌, arith}
use Rattle.gup_base.specs.Packing.{unpack_of}
use Rattle.gup_tables.specs.Kept.{IsLowest}
use Rattle.gup_tables.specs.Rows.{place_in, word_in}
use Rattle.gup_spec_tables.specs.Tables.{table_at, on_path}
use Rattle.gup_tables.specs.Tree.{tree_of, entry_at}
use Rattle.gup_tables.proofs.Lacks.{none_lower}
use Rattle.gup_tables.proofs.Touched.{leaf_entry}
use Rattle.gup_tables.proofs.tree.Tree.look.Goals as goal

pub returns-in_default : goal.returns-in_default
returns-in_default c =
    let rows = c.self.inside.rows in
    let none = rw (← c.self.view_is) at c.in_default.ensures in
    let gone = none_lower (place_in rows) (word_in rows) c.self.inside.root c.self.invariant c.args.page 1 3 (omega arith) none in
    rw (← c.self.view_is) (sym (ap (λ o. entry_at (word_in rows) o c.args.page) gone))

pub returns-then-last-gt1 : goal.returns-then-last-gt1
returns-then-last-gt1 c =
    let rows = c.self.inside.rows in
    let low : IsLowest (tree_of rows) c.args.page 1 c.in-Some.last = rw (← c.self.view_is) at c.in-Some.ensures in
    let none = low.last c.if-last-gt1.true in
    let gone = none_lower (place_in rows) (word_in rows) c.self.inside.root c.self.invariant c.args.page 1 (c.in-Some.last.level - 2) (omega (arith, low.within.1, c.if-last-gt1.true)) (ap (λ k. table_at (place_in rows) (on_path k c.args.page)) (omega (arith, c.if-last-gt1.true)) ∙ none) in
    rw (← c.self.view_is) (sym (ap (λ o. entry_at (word_in rows) o c.args.page) gone))

pub returns : goal.returns
returns c =
    let rows = c.self.inside.rows in
    let low : IsLowest (tree_of rows) c.args.page 1 c.in-Some.last = rw (← c.self.view_is) at c.in-Some.ensures in
    let leaf : c.in-Some.last.level ≡ 1 = omega (arith, c.if-last-gt1.false, low.within.0) in
    let there = low.there ∙ ap (λ k. Some (on_path k c.args.page)) leaf in
    let index : c.index.result ≡ c.args.page % 512 = c.index.ensures ∙ omega arith in
    let word = c.word.ensures ∙ ap (word_in rows c.in-Some.last.table) index in
    rw (← c.self.view_is)
    (c.unpack.ensures.value ∙ ap unpack_of word
    ∙ sym (leaf_entry (place_in rows) (word_in rows) c.self.inside.root c.self.invariant (length rows.numbers) rows.room c.in-Some.last.table c.args.page there))
