use Rattle.std.proofs.Common.{◌≡◌, ◌-◌, ◌%◌, Some, length, ap, sym, ◌∙◌, rules, arith}
use Rattle.gup_tables.specs.Kept.{IsLowest}
use Rattle.gup_tables.specs.Rows.{place_in, word_in}
use Rattle.gup_spec_tables.specs.Tables.{on_path}
use Rattle.gup_tables.specs.Tree.{tree_of}
use Rattle.gup_tables.proofs.Touched.{untouched, untouched_span, untouched_page, some_entry}
use Rattle.gup_tables.proofs.tree.Tree.untouched_until.Goals as goal

pub returns-in_default : goal.returns-in_default
returns-in_default c =
    let rows = c.self.inside.rows in
    let none = rw (← c.self.view_is) at c.in_default.ensures in
    rw (← c.self.view_is) (untouched (place_in rows) (word_in rows) c.self.inside.root c.self.invariant (length rows.numbers) rows.room c.args.page (search rules) none)

pub returns-then-last-gt1 : goal.returns-then-last-gt1
returns-then-last-gt1 c =
    let rows = c.self.inside.rows in
    let low : IsLowest (tree_of rows) c.args.page 1 c.in-Some.last = rw (← c.self.view_is) at c.in-Some.ensures in
    let none = low.last c.if-last-gt1.true in
    rw (← c.self.view_is, c.behind.ensures)
    (untouched_span (place_in rows) (word_in rows) c.self.inside.root c.self.invariant (length rows.numbers) rows.room (c.in-Some.last.level - 1) c.args.page (omega (arith, c.if-last-gt1.true)) (omega (arith, low.within.1)) none)

pub returns-then-word-eq0 : goal.returns-then-word-eq0
returns-then-word-eq0 c =
    let rows = c.self.inside.rows in
    let low : IsLowest (tree_of rows) c.args.page 1 c.in-Some.last = rw (← c.self.view_is) at c.in-Some.ensures in
    let leaf : c.in-Some.last.level ≡ 1 = omega (arith, c.if-last-gt1.false, low.within.0) in
    let there = low.there ∙ ap (λ k. Some (on_path k c.args.page)) leaf in
    let index : c.index.result ≡ c.args.page % 512 = c.index.ensures ∙ omega arith in
    let zero = sym (c.word.ensures ∙ ap (word_in rows c.in-Some.last.table) index) ∙ c.if-word-eq0.true in
    rw (← c.self.view_is)
    (untouched_page (place_in rows) (word_in rows) c.self.inside.root c.self.invariant (length rows.numbers) rows.room c.in-Some.last.table c.args.page c.behind-then-word-eq0.result there zero (c.behind-then-word-eq0.ensures ∙ omega arith))

pub returns : goal.returns
returns c =
    let rows = c.self.inside.rows in
    let low : IsLowest (tree_of rows) c.args.page 1 c.in-Some.last = rw (← c.self.view_is) at c.in-Some.ensures in
    let leaf : c.in-Some.last.level ≡ 1 = omega (arith, c.if-last-gt1.false, low.within.0) in
    let there = low.there ∙ ap (λ k. Some (on_path k c.args.page)) leaf in
    let index : c.index.result ≡ c.args.page % 512 = c.index.ensures ∙ omega arith in
    let word = c.word.ensures ∙ ap (word_in rows c.in-Some.last.table) index in
    rw (← c.self.view_is)
    (some_entry (place_in rows) (word_in rows) c.self.inside.root c.self.invariant (length rows.numbers) rows.room c.in-Some.last.table c.args.page there (λ none. c.if-word-eq0.false (word ∙ none)))
