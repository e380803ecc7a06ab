use Rattle.std.proofs.Common.{◌≡◌, ℕ, ◌+◌, ◌-◌, ◌%◌, ◌<◌, ◌==◌, not, true, false, ap, sym, ◌∙◌, arith}
use Rattle.std.proofs.lemmas.Bool.Decides.{nat_tests}
use Rattle.gup_maps.proofs.Ranges.{any_below_none, any_below_some}
use Rattle.gup_spec_tables.specs.Tables.{table_words}
use Rattle.gup_tables.specs.Rows.{word_in}
use Rattle.gup_tables.proofs.rows.Rows.is_empty.Goals as goal

below : (k : ℕ) → k < 512 → k < table_words
unfolding table_words
below k less = less

above : (k : ℕ) → k < table_words → k < 512
unfolding table_words
above k less = less

written : (word read : ℕ) → read ≡ word → (read ≡ 0 → ⊥) → not (word == 0) ≡ true
written word read is some = grind (arith, nat_tests)

unwritten : (word : ℕ) → word ≡ 0 → not (word == 0) ≡ false
unwritten word none = grind (arith, nat_tests)

pub returns-then-word-ne0 : goal.returns-then-word-ne0
returns-then-word-ne0 c =
    ap not
    (sym (any_below_some table_words (λ i. not (word_in c.args.self.now c.args.table i == 0)) ((c.args.first + c.loop-k.k) % 512) (below ((c.args.first + c.loop-k.k) % 512) (omega arith))
    (written _ c.word.result c.word.ensures c.if-word-ne0.true)))

pub returns : goal.returns
returns c =
    ap not
    (sym (any_below_none table_words (λ i. not (word_in c.args.self.now c.args.table i == 0))
    (λ i less.
    let within : i < 512 = above i less in
    let j = (i + 512 - c.args.first) % 512 in
    let at : (c.args.first + (i + 512 - c.args.first) % 512) % 512 ≡ i = omega (arith, within, c.requires.first) in
    unwritten _ (ap (word_in c.args.self.now c.args.table) (sym at) ∙ c.loop-k.invariant ((i + 512 - c.args.first) % 512) (omega (arith, c.loop-k.auto.k-end))))))
