use Rattle.std.proofs.Common.{sym, ◌∙◌, arith}
use Rattle.gup_read_words.proofs.SpelledPlaces.{range_found}
use Rattle.gup_read.proofs.operations.pinned_range.Goals as goal

pub overflow_cast-result : goal.overflow_cast-result
overflow_cast-result c =
    let h = range_found 16 c.args.first.now c.args.count.now c.in_ok-page.page c.in_ok-page.n (sym c.range.ensures ∙ c.in_ok-page.was) in
    omega (arith, h.3)
