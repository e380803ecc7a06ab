use Rattle.std.proofs.Common.{ℕ, List, Option, None, refl, ap, ◌∙◌}
use Rattle.gup_exec_rows.specs.Row.{at}
use Rattle.gup_exec_rows.proofs.RowLemmas.{through_put}
use Rattle.gup_exec_rows.specs.Sheets.{words_in, sheet_words}
use Rattle.gup_exec_rows.proofs.sheets.Sheets.clear.Goals as goal

pub returns : goal.returns
unfolding words_in
returns c =
    ap (λ (f : ℕ → Option (List ℕ)). λ k. sheet_words (f k)) c.put.ensures
    ∙ through_put sheet_words c.args.f None (at c.args.self.now.rows) (λ _. 0) refl
