use Rattle.std.proofs.Common.{ℕ, List, Option, Some, ap, ◌∙◌}
use Rattle.gup_exec_rows.specs.Row.{at}
use Rattle.gup_exec_rows.proofs.RowLemmas.{through_put2}
use Rattle.gup_exec_rows.specs.Sheets.{words_in, sheet_words}
use Rattle.gup_exec_rows.proofs.sheets.Sheets.put_at.Goals as goal

pub returns : goal.returns
unfolding words_in
returns c =
    ap (λ (f : ℕ → Option (List ℕ)). λ k. sheet_words (f k)) c.put.ensures
    ∙ through_put2 sheet_words c.args.f (Some c.args.words) (at c.args.self.now.rows) c.args.word c.args.value c.requires
