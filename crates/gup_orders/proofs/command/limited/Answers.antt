use Rattle.std.proofs.Common.{Option, sym, subst, ◌∙◌, refl}
use Rattle.gup_read_words.proofs.SpelledNumbers.{number_found}
use Rattle.gup_orders.specs.Report.{IsLimited}
use Rattle.gup_orders.specs.declared.command.Asked.{Asked}
use Rattle.gup_orders.proofs.Asking.{no_number}
use Rattle.gup_orders.proofs.command.limited.Goals as goal

pub returns-in_err-limit : goal.returns-in_err-limit
returns-in_err-limit c =
    subst (λ (r : Option Asked). IsLimited c.args.behind c.args.word.now r) (sym c.from_residual.ensures)
    (no_number c.args.word.now (sym c.number.ensures ∙ c.in_err-limit.was))

pub returns : goal.returns
returns c = (refl, number_found c.args.word.now c.in_ok-limit.limit (sym c.number.ensures ∙ c.in_ok-limit.was))
