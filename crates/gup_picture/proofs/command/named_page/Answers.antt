use Rattle.std.proofs.Common.{sym, ◌∙◌}
use Rattle.gup_picture.proofs.FirstWords.{no_dot, no_name, no_page, page_there}
use Rattle.gup_picture.proofs.command.named_page.Goals as goal

pub returns-in_default : goal.returns-in_default
returns-in_default c = λ process page. no_dot c.args.word.now process page c.in_default.ensures

pub returns-then-not-is_name : goal.returns-then-not-is_name
returns-then-not-is_name c = λ process page.
    no_name c.args.word.now c.in-Some.process.now process page c.in-Some.ensures.1 (sym c.is_name.ensures ∙ c.if-not-is_name.true)

pub returns-in-Some-page : goal.returns-in-Some-page
returns-in-Some-page c =
    page_there c.args.word.now c.in-Some.process.now c.in-Some.number.now c.in-Some-page.page c.in-Some.ensures.0 c.in-Some.ensures.1 c.in-Some.ensures.2 (sym c.is_name.ensures ∙ c.if-not-is_name.false) c.in-Some-page.ensures

pub returns-in-None : goal.returns-in-None
returns-in-None c = λ process page. no_page c.args.word.now c.in-Some.number.now process page c.in-Some.ensures.2 c.in-None.ensures
