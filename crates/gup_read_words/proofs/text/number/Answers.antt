use Rattle.std.proofs.Common.{sym, ◌∙◌}
use Rattle.gup_read_words.proofs.ParsedNumbers.{none_from_parse, none_from_padded, number_from_parse}
use Rattle.gup_read_words.proofs.text.number.Goals as goal

pub returns-in_default : goal.returns-in_default
returns-in_default c = sym (none_from_parse c.args.word.now c.parse.result c.in_default.field-0 c.parse.ensures.value.0 c.in_default.is)

pub returns-then-is_padded : goal.returns-then-is_padded
returns-then-is_padded c = sym (none_from_padded c.args.word.now (sym c.is_padded.ensures ∙ c.if-is_padded.true))

pub returns-else-is_padded : goal.returns-else-is_padded
returns-else-is_padded c = sym (number_from_parse c.args.word.now c.parse.result c.in-Ok.n c.parse.ensures.value.0 c.in-Ok.is (sym c.is_padded.ensures ∙ c.if-is_padded.false))
