use Rattle.gup_conditions.proofs.AnswerWords.{no_cause}
use Rattle.gup_conditions.proofs.answers.is_cause.Goals as goal

pub returns-else-eq-3 : goal.returns-else-eq-3
returns-else-eq-3 c = no_cause c.args.words.now _ c.eq-in-len2.result c.in-len2.len_at_least c.in-len2.len_below c.eq-in-len2.ensures c.if-eq-3.false
