-- Answer by answer, from none.
use Rattle.gup_law_check.proofs.Counted.{answered_of}
use Rattle.gup_law_check.proofs.answers_are_counted.Goals as goal

pub returns : goal.returns
returns c script notes a = answered_of script notes a
