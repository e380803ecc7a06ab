use Rattle.gup_check.proofs.Verdicts.{same_verdict}
use Rattle.gup_check.proofs.law.one_verdict.Goals as goal

-- src/law.rt:11:1
pub returns : goal.returns
returns c script notes v w is also = same_verdict script notes (c.beginnings_are_accepted.ensures script) v w is also
