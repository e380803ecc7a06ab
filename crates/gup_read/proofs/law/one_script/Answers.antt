use Rattle.gup_read.proofs.Public.{one_script}
use Rattle.gup_read.proofs.law.one_script.Goals as goal

pub returns : goal.returns
returns c = one_script
