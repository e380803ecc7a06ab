use Rattle.gup_read.proofs.Public.{one_fault}
use Rattle.gup_read.proofs.law.one_fault.Goals as goal

pub returns : goal.returns
returns c = one_fault
