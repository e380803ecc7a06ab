use Rattle.gup_read.proofs.Public.{scripts_have_no_fault}
use Rattle.gup_read.proofs.law.scripts_have_no_fault.Goals as goal

pub returns : goal.returns
returns c = scripts_have_no_fault
