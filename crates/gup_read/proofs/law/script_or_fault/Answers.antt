use Rattle.gup_read.proofs.Public.{script_or_fault}
use Rattle.gup_read.proofs.law.script_or_fault.Goals as goal

pub returns : goal.returns
returns c = script_or_fault
