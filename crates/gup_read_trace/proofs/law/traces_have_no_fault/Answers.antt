use Rattle.gup_read_trace.proofs.Traces.{no_fault}
use Rattle.gup_read_trace.proofs.law.traces_have_no_fault.Goals as goal

pub returns : goal.returns
returns c = no_fault c.one_script.ensures c.scripts_have_names.ensures c.scripts_have_no_fault.ensures
