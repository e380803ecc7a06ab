use Rattle.gup_read_trace.proofs.Traces.{one_trace}
use Rattle.gup_read_trace.proofs.law.one_trace.Goals as goal

pub returns : goal.returns
returns c = one_trace c.one_script.ensures c.scripts_have_names.ensures c.one_note.ensures
