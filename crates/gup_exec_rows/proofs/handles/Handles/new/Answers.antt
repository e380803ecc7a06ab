use Rattle.gup_exec_rows.specs.Handles.{handles_in}
use Rattle.gup_exec_rows.proofs.handles.Handles.new.Goals as goal

pub returns : goal.returns
unfolding handles_in
returns c = c.in_ok-pins.ensures.unmade
