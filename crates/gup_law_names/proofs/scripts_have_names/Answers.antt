use Rattle.gup_law_names.proofs.Naming.{accepted_names}
use Rattle.gup_law_names.proofs.scripts_have_names.Goals as goal

pub returns : goal.returns
returns c = accepted_names
