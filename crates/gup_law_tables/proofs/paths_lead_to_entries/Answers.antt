-- By how many tables of the path there are.
use Rattle.gup_law_tables.proofs.DownPaths.{is_down}
use Rattle.gup_law_tables.proofs.paths_lead_to_entries.Goals as goal

pub returns : goal.returns
returns c = λ v page tree. is_down v tree page
