-- Whatever page tables there are.
use Rattle.gup_law_tables.proofs.ReadDown.{can_down, leads_down}
use Rattle.gup_law_tables.proofs.walks_read_down.Goals as goal

pub returns-clause-can : goal.returns-clause-can
returns-clause-can c = λ s a p sequence page write long is fresh. can_down s a p sequence page write long is fresh

pub returns-clause-leads : goal.returns-clause-leads
returns-clause-leads c = λ s a p sequence page write long. leads_down s a p sequence page write long
