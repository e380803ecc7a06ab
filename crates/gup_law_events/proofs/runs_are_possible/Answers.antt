use Rattle.gup_law_events.proofs.Possible.{they_can_happen}
use Rattle.gup_law_events.proofs.runs_are_possible.Goals as goal

pub returns : goal.returns
returns c = they_can_happen
