-- The start, an event for each, and what follows for the tables of a path.
use Rattle.gup_law_tables.proofs.InsideTables.{first_inside, walks_stay, still_used}
use Rattle.gup_law_tables.proofs.walks_stand_in_tables.Goals as goal

pub returns-clause-start : goal.returns-clause-start
returns-clause-start c = λ movable normal tables needs_tables is_born. first_inside movable normal tables needs_tables is_born

pub returns-clause-event : goal.returns-clause-event
returns-clause-event c = λ s e sound stand walks can. walks_stay s e sound stand walks can

pub returns-clause-used : goal.returns-clause-used
returns-clause-used c = λ s a p sequence table write long step stand walks is among. still_used s a p sequence table write long step stand walks is among
