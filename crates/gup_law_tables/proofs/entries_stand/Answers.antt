-- The start, and an event for each.
use Rattle.gup_law_tables.proofs.Paths.{first_paths, paths_stand}
use Rattle.gup_law_tables.proofs.entries_stand.Goals as goal

pub returns-clause-start : goal.returns-clause-start
returns-clause-start c = λ movable normal tables needs_tables is_born. first_paths movable normal tables needs_tables is_born

pub returns-clause-event : goal.returns-clause-event
returns-clause-event c = λ s e sound stand have can. paths_stand s e sound stand have can
