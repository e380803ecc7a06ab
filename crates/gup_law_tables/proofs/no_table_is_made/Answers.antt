-- An event for each, and the start.
use Rattle.gup_spec_events.specs.State.{core_start}
use Rattle.gup_law_tables.proofs.Nowhere.{not_made, none_made, not_made_run}
use Rattle.gup_law_tables.proofs.no_table_is_made.Goals as goal

pub returns-clause-event : goal.returns-clause-event
returns-clause-event c = λ s e table can is. not_made s e table can is

pub returns-clause-run : goal.returns-clause-run
returns-clause-run c = λ movable normal tables needs_tables is_born es table can is. none_made movable normal tables needs_tables is_born table (not_made_run (core_start movable normal tables needs_tables is_born) es table can is)
