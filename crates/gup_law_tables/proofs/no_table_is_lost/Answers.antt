-- An event for each, and the start.
use Rattle.gup_spec_events.specs.State.{core_start}
use Rattle.gup_law_tables.proofs.Somewhere.{not_lost, first_free, not_lost_run}
use Rattle.gup_law_tables.proofs.no_table_is_lost.Goals as goal

pub returns-clause-event : goal.returns-clause-event
returns-clause-event c = λ s e table can is. not_lost s e table can is

pub returns-clause-run : goal.returns-clause-run
returns-clause-run c = λ movable normal tables needs_tables is_born es table can small. not_lost_run (core_start movable normal tables needs_tables is_born) es table can (first_free movable normal tables needs_tables is_born table small)
