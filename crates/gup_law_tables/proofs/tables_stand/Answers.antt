-- The start, and each event.
use Rattle.gup_spec_events.specs.State.{core_start}
use Rattle.gup_law_tables.proofs.TableEvents.{stay}
use Rattle.gup_law_tables.proofs.TableRuns.{first_stand, stand_run}
use Rattle.gup_law_tables.proofs.tables_stand.Goals as goal

pub returns-clause-event : goal.returns-clause-event
returns-clause-event c = λ s e stand can. stay s e stand can

pub returns-clause-run : goal.returns-clause-run
returns-clause-run c = λ movable normal tables needs_tables is_born es few can. stand_run (core_start movable normal tables needs_tables is_born) es (first_stand movable normal tables needs_tables is_born few) can
