-- From the start on, which is sound.
use Rattle.std.specs.Prelude.{[]}
use Rattle.gup_spec_events.specs.State.{CoreState, core_start}
use Rattle.gup_spec_events.specs.Event.{run}
use Rattle.gup_law_base.specs.Sound.{IsSound}
use Rattle.gup_law_tables.specs.Standing.{TablesStand}
use Rattle.gup_law_tables.specs.Inside.{WalksStand}
use Rattle.gup_law_events.proofs.Start.{sound_start}
use Rattle.gup_law_events.proofs.PublishedRules.{published}
use Rattle.gup_law_events.proofs.EventRuns.{sound_run, possible_run, stands_run}
use Rattle.gup_law_events.proofs.InsideRuns.{inside_run}
use Rattle.gup_law_events.proofs.core_runs_hold.Goals as goal

pub returns-clause-holds : goal.returns-clause-holds
returns-clause-holds c = λ movable normal tables needs_tables is_born es can. let sound : IsSound (run (core_start movable normal tables needs_tables is_born) es) = sound_run c.simulates.ensures (core_start movable normal tables needs_tables is_born) es (sound_start movable normal tables needs_tables is_born) can in published sound.0 (run (core_start movable normal tables needs_tables is_born) es) sound.1

pub returns-clause-plain : goal.returns-clause-plain
returns-clause-plain c = λ movable normal tables needs_tables is_born es can. possible_run c.simulates.ensures (core_start movable normal tables needs_tables is_born) es (sound_start movable normal tables needs_tables is_born) can

pub returns-clause-stands : goal.returns-clause-stands
returns-clause-stands c = λ movable normal tables needs_tables is_born es can. stands_run c.simulates.ensures (core_start movable normal tables needs_tables is_born) es (sound_start movable normal tables needs_tables is_born) can

pub returns-clause-inside : goal.returns-clause-inside
returns-clause-inside c = λ movable normal tables needs_tables is_born es a p sequence table write long step few can in-walk among. let s : CoreState = core_start movable normal tables needs_tables is_born in let stand : TablesStand (run s es) = c.tables_stand.ensures.run movable normal tables needs_tables is_born es few can in let first : TablesStand s = c.tables_stand.ensures.run movable normal tables needs_tables is_born [] few tt in let walks : WalksStand (run s es) = inside_run c.simulates.ensures c.tables_stand.ensures.event c.walks_stand_in_tables.ensures.event s es (sound_start movable normal tables needs_tables is_born) first (c.walks_stand_in_tables.ensures.start movable normal tables needs_tables is_born) can in c.walks_stand_in_tables.ensures.used (run s es) a p sequence table write long step stand walks in-walk among
