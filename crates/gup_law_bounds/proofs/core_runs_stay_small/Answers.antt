-- From the start on, which is sound and within the limits.
use Rattle.std.proofs.Common.{◌+◌, arith}
use Rattle.gup_spec_events.specs.State.{core_start}
use Rattle.gup_spec_events.specs.Event.{run}
use Rattle.gup_law_base.specs.Sound.{IsSound}
use Rattle.gup_law_bounds.proofs.EventNumbers.{numbers_first}
use Rattle.gup_law_bounds.proofs.Births.{few_forks}
use Rattle.gup_law_bounds.proofs.FewHolders.{limited_first, few_counts}
use Rattle.gup_law_bounds.proofs.BoundedRuns.{sound_run, numbered_run, limited_run, forked_run}
use Rattle.gup_law_bounds.proofs.core_runs_stay_small.Goals as goal

pub returns-clause-counts : goal.returns-clause-counts
returns-clause-counts c = λ movable normal tables needs_tables is_born es can within f.
    let first : IsSound (core_start movable normal tables needs_tables is_born) = c.starts_sound.ensures movable normal tables needs_tables is_born in
    let sound : IsSound (run (core_start movable normal tables needs_tables is_born) es) = sound_run c.simulates.ensures (core_start movable normal tables needs_tables is_born) es first can in
    let numbered = numbered_run c.simulates.ensures (movable + normal) (core_start movable normal tables needs_tables is_born) es first can (numbers_first movable normal tables needs_tables is_born) in
    few_counts (movable + normal) (run (core_start movable normal tables needs_tables is_born) es) sound numbered (limited_run (core_start movable normal tables needs_tables is_born) es within (limited_first movable normal tables needs_tables is_born)) (c.sound_states_hold.ensures (run (core_start movable normal tables needs_tables is_born) es) sound) f

pub returns-clause-sequences : goal.returns-clause-sequences
returns-clause-sequences c = λ movable normal tables needs_tables is_born es can within p.
    few_forks 16 (run (core_start movable normal tables needs_tables is_born) es) (forked_run c.simulates.ensures (core_start movable normal tables needs_tables is_born) es (c.starts_sound.ensures movable normal tables needs_tables is_born) can within (λ q. omega arith)) p

pub returns-clause-frames : goal.returns-clause-frames
returns-clause-frames c = λ movable normal tables needs_tables is_born es can.
    (numbered_run c.simulates.ensures (movable + normal) (core_start movable normal tables needs_tables is_born) es (c.starts_sound.ensures movable normal tables needs_tables is_born) can (numbers_first movable normal tables needs_tables is_born)).frames
