-- By induction over the turns.
use Rattle.gup_spec_turns.specs.Run.{run_start}
use Rattle.gup_law_turns.proofs.ReachedStates.{reaches, starts_reached}
use Rattle.gup_law_turns.proofs.reached_states_stand.Goals as goal

pub returns : goal.returns
returns c script actors valid =
    reaches c.simulates.ensures c.walks_stand_in_tables.ensures.event c.sound_states_hold.ensures script valid actors (run_start script)
    (starts_reached c.starts_sound.ensures c.walks_stand_in_tables.ensures.start script valid)
