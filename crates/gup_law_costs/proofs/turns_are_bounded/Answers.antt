-- A turn by the operation that the actor stands at, and its turns by induction over all of them.
use Rattle.gup_spec_turns.specs.Run.{run_start}
use Rattle.gup_law_turns.proofs.ReachedStates.{starts_reached}
use Rattle.gup_law_costs.proofs.TurnCosts.{bounded_turn}
use Rattle.gup_law_costs.proofs.TurnBounds.{within_first, within_turned}
use Rattle.gup_law_costs.proofs.turns_are_bounded.Goals as goal

pub returns-clause-turn : goal.returns-clause-turn
returns-clause-turn c script r a op valid stands is free = bounded_turn script valid r stands a op is free

pub returns-clause-within : goal.returns-clause-within
returns-clause-within c script actors a op valid is =
    let reached = starts_reached c.starts_sound.ensures c.walks_stand_in_tables.ensures.start script valid in
    within_turned c.simulates.ensures c.walks_stand_in_tables.ensures.event c.sound_states_hold.ensures script valid actors (run_start script) reached (within_first script reached) a op is
