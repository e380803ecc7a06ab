-- By induction over the turns of the run.
use Rattle.std.proofs.Common.{subst}
use Rattle.gup_law_turns.specs.Standing.{IsStanding}
use Rattle.gup_spec_turns.specs.Run.{actors_of, RunState, run_start}
use Rattle.gup_law_journal.proofs.RunEnds.{end_turns, waits_for_birth_or_pin}
use Rattle.gup_law_turns.proofs.TurnRuns.{run_turns, turned_by}
use Rattle.gup_law_journal.proofs.runs_end_at_waits.Goals as goal

pub returns-clause-ends : goal.returns-clause-ends
returns-clause-ends c script turns end run a below = end_turns script turns (run_start script) end (λ some. some) run a below

pub returns-clause-waits : goal.returns-clause-waits
returns-clause-waits c script turns end valid run a waiting waits =
    let led = turned_by script turns (run_start script) end (run_turns script turns (run_start script) end run) in
    let stands = subst (λ (r : RunState). IsStanding script r) led (c.reached_states_stand.ensures script (actors_of turns) valid) in
    let stuck = end_turns script turns (run_start script) end (λ some. some) run in
    waits_for_birth_or_pin script valid end stands stuck a waiting waits
