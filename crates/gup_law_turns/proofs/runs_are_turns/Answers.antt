-- By induction over the turns.
use Rattle.gup_law_turns.proofs.TurnRuns.{run_turns, turned_by, turns_by}
use Rattle.gup_law_turns.proofs.runs_are_turns.Goals as goal

pub returns-clause-run : goal.returns-clause-run
returns-clause-run c script turns r end run = run_turns script turns r end run

pub returns-clause-reached : goal.returns-clause-reached
returns-clause-reached c script turns r end are = turned_by script turns r end are

pub returns-clause-taken : goal.returns-clause-taken
returns-clause-taken c script actors r = turns_by script actors r
