-- By induction over the turns.
use Rattle.std.proofs.Common.{◌≡◌, ℕ, List, subst, ap, ◌∙◌, arith}
use Rattle.gup_script.specs.Script.{ScriptValue}
use Rattle.gup_spec_journal.specs.Order.{Turn, journal_of}
use Rattle.gup_spec_journal.specs.Place.{first_place}
use Rattle.gup_spec_turns.specs.Cause.{answered_in, HaveFinished}
use Rattle.gup_spec_turns.specs.Cost.{operations}
use Rattle.gup_law_turns.specs.Standing.{IsStanding}
use Rattle.gup_spec_turns.specs.Run.{actors_of, turned, RunState, run_start, AreTurns}
use Rattle.gup_law_journal.proofs.TurnAnswers.{turns_count, all_operations, nothing_answered}
use Rattle.gup_law_turns.proofs.TurnRuns.{run_turns, turned_by}
use Rattle.gup_law_journal.proofs.finished_runs_answer_all.Goals as goal

answer_all : (script : ScriptValue) (turns : List Turn) (end : RunState) → ((actors : List ℕ) → IsStanding script (turned script (run_start script) actors)) → AreTurns script (run_start script) turns end → HaveFinished script end → answered_in (journal_of 1 (λ _. first_place) turns) ≡ operations script
answer_all script turns end stand are finished =
    let stands = subst (λ (r : RunState). IsStanding script r) (turned_by script turns (run_start script) end are) (stand (actors_of turns)) in
    let counts = turns_count script turns 1 (run_start script) end are in
    let all = all_operations script end stands finished in
    let none = nothing_answered script in
    omega (arith, counts, all, none)

pub returns-clause-turns : goal.returns-clause-turns
returns-clause-turns c script turns end valid are finished =
    answer_all script turns end (λ actors. c.reached_states_stand.ensures script actors valid) are finished

pub returns-clause-run : goal.returns-clause-run
returns-clause-run c script notes end valid run finished =
    ap answered_in run.1
    ∙ answer_all script run.0 end (λ actors. c.reached_states_stand.ensures script actors valid) (run_turns script run.0 (run_start script) end run.2) finished
