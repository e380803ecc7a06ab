-- By induction over the turns, backwards from their end.
use Rattle.std.proofs.Common.{◌≡◌, ℕ, ◌<◌, false, List, length, sym, subst}
use Rattle.gup_script.specs.Script.{ScriptValue}
use Rattle.gup_script.specs.Valid.{IsScript}
use Rattle.gup_spec_journal.specs.Follows.{Follows, own_notes}
use Rattle.gup_spec_journal.specs.Order.{Turn, journal_of}
use Rattle.gup_spec_journal.specs.Place.{first_place, process_of, ops_of}
use Rattle.gup_spec_turns.specs.Run.{RunState, run_start, AreTurns, AreBetween, can_go}
use Rattle.gup_law_journal.proofs.RunEnds.{end_turns}
use Rattle.gup_law_journal.proofs.RunNotes.{follows_turns, are_between}
use Rattle.gup_law_journal.proofs.OperationNotes.{left_shapes}
use Rattle.gup_law_turns.proofs.TurnRuns.{run_turns, stands_turns}
use Rattle.gup_law_turns.proofs.StandingTurns.{Starts, stands_first}
use Rattle.gup_law_turns.proofs.EventLists.{Law}
use Rattle.gup_law_journal.proofs.core_run_follows.Goals as goal

follow : Law → Starts → (script : ScriptValue) (turns : List Turn) (end : RunState) → IsScript script → AreTurns script (run_start script) turns end → AreBetween script end → Follows script (journal_of 1 (λ _. first_place) turns)
follow law starts script turns end valid are between a =
    let h = stands_first starts script valid in
    let left = follows_turns law script valid turns 1 (run_start script) end h are between in
    left_shapes a (process_of script a) 1 (ops_of script a) (own_notes a (journal_of 1 (λ _. first_place) turns)) 0 (left a)

stop_between : Law → Starts → (script : ScriptValue) (turns : List Turn) (end : RunState) → IsScript script → AreTurns script (run_start script) turns end → ((a : ℕ) → a < length script.actors → can_go script end a ≡ false) → AreBetween script end
stop_between law starts script turns end valid are stopped =
    are_between script valid end (stands_turns law script valid turns (run_start script) end (stands_first starts script valid) are) stopped

pub returns-clause-turns : goal.returns-clause-turns
returns-clause-turns c script turns end valid are between = follow c.simulates.ensures c.starts_sound.ensures script turns end valid are between

pub returns-clause-between : goal.returns-clause-between
returns-clause-between c script turns end valid are stopped = stop_between c.simulates.ensures c.starts_sound.ensures script turns end valid are stopped

pub returns-clause-run : goal.returns-clause-run
returns-clause-run c script notes end valid run =
    let are = run_turns script run.0 (run_start script) end run.2 in
    let between = stop_between c.simulates.ensures c.starts_sound.ensures script run.0 end valid are (end_turns script run.0 (run_start script) end (λ some. some) run.2) in
    subst (Follows script) (sym run.1) (follow c.simulates.ensures c.starts_sound.ensures script run.0 end valid are between)
