-- By induction over the turns, and what is right of what is both right and thorough.
use Rattle.std.proofs.Common.{List, sym, subst}
use Rattle.gup_script.specs.Script.{ScriptValue}
use Rattle.gup_script.specs.Valid.{IsScript}
use Rattle.gup_spec_journal.specs.Order.{Turn, journal_of}
use Rattle.gup_spec_journal.specs.Place.{first_place}
use Rattle.gup_spec_journal.specs.Plain.{IsPlain, judged_first}
use Rattle.gup_spec_turns.specs.Run.{RunState, run_start, AreTurns}
use Rattle.gup_law_turns.proofs.NoteRightness.{are_plain}
use Rattle.gup_law_turns.proofs.TurnRuns.{plain_turns, run_turns}
use Rattle.gup_law_turns.proofs.StandingTurns.{Starts, stands_first}
use Rattle.gup_law_turns.proofs.EventLists.{Law}
use Rattle.gup_law_journal.proofs.core_run_is_plain.Goals as goal

plain : Law → Starts → (script : ScriptValue) (turns : List Turn) (end : RunState) → IsScript script → AreTurns script (run_start script) turns end → IsPlain script (journal_of 1 (λ _. first_place) turns)
plain law starts script turns end valid are =
    let both = plain_turns law script valid turns 1 (run_start script) end (stands_first starts script valid) are in
    are_plain script (judged_first script) (journal_of 1 (λ _. first_place) turns) both

pub returns-clause-turns : goal.returns-clause-turns
returns-clause-turns c script turns end valid are = plain c.simulates.ensures c.starts_sound.ensures script turns end valid are

pub returns-clause-run : goal.returns-clause-run
returns-clause-run c script notes end valid run =
    subst (IsPlain script) (sym run.1) (plain c.simulates.ensures c.starts_sound.ensures script run.0 end valid (run_turns script run.0 (run_start script) end run.2))
