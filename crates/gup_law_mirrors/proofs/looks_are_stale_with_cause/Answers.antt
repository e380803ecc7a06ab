-- By induction over the turns.
use Rattle.std.proofs.Common.{sym, subst}
use Rattle.gup_spec_journal.specs.Stale.{AreStaleSeen}
use Rattle.gup_spec_turns.specs.Run.{run_start}
use Rattle.gup_law_turns.proofs.TurnRuns.{run_turns}
use Rattle.gup_law_mirrors.proofs.KeptSlots.{stale_first}
use Rattle.gup_law_mirrors.proofs.looks_are_stale_with_cause.Goals as goal

pub returns-clause-turns : goal.returns-clause-turns
returns-clause-turns c script turns end valid are = stale_first c.simulates.ensures c.starts_sound.ensures script turns end valid are

pub returns-clause-run : goal.returns-clause-run
returns-clause-run c script notes end valid run =
    subst (AreStaleSeen script) (sym run.1)
    (stale_first c.simulates.ensures c.starts_sound.ensures script run.0 end valid (run_turns script run.0 (run_start script) end run.2))
